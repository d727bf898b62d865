use Rattle.std.proofs.Common.{◌∷◌, [], ◌++◌, map, ap, ◌∙◌}
use Rattle.std.proofs.lemmas.Result.{on_ok_weaker}
use Rattle.std.specs.List.{concat}
use Rattle.mpb_spec.specs.Pulses.{logs_of}
use Rattle.mpb_board.specs.BoardView.{state_of}
use Rattle.mpb_report_spec.specs.Numbered.{numbered}
use Rattle.mpb_report_spec.specs.LogLines.{log_line}
use Rattle.mpb_report_spec.specs.StateLines.{state_lines}
use Rattle.mpb_report_spec.specs.Report.{journal_lines, end_line}
use Rattle.mpb_report.proofs.PartLemmas.{lines_behind}
use Rattle.mpb_report.proofs.printing.push_report.Goals as goal

pub returns-in-Ok : goal.returns-in-Ok
returns-in-Ok c =
    let out = c.args.out.now.items in
    let journal = c.push_journal.new.out.items in
    let logs = c.push_log_lines.new.out.items in
    let states = c.push_state_lines.new.out.items in
    let all = c.push_line.new.out.items in
    let state = state_lines (state_of c.args.board.now) in
    on_ok_weaker c.push_line.result
    (λ last. lines_behind out journal all (journal_lines c.args.board.now.journal) (numbered log_line 0 (logs_of c.args.account.now) ++ (state ++ end_line ∷ []))
    (c.in_default.ensures ∙ ap (λ j. out ++ concat (journal_lines j)) c.journal.ensures.journal)
    (lines_behind journal logs all (numbered log_line 0 (logs_of c.args.account.now)) (state ++ end_line ∷ [])
    (c.in_default-push_log_lines.ensures ∙ ap (λ ls. journal ++ concat (numbered log_line 0 (map (λ l. l.items) ls))) c.as_slice.ensures.value)
    (lines_behind logs states all state (end_line ∷ []) c.in-Ok.ensures last)))
    c.push_line.ensures
