use Rattle.std.proofs.Common.{◌≡◌, map, ◌++◌, ap, ◌∙◌}
use Rattle.std.proofs.lemmas.Result.{on_ok_weaker}
use Rattle.std.specs.List.{concat}
use Rattle.mpb_board.specs.BoardView.{state_of}
use Rattle.mpb_report_spec.specs.Numbered.{numbered}
use Rattle.mpb_report_spec.specs.StateLines.{imcr_line, processor_line, place_line}
use Rattle.mpb_report.proofs.PartLemmas.{written_behind, lines_behind}
use Rattle.mpb_report.proofs.state_lines.push_state_lines.Goals as goal

pub returns-in-Ok : goal.returns-in-Ok
returns-in-Ok c =
    let state = state_of c.args.board.now in
    let out = c.args.out.now.items in
    let imcr = c.push_imcr_line.new.out.items in
    let cpus = c.push_cpu_lines.new.out.items in
    let all = c.push_io_lines.new.out.items in
    let processors = map processor_line state.processors in
    let places = numbered place_line 0 state.places in
    let first : imcr ≡ out ++ imcr_line state.imcr = c.in_default.ensures ∙ ap (λ r. out ++ imcr_line r) c.imcr.ensures.register in
    on_ok_weaker c.push_io_lines.result
    (λ last. written_behind out (imcr_line state.imcr) (concat (processors ++ places)) imcr all first (lines_behind imcr cpus all processors places c.in-Ok.ensures last))
    c.push_io_lines.ensures
