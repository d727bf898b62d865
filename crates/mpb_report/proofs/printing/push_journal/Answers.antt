use Rattle.std.proofs.Common.{length, ◌++◌}
use Rattle.std.proofs.lemmas.Result.{on_ok_weaker}
use Rattle.std.specs.List.{concat}
use Rattle.mpb_report_spec.specs.Numbered.{numbered}
use Rattle.mpb_report_spec.specs.EntryLines.{entry_line}
use Rattle.mpb_report_spec.specs.Report.{title_line, count_line}
use Rattle.mpb_report.proofs.PartLemmas.{written_behind}
use Rattle.mpb_report.proofs.printing.push_journal.Goals as goal

pub returns-in-Ok : goal.returns-in-Ok
returns-in-Ok c =
    let entries = concat (numbered entry_line 0 c.args.journal.now) in
    let count = count_line (length c.args.journal.now) in
    let titled = c.push_line.new.out.items in
    let counted = c.push_line-2.new.out.items in
    let all = c.push_entry_lines.new.out.items in
    on_ok_weaker c.push_entry_lines.result
    (λ last. written_behind c.args.out.now.items title_line (count ++ entries) titled all c.in_default.ensures (written_behind titled count entries counted all c.in-Ok.ensures last))
    c.push_entry_lines.ensures
