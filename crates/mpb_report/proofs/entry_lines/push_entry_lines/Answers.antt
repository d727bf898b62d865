use Rattle.std.proofs.Common.{◌≡◌, ◌++◌, ap, ◌∙◌, take}
use Rattle.std.proofs.lemmas.List.{take_all}
use Rattle.std.specs.List.{concat}
use Rattle.mpb_report_spec.specs.Numbered.{numbered}
use Rattle.mpb_report_spec.specs.EntryLines.{entry_line}
use Rattle.mpb_report.proofs.LineLemmas.{numbered_more}
use Rattle.mpb_report.proofs.entry_lines.push_entry_lines.Goals as goal

pub loop-number-preserved : goal.loop-number-preserved
loop-number-preserved c =
    let out = c.args.out.now.items in
    let journal = c.args.journal.now in
    let n = c.loop-number.number in
    c.in_default.ensures.line
    ∙ ap (λ t. t ++ entry_line n c.index-journal-number.result) c.loop-number.invariant
    ∙ ap (λ x. (out ++ concat (numbered entry_line 0 (take n journal))) ++ entry_line n x) c.index-journal-number.is
    ∙ numbered_more out entry_line journal n c.index-journal-number.result c.loop-number-test.true

pub returns : goal.returns
returns c =
    let journal = c.args.journal.now in
    let whole : take c.loop-number.number journal ≡ journal = take_all c.loop-number.number journal c.loop-number-test.false in
    c.loop-number.invariant ∙ ap (λ xs. c.args.out.now.items ++ concat (numbered entry_line 0 xs)) whole
