use Rattle.std.proofs.Common.{ℕ, ap, sym, ◌∙◌}
use Rattle.std.specs.Prelude.{Option}
use Rattle.mpf_madt.proofs.FirstLemmas.{none_of}
use Rattle.mpf_madt.proofs.TranslationLemmas.{number_passes, number_takes}
use Rattle.mpf_answers.specs.declared.differing_lines.LineDifference.{LineDifference}
use Rattle.mpf_answers.specs.LineDifferences.{difference_at}
use Rattle.mpf_answers.proofs.differing_lines.differences.Goals as goal
use Rattle.mpf_answers.proofs.differing_lines.differences.Goals.{in-Some+in-Ok, in_default}

pub loop-irq-preserved : goal.loop-irq-preserved
loop-irq-preserved c =
    let i = c.loop-irq.irq in
    let g : ℕ → Option LineDifference = difference_at c.args.p.now c.args.answers.now c.args.madt.now in
    let here = sym c.difference_at.ensures in
    elim c.match-difference_at.branch [
      | in-Some+in-Ok w ↦ number_takes g i w.in-Some.difference c.loop-irq.found.items c.match-difference_at.found.items (here ∙ w.in-Some.is) c.loop-irq.invariant (ap (λ v. v.items) w.found-is ∙ w.in-Ok.ensures.items)
      | in_default w ↦ number_passes g i c.loop-irq.found.items c.match-difference_at.found.items (here ∙ none_of c.difference_at.result w.in_default.not-Some) (ap (λ v. v.items) w.found-is) c.loop-irq.invariant
    ]
