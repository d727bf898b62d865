use Rattle.std.proofs.Common.{ap, sym, ◌∙◌}
use Rattle.std.specs.Prelude.{bit_or}
use Rattle.std.proofs.lemmas.Bool.{false≢true}
use Rattle.mpf_madt.specs.Lines.{Differs}
use Rattle.mpf_madt.proofs.MaskLemmas.{bit_noted, bit_passed}
use Rattle.mpf_madt.proofs.routed.differ.Goals as goal
use Rattle.mpf_madt.proofs.routed.differ.Goals.{then-differs, else-differs}

pub loop-irq-preserved : goal.loop-irq-preserved
loop-irq-preserved c =
    let P = Differs c.args.p.now c.args.answers.now c.args.madt.now in
    elim c.if-differs.branch [
      | then-differs w ↦ bit_noted P c.loop-irq.mask c.if-differs.mask c.loop-irq.irq (c.differs.ensures.0 w.if-differs.true) (w.mask-is ∙ ap (λ b. bit_or c.loop-irq.mask b) w.bit_of-mask.ensures) c.loop-irq.invariant
      | else-differs w ↦ bit_passed P c.loop-irq.mask c.if-differs.mask c.loop-irq.irq (λ h. false≢true (sym w.if-differs.false ∙ c.differs.ensures.1 h)) w.mask-is c.loop-irq.invariant
    ]
