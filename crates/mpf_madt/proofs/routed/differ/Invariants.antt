use Rattle.mpf_madt.specs.Lines.{Differs}
use Rattle.mpf_madt.proofs.MaskLemmas.{IsMaskBelow}
use Rattle.mpf_madt.proofs.routed.differ.Given as goal

abbrev pub invariant-loop-irq : goal.invariant-loop-irq
invariant-loop-irq l = IsMaskBelow (Differs l.p l.answers l.madt) l.mask l.irq
