use Rattle.std.proofs.Common.{◌≡◌, ◌++◌}
use Rattle.std.specs.Prelude.{filter_map}
use Rattle.std.specs.List.{range_with_len}
use Rattle.mpf_madt.specs.Lines.{source_of}
use Rattle.mpf_madt.specs.Translation.{override_for}
use Rattle.mpf_madt.proofs.translation.push_overrides.Given as goal

abbrev pub invariant-loop-irq : goal.invariant-loop-irq
invariant-loop-irq l = l.out.items ≡ l.fn.out.items ++ filter_map (λ irq. override_for irq (source_of l.p l.answers irq)) (range_with_len 0 l.irq)
