use Rattle.std.proofs.Common.{◌≡◌, ◌∷◌, map}
use Rattle.std.specs.Prelude.{filter}
use Rattle.std.specs.List.{range_with_len}
use Rattle.mpt_route.specs.Defaults.{interrupt, int_row, is_connected}
use Rattle.mpt_route.proofs.defaults.put_ints.Given as goal

abbrev pub invariant-loop-irq : goal.invariant-loop-irq
invariant-loop-irq l = l.ints.items ≡ interrupt 3 0 2 0 ∷ map int_row (filter (is_connected l.number) (range_with_len 0 l.irq))
