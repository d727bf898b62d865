use Rattle.std.proofs.Common.{◌≡◌}
use Rattle.std.specs.Prelude.{filter_map}
use Rattle.std.specs.List.{range_with_len}
use Rattle.mpf_answers.specs.LineDifferences.{difference_at}
use Rattle.mpf_answers.proofs.differing_lines.differences.Given as goal

abbrev pub invariant-loop-irq : goal.invariant-loop-irq
invariant-loop-irq l = l.found.items ≡ filter_map (difference_at l.p l.answers l.madt) (range_with_len 0 l.irq)
