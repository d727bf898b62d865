use Rattle.std.proofs.Common.{◌≡◌, ◌++◌, ◌≤◌, ◌+◌, ◌-◌, ◌/◌}
use Rattle.mpt_rows.proofs.PieceLemmas.{multiples}
use Rattle.mpt_rows.proofs.plain.push_places.Given as goal

abbrev pub invariant-loop-paragraph : goal.invariant-loop-paragraph
invariant-loop-paragraph l = (l.paragraph ≤ (l.fn.area.from + 15) / 16 + (l.fn.area.to / 16 - (l.fn.area.from + 15) / 16)) × (l.out.items ≡ l.fn.out.items ++ multiples ((l.fn.area.from + 15) / 16) (l.paragraph - (l.fn.area.from + 15) / 16))
