use Rattle.std.proofs.Common.{◌≡◌, false, map}
use Rattle.mpb_bus.specs.Rule.{known_agent}
use Rattle.mpb_bus.proofs.closing.take_all.Given as goal

abbrev pub invariant-loop-seat : goal.invariant-loop-seat
invariant-loop-seat l = (l.all.table_id ≡ l.words.shared.table_id) × (l.all.me.0.holds ≡ false) × (l.all.me.0.agents ≡ map known_agent l.yielded)
