use Rattle.std.proofs.Common.{◌≡◌, false, map, take, drop}
use Rattle.mpb_bus.specs.Seats.{fresh_seat}
use Rattle.mpb_bus.specs.Rule.{fresh_agent}
use Rattle.mpb_bus.proofs.opening.seats_of.Given as goal

abbrev pub invariant-loop-agent : goal.invariant-loop-agent
invariant-loop-agent l =
    let start = l.words.shared.key.value in
    (l.all.table_id ≡ l.words.shared.table_id)
    × (l.all.me.0.holds ≡ false)
    × (l.all.me.0.agents ≡ drop l.agent-index (map (fresh_agent start.plan start.journal) l.agents))
    × (l.seats.items ≡ take l.agent-index (map (fresh_seat l.words.shared.table_id start.plan start.journal) l.agents))
