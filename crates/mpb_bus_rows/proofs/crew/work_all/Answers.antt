use Rattle.std.proofs.Common.{◌≡◌, ◌∙◌, List, get_or, length, sym, ap, subst, arith}
use Rattle.mpb_bus.specs.Seats.{AgentSeat, AreSeatsOf}
use Rattle.mpb_bus_rows.proofs.Lists.{written_back, kept_agents}
use Rattle.mpb_bus_rows.proofs.crew.work_all.Goals as goal

pub returns : goal.returns
returns g c =
    let old = c.args.seats.now in
    let shown : c.as_mut_slice.result.now ≡ old.items = c.as_mut_slice.ensures.value in
    let new = c.work_each.new.seats in
    let long = ap (λ (l : List AgentSeat). length l) shown in
    let same : length new ≡ length old.items = (let a = c.work_each.auto.seats in omega arith) in
    let agents = kept_agents new old.items same (λ i d l. c.work_each.ensures.agents i d (omega arith) ∙ ap (λ (xs : List AgentSeat). (get_or xs i d).agent) shown) in
    subst (AreSeatsOf c.args.bus.now) (sym (written_back new old.items old.len same old.ok.0)) (agents ∙ c.requires.0, c.work_each.ensures.bus)
