use Rattle.std.proofs.Common.{[], rules, sym, ap, ◌∙◌}
use Rattle.mpb_bus.specs.Seats.{fresh_seat}
use Rattle.mpb_crew.specs.Workers.{cols_for, devs_for, fresh_worker}
use Rattle.mpb_crew.proofs.Opened.{first_of_rest, first_made, rest_made, pushed_first, worker_made}
use Rattle.mpb_crew.proofs.opening.+push_workers.Goals as goal

pub part_of-part-requires-clause-cols : goal.part_of-part-requires-clause-cols
part_of-part-requires-clause-cols t c = c.requires.cols ∙ ap (cols_for c.args.latch.now.latch c.args.bus.now.plan) (first_of_rest c.args.agents.now _ c.in-len1-up.len_at_least)

pub part_of-part-requires-clause-devs : goal.part_of-part-requires-clause-devs
part_of-part-requires-clause-devs t c = c.requires.devs ∙ ap (devs_for c.args.latch.now.latch c.args.bus.now.plan) (first_of_rest c.args.agents.now _ c.in-len1-up.len_at_least)

pub push_workers-requires : goal.push_workers-requires
push_workers-requires t c =
    let fresh = fresh_seat c.args.bus.now.bus c.args.bus.now.plan [] in
    (search rules, (rest_made fresh c.args.agents.now c.in-Some.seat _ c.in-len1-up.len_at_least (sym c.in-Some.ensures.items ∙ c.requires.seats), (c.part_of-part.ensures.cols, c.part_of-part.ensures.devs)))

pub returns : goal.returns
returns t c =
    let fresh = fresh_seat c.args.bus.now.bus c.args.bus.now.plan [] in
    let made = fresh_worker c.args.bus.now.bus c.args.latch.now.latch c.args.bus.now.plan in
    pushed_first made c.args.agents.now _ _ c.args.workers.now.items _ _ c.push_workers.result c.in-len1-up.len_at_least
    (worker_made _ _ _ _ _ _ (first_made fresh c.args.agents.now _ c.in-Some.seat _ c.in-len1-up.len_at_least (sym c.in-Some.ensures.items ∙ c.requires.seats)) c.part_of-part.ensures.part)
    c.in-Ok.ensures.items c.push_workers.ensures
