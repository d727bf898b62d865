use Rattle.std.proofs.Common.{rules, All}
use Rattle.mpb_crew.specs.Workers.{IsReady, HasEnded}
use Rattle.mpb_crew.proofs.Crews.{first_is, rest_are, each_is}
use Rattle.mpb_crew.proofs.crew.+fn-run_all-join_mut+arg3+run_all.Goals as goal

pub join_mut-requires-after_bounds : goal.join_mut-requires-after_bounds
join_mut-requires-after_bounds g t c κs within =
    let P = IsReady c.args.bus.now.bus c.args.latch.now.latch c.args.bus.now.plan in
    let x = c.in-Some.first.now in
    let rest = c.in-Some.rest.now in
    let first : P x = first_is P c.args.workers.now x rest c.in-Some.ensures.cases c.requires.ready in
    let others : All P rest = rest_are P c.args.workers.now x rest c.in-Some.ensures.cases c.requires.ready in (
      (search rules, search rules, c.requires.config, c.requires.words, first),
      (search rules, (search rules, (search rules, ((search rules, search rules, c.requires.config, c.requires.words, others), (search rules, search rules))))),
    )

pub returns-clause-ended : goal.returns-clause-ended
returns-clause-ended g t c = each_is (HasEnded c.args.bus.now.bus c.args.latch.now.latch c.args.bus.now.plan) _ _ (search rules) (search rules)
