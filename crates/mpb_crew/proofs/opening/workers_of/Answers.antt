use Rattle.std.proofs.Common.{◌∙◌}
use Rattle.mpb_crew.proofs.Opened.{cols_open, devs_open}
use Rattle.mpb_crew.proofs.opening.workers_of.Goals as goal

pub push_workers-requires-clause-cols : goal.push_workers-requires-clause-cols
push_workers-requires-clause-cols c = c.into_iter-cols.ensures.rest ∙ cols_open c.args.latch.now c.args.bus.now c.args.agents.now c.args.cols.items c.requires.agents c.requires.plans c.requires.cols

pub push_workers-requires-clause-devs : goal.push_workers-requires-clause-devs
push_workers-requires-clause-devs c = c.into_iter-devs.ensures.rest ∙ devs_open c.args.latch.now c.args.bus.now c.args.agents.now c.args.devs.items c.requires.agents c.requires.plans c.requires.devs
