use Rattle.mpb_bus.proofs.Answered.{all_begin, all_complete, all_own, all_planned, all_quiet, some_whole}
use Rattle.mpb_bus.proofs.bus.Bus.close.Goals as goal

pub returns-clause-prefix : goal.returns-clause-prefix
returns-clause-prefix c = all_begin c.settle.result.plan c.settle.result.journal c.args.seats.items c.take_all-all.result.me.0.agents c.take_all-all.ensures.agents.1 c.settle.ensures.fits

pub returns-clause-mine : goal.returns-clause-mine
returns-clause-mine c = all_own c.settle.result.plan c.settle.result.journal c.args.seats.items c.take_all-all.result.me.0.agents c.take_all-all.ensures.agents.1 c.settle.ensures.fits

pub returns-clause-quiet : goal.returns-clause-quiet
returns-clause-quiet c = all_quiet c.settle.result.plan c.settle.result.journal c.args.seats.items c.take_all-all.result.me.0.agents c.take_all-all.ensures.agents.1 c.settle.ensures.fits c.settle.ensures.legal

pub returns-clause-longest : goal.returns-clause-longest
returns-clause-longest c = some_whole c.settle.result.plan c.settle.result.journal c.args.seats.items c.take_all-all.result.me.0.agents c.take_all-all.ensures.agents.1 c.settle.ensures.fits c.settle.ensures.latest

pub returns-clause-complete : goal.returns-clause-complete
returns-clause-complete c = all_complete c.settle.result.plan c.settle.result.journal c.args.seats.items c.take_all-all.result.me.0.agents c.take_all-all.ensures.agents.1 c.settle.ensures.fits c.settle.ensures.legal

pub returns-clause-plans : goal.returns-clause-plans
returns-clause-plans c = all_planned c.settle.result.plan c.settle.result.journal c.args.seats.items c.take_all-all.result.me.0.agents c.take_all-all.ensures.agents.1 c.settle.ensures.fits
