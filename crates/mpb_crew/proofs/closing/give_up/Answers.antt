use Rattle.std.proofs.Common.{rules}
use Rattle.mpb_crew.specs.Workers.{col_of, dev_of}
use Rattle.mpb_crew.proofs.AtClose.{one_more_of, one_more_seat}
use Rattle.mpb_crew.proofs.closing.give_up.Goals as goal

pub loop-worker-preserved : goal.loop-worker-preserved
loop-worker-preserved c = (
  one_more_seat c.loop-worker.yielded c.in-Some.worker c.loop-worker.seats.items c.push.new.self.items c.loop-worker.invariant.0 c.in-Ok.ensures.items,
  one_more_of col_of c.loop-worker.yielded c.in-Some.worker c.loop-worker.cols.items c.put_part.new.cols.items c.loop-worker.invariant.1 c.put_part.ensures.cols,
  one_more_of dev_of c.loop-worker.yielded c.in-Some.worker c.loop-worker.devs.items c.put_part.new.devs.items c.loop-worker.invariant.2 c.put_part.ensures.devs,
  search rules,
  search rules,
  search rules,
)
