use Rattle.std.proofs.Common.{◌<◌, ◌≢◌, length, arith, get_or-set_other, get_or-set_same, below_more}
use Rattle.std.proofs.Math.ListN.{length-set}
use Rattle.mpt_rules.proofs.ext_index.parents_of.Goals as goal

pub loop-bus-preserved : goal.loop-bus-preserved
loop-bus-preserved c = record {
  long = simp length-set c.loop-bus.invariant.long;
  each = below_more _ _ (λ k h. let ne : k ≢ c.loop-bus.bus = omega arith in rw get_or-set_other (c.loop-bus.invariant.each k h))
      (let lt : c.loop-bus.bus < length c.loop-bus.parents = omega (arith, c.loop-bus.invariant.long) in rw get_or-set_same c.parent_of.ensures);
}
