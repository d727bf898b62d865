use Rattle.std.proofs.Common.{refl, arith}
use Rattle.mpt_table.proofs.TableFaults.{none_before_count}
use Rattle.mpt_table.proofs.reading.counted_base.Goals as goal

pub returns-else-len-entry_count-clause-miscounted : goal.returns-else-len-entry_count-clause-miscounted
returns-else-len-entry_count-clause-miscounted c =
    rw c.fault_at.ensures (record {
      stands = (refl, c.requires.right.inside, c.in-Ok.base.items, rw c.base_length.ensures at c.in-Ok.ensures.entries, λ e. c.if-len-entry_count.false (omega (arith, e)));
      least = none_before_count c.args.image.now c.args.at c.requires.right;
    })
