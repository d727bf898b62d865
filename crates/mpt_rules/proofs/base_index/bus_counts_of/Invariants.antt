use Rattle.std.proofs.Common.{◌≡◌, ◌≤◌, length, take}
use Rattle.std.specs.Prelude.{filter}
use Rattle.mpt_rules.specs.Entries.{is_bus}
use Rattle.mpt_rules.specs.Index.{AreBusCounts}
use Rattle.mpt_rules.proofs.base_index.bus_counts_of.Given as goal

abbrev pub invariant-loop-i : goal.invariant-loop-i
invariant-loop-i l = record {
  counts : AreBusCounts l.entries l.i l.counts.items;
  count : l.count ≡ length (filter is_bus (take l.i l.entries));
  small : l.count ≤ l.i;
}
