use Rattle.std.proofs.Common.{◌≡◌, ◌++◌, length}
use Rattle.std.specs.List.{flat_map, AllByRecursion}
use Rattle.mpt_spec.specs.Values.{IsBaseValue}
use Rattle.mpt_listing.specs.Listing.{base_line}
use Rattle.mpt_parse.proofs.entries.read_base_lines.Given as goal

abbrev pub invariant-loop-entry : goal.invariant-loop-entry
invariant-loop-entry l = (l.text ≡ flat_map base_line l.entries.items ++ l.rest) × AllByRecursion IsBaseValue l.entries.items

abbrev pub decreases-loop-entry : goal.decreases-loop-entry
decreases-loop-entry l = length l.rest
