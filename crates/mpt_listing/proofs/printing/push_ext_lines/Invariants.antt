use Rattle.std.proofs.Common.{◌≡◌, ◌++◌, take}
use Rattle.std.specs.List.{flat_map}
use Rattle.mpt_listing.specs.Listing.{ext_line}
use Rattle.mpt_listing.proofs.printing.push_ext_lines.Given as goal

abbrev pub invariant-loop-entry : goal.invariant-loop-entry
invariant-loop-entry l = l.out.items ≡ l.initial.out.items ++ flat_map ext_line (take l.entry-index l.entries)
