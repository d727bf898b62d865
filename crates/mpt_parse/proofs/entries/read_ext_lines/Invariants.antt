use Rattle.std.proofs.Common.{◌≡◌, ◌++◌, length}
use Rattle.std.specs.List.{flat_map, AllByRecursion}
use Rattle.mpt_listing.specs.Listing.{ext_line}
use Rattle.mpt_line.specs.Lines.{IsRightExt}
use Rattle.mpt_parse.proofs.entries.read_ext_lines.Given as goal

abbrev pub invariant-loop-line : goal.invariant-loop-line
invariant-loop-line l = (l.text ≡ flat_map ext_line l.entries.items ++ l.rest) × AllByRecursion IsRightExt l.entries.items

abbrev pub decreases-loop-line : goal.decreases-loop-line
decreases-loop-line l = length l.rest
