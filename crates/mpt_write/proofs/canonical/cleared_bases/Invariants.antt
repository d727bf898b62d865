use Rattle.std.proofs.Common.{◌≡◌, take, map}
use Rattle.mpt_spec.specs.Canonical.{canonical_base}
use Rattle.mpt_write.proofs.canonical.cleared_bases.Given as goal

abbrev pub invariant-loop-entry : goal.invariant-loop-entry
invariant-loop-entry l = l.out.items ≡ map canonical_base (take l.entry-index l.entries)
