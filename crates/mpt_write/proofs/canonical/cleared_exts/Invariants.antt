use Rattle.std.proofs.Common.{◌≡◌, map}
use Rattle.mpt_spec.specs.Canonical.{canonical_ext}
use Rattle.mpt_write.proofs.canonical.cleared_exts.Given as goal

abbrev pub invariant-loop-entry : goal.invariant-loop-entry
invariant-loop-entry l = l.out.items ≡ map canonical_ext l.yielded
