use Rattle.std.proofs.Common.{◌≡◌, take, length}
use Rattle.mpf_madt.specs.Translation.{locals_of}
use Rattle.mpf_madt.proofs.translation.locals.Given as goal

abbrev pub invariant-loop-e : goal.invariant-loop-e
invariant-loop-e l = (l.locals.items ≡ locals_of (take l.e-index l.processors)) × (length l.locals.items ≡ l.e-index)
