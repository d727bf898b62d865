use Rattle.std.proofs.Common.{◌≡◌, ◌++◌, take}
use Rattle.mpf_madt.specs.Translation.{nmis_of}
use Rattle.mpf_madt.proofs.translation.push_nmis.Given as goal

abbrev pub invariant-loop-e : goal.invariant-loop-e
invariant-loop-e l = l.out.items ≡ l.fn.out.items ++ nmis_of l.processors (take l.e-index l.lints)
