use Rattle.std.proofs.Common.{arith}
use Rattle.std.specs.Int.{bit_at}
use Rattle.std.proofs.lemmas.Nat.Bits.{shr_and_one}
use Rattle.std.proofs.lemmas.Bool.Decides.{nat_tests}
use Rattle.mpb_spec.proofs.Logs.{merged_of}
use Rattle.mpb_latch.proofs.latch.hit_at.Goals as goal

pub returns-else-found-pin-eq0 : goal.returns-else-found-pin-eq0
returns-else-found-pin-eq0 c = merged_of (bit_at c.args.found c.args.pin) (λ z. absurd (grind (arith, nat_tests, shr_and_one c.args.found c.args.pin)))
