use Rattle.std.proofs.Common.{◌≡◌, ◌&&◌, ℕ, ◌<◌, false, nat_le}
use Rattle.mpb_setup.specs.Faults.{names_place}
use Rattle.mpb_setup.proofs.faults.least_absent_place.Given as goal

abbrev pub invariant-loop-place : goal.invariant-loop-place
invariant-loop-place l = (k : ℕ) → k < l.place → (nat_le l.ios k && names_place l.ids l.s k) ≡ false
