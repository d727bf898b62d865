-- A checksum in the place of a zero makes the sum of all bytes zero.
use Rattle.std.proofs.Common.{ℕ, ◌<◌, List, length, set, get_or, ◌≡◌, arith, get_or-set_same, length-set}
use Rattle.std.proofs.lemmas.List.Sums.{sum_by-set}
use Rattle.mpt_base.specs.Bytes.{SumsToZero}
use Rattle.mpt_base.specs.Writing.{checksum_of}

pub set-checksum_of : (bytes : List ℕ) (at : ℕ) → at < length bytes → SumsToZero (set (set bytes at 0) at (checksum_of (set bytes at 0)))
set-checksum_of bytes at h =
    let zeroed = set bytes at 0 in
    let inside : at < length zeroed = omega (arith, length-set {A = ℕ}) in
    let zero_there : get_or zeroed at 0 ≡ 0 = get_or-set_same bytes at 0 0 h in
    let changed = sum_by-set (λ (x : ℕ). x) zeroed at (checksum_of zeroed) 0 inside in
    omega (arith, changed, zero_there)
