-- A number that is put into bytes is read there.
use Rattle.std.proofs.Common.{◌≡◌, ℕ, ◌+◌, ◌^◌, ◌<◌, ◌≤◌, List, ◌++◌, length, take, drop, ◌∙◌, append_assoc, arith}
use Rattle.std.specs.Int.{to_le_bytes, w16, w32, w64}
use Rattle.std.proofs.lemmas.List.{length-take-le}
use Rattle.mpt_base.specs.Bytes.{number_at}
use Rattle.mpt_base.specs.Writing.{overlay}
use Rattle.mpt_spec.proofs.ByteLemmas.{number_at-behind, number_at-to_le_bytes_2, number_at-to_le_bytes_4, number_at-to_le_bytes_8}

-- what is read at the place of a piece is read from the piece and what stands behind it
number_at-overlay : (m : ℕ) (bytes piece : List ℕ) (at : ℕ) → at + length piece ≤ length bytes → number_at m (overlay bytes at piece) at ≡ number_at m (piece ++ drop (at + length piece) bytes) 0
number_at-overlay m bytes piece at fits =
    let long : length (take at bytes) ≡ at = length-take-le at bytes (omega arith) in
    number_at-behind m (overlay bytes at piece) (take at bytes) (piece ++ drop (at + length piece) bytes) at 0 (append_assoc (take at bytes) piece (drop (at + length piece) bytes)) (omega (arith, long))

pub number_at-put_2 : (n : ℕ) (bytes : List ℕ) (at : ℕ) → n < 2 ^ 16 → at + 2 ≤ length bytes → number_at 2 (overlay bytes at (to_le_bytes w16 n)) at ≡ n
number_at-put_2 n bytes at small fits = number_at-overlay 2 bytes (to_le_bytes w16 n) at fits ∙ number_at-to_le_bytes_2 n small

pub number_at-put_4 : (n : ℕ) (bytes : List ℕ) (at : ℕ) → n < 2 ^ 32 → at + 4 ≤ length bytes → number_at 4 (overlay bytes at (to_le_bytes w32 n)) at ≡ n
number_at-put_4 n bytes at small fits = number_at-overlay 4 bytes (to_le_bytes w32 n) at fits ∙ number_at-to_le_bytes_4 n small

pub number_at-put_8 : (n : ℕ) (bytes : List ℕ) (at : ℕ) → n < 2 ^ 64 → at + 8 ≤ length bytes → number_at 8 (overlay bytes at (to_le_bytes w64 n)) at ≡ n
number_at-put_8 n bytes at small fits = number_at-overlay 8 bytes (to_le_bytes w64 n) at fits ∙ number_at-to_le_bytes_8 n small
