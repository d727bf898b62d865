-- A file that is read piece by piece.
use Rattle.std.proofs.Common.{◌≡◌, ℕ, ◌+◌, ◌≤◌, List, ◌++◌, length, take, take-add, Option, Some, None, IfSome, sym, ap, ◌∙◌, arith}
use Rattle.std.proofs.lemmas.List.{take_all}
use borrow.Rule.Slice.PartMut.{put_mid}
use Rattle.std.proofs.lemmas.Slice.{take-put_mid}
use Rattle.std.specs.Prelude.{option_map}
use Rattle.mpt_base.specs.Bytes.{part}
use Rattle.mpt_base.specs.Outside.{Files, IsSizeTold, FillsFromTold}
use Rattle.mpt_table.specs.Windows.{IfTold}
use Rattle.mptab_walk.specs.File.{IsFilledTo}

filled_piece : (o : Option (List ℕ)) (at e k : ℕ) (buf piece : List ℕ) → at ≤ length buf → e ≡ at + length piece → IfSome o (λ bytes. take at buf ≡ take at bytes) → IfSome o (λ bytes. piece ≡ part bytes at (length piece))
    → IfSome o (λ bytes. take e (put_mid at k buf piece) ≡ take e bytes)
filled_piece None at e k buf piece within ends filled fills = tt
filled_piece (Some bytes) at e k buf piece within ends filled fills =
    take-put_mid at k buf piece e ends within ∙ ap (λ (l : List ℕ). l ++ piece) filled ∙ ap (λ (l : List ℕ). take at bytes ++ l) fills ∙ sym (take-add at (length piece) bytes) ∙ ap (λ (n : ℕ). take n bytes) (sym ends)

-- the piece that was read goes on where the first bytes end
pub IsFilledTo-piece : (told : Option Files) (name : List ℕ) (at e k : ℕ) (buf piece : List ℕ) → at ≤ length buf → e ≡ at + length piece → IsFilledTo told name at buf → FillsFromTold told name at piece → IsFilledTo told name e (put_mid at k buf piece)
IsFilledTo-piece None name at e k buf piece within ends filled fills = tt
IsFilledTo-piece (Some files) name at e k buf piece within ends filled fills = filled_piece (files name) at e k buf piece within ends filled fills

filled_all : (o : Option (List ℕ)) (n at : ℕ) (buf : List ℕ) → Some n ≡ option_map length o → n ≤ at → length buf ≡ n → IfSome o (λ bytes. take at buf ≡ take at bytes) → IfSome o (λ bytes. bytes ≡ buf)
filled_all None n at buf is past all filled = tt
filled_all (Some bytes) n at buf is past all filled =
    let same : n ≡ length bytes = cc in
    let whole : length bytes ≤ at = omega (arith, same, past) in
    let own : length buf ≤ at = omega (arith, all, past) in
    sym (take_all at bytes whole) ∙ sym filled ∙ take_all at buf own

-- a buffer that is filled to its end is the file
pub IsFilledTo-all : (told : Option Files) (name : List ℕ) (n at : ℕ) (buf : List ℕ) → IsSizeTold told name (Some n) → n ≤ at → length buf ≡ n → IsFilledTo told name at buf → IfTold told name (λ bytes. bytes ≡ buf)
IsFilledTo-all None name n at buf is past all filled = tt
IsFilledTo-all (Some files) name n at buf is past all filled = filled_all (files name) n at buf is past all filled
