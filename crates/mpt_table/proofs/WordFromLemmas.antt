-- The word at a place of a file, read by a window of two bytes.
use Rattle.std.proofs.Common.{◌≡◌, ℕ, ◌+◌, ◌≤◌, ◌<◌, List, length, sym, ap, ◌∙◌, Option, None, Some, arith}
use Rattle.std.specs.Prelude.{option_map, IsSomeAnd}
use Rattle.std.proofs.lemmas.Bool.Decides.{nat_tests}
use Rattle.mpt_base.specs.Bytes.{number_at, part}
use Rattle.mpt_base.specs.Outside.{Files, IsSizeTold, IsInsideTold, FillsFromTold}
use Rattle.mpt_spec.specs.Search.{word_at}
use Rattle.mpt_spec.proofs.WindowLemmas.{Agree-part, Agree-number}
use Rattle.mpt_table.specs.Windows.{IfTold}
use Rattle.mpt_table.proofs.ToldLemmas.{IfTold-map, IfTold-both, IfTold-size, IfTold-fills}

some_inside : (o : Option (List ℕ)) (size at n : ℕ) → Some size ≡ option_map length o → at + n ≤ size → IsSomeAnd o (λ bytes. at + n ≤ length bytes)
some_inside None size at n e room = absurd cc
some_inside (Some bytes) size at n e room =
    let same : size ≡ length bytes = cc in
    omega arith

-- what lies before the told size lies inside the file
pub IsInsideTold-size : (told : Option Files) (name : List ℕ) (size at n : ℕ) → IsSizeTold told name (Some size) → at + n ≤ size → IsInsideTold told name at n
IsInsideTold-size None name size at n e room = tt
IsInsideTold-size (Some files) name size at n e room = some_inside (files name) size at n e room

outside : (image : List ℕ) (at : ℕ) → length image < at + 2 → 0 ≡ word_at image at
outside image at h = grind (arith, nat_tests)

inside : (image : List ℕ) (at : ℕ) → at + 2 ≤ length image → word_at image at ≡ number_at 2 image at
inside image at h = grind (arith, nat_tests)

-- a word that isn't whole in the file is 0
pub word_outside : (told : Option Files) (name : List ℕ) (size at : ℕ) → IsSizeTold told name (Some size) → size < at + 2 → IfTold told name (λ image. 0 ≡ word_at image at)
word_outside told name size at is_size past =
    IfTold-map told name (λ image. length image ≡ size) (λ image. 0 ≡ word_at image at) (λ image same. outside image at (omega arith)) (IfTold-size told name size is_size)

word_of : (image bytes : List ℕ) (at : ℕ) → at + 2 ≤ length image → bytes ≡ part image at 2 → number_at 2 bytes 0 ≡ word_at image at
word_of image bytes at room same =
    let none : at + 0 ≡ at = omega arith in
    let there : number_at 2 (part image at 2) 0 ≡ number_at 2 image (at + 0) = Agree-number 2 (part image at 2) image 0 at 2 0 (omega arith) (Agree-part image at 2) in
    ap (λ (xs : List ℕ). number_at 2 xs 0) same ∙ there ∙ ap (λ (k : ℕ). number_at 2 image k) none ∙ sym (inside image at room)

-- the number of a window of two bytes is the word there
pub word_inside : (told : Option Files) (name : List ℕ) (size at : ℕ) (bytes : List ℕ) (word : ℕ) → IsSizeTold told name (Some size) → at + 2 ≤ size → FillsFromTold told name at bytes → length bytes ≡ 2
    → word ≡ number_at 2 bytes 0 → IfTold told name (λ image. word ≡ word_at image at)
word_inside told name size at bytes word is_size room fills two is =
    IfTold-map told name (λ image. (length image ≡ size) × (bytes ≡ part image at (length bytes))) (λ image. word ≡ word_at image at)
    (λ image h. is ∙ word_of image bytes at (omega (arith, h.0, room)) (h.1 ∙ ap (λ (n : ℕ). part image at n) two))
    (IfTold-both told name (λ image. length image ≡ size) (λ image. bytes ≡ part image at (length bytes)) (IfTold-size told name size is_size) (IfTold-fills told name at bytes fills))
