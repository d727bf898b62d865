-- What the crates above cite: a part of a list by its members, and a floating pointer's fields in the image.
use Rattle.std.proofs.Common.{◌≡◌, ℕ, zero, suc, ◌+◌, ◌<◌, ◌≤◌, List, drop, refl, ap, ◌∙◌, arith}
use Rattle.std.specs.Prelude.{slice_index}
use Rattle.std.proofs.lemmas.List.{get_or-take, get_or-drop}
use Rattle.mpt_base.specs.Bytes.{part, number_at}
use Rattle.mpt_spec.specs.declared.pointer.Pointer.{Pointer}
use Rattle.mpt_spec.specs.Pointer.{IsFloatingPointer}
use Rattle.mpt_spec.specs.Table.{default_number}
use Rattle.mpt_spec.specs.Faults.{address_at, default_at}

-- a byte of a part is a byte of the whole
pub slice_index-part : (bytes : List ℕ) (at n i : ℕ) → i < n → slice_index (part bytes at n) i ≡ slice_index bytes (at + i)
slice_index-part bytes at n i h = get_or-take n (drop at bytes) i 0 h ∙ get_or-drop at bytes i 0

-- a number within a part is a number within the whole
pub number_at-part : (m : ℕ) (bytes : List ℕ) (at n i : ℕ) → i + m ≤ n → number_at m (part bytes at n) i ≡ number_at m bytes (at + i)
number_at-part zero bytes at n i h = refl
number_at-part (suc m) bytes at n i h =
    let first : slice_index (part bytes at n) i ≡ slice_index bytes (at + i) = slice_index-part bytes at n i (omega arith) in
    let rest : number_at m (part bytes at n) (suc i) ≡ number_at m bytes (at + suc i) = number_at-part m bytes at n (suc i) (omega arith) in
    let next : at + suc i ≡ suc (at + i) = omega arith in
    rw (first, rest, next) refl

-- the fields of a floating pointer where it stands in the image
pub record HasPointerFieldsAt (p : Pointer) (image : List ℕ) (at : ℕ) : Type 0 where
  pub address : p.address ≡ address_at image at
  pub default : default_number p ≡ default_at image at
  pub revision : p.revision ≡ slice_index image (at + 9)

-- a floating pointer in the image has its address, its default configuration and its revision from there
pub IsFloatingPointer-fields : (p : Pointer) (image : List ℕ) (at : ℕ) → IsFloatingPointer p (part image at 16) → HasPointerFieldsAt p image at
IsFloatingPointer-fields p image at h = record {
  address = h.address ∙ number_at-part 4 image at 16 4 (omega arith);
  default =
      ap (λ fs. slice_index fs 0) h.features ∙ slice_index-part (part image at 16) 11 5 0 (omega arith) ∙ slice_index-part image at 16 11 (omega arith);
  revision = h.revision ∙ slice_index-part image at 16 9 (omega arith);
}
