-- The search of an area in its window, as an image of its own.
use Rattle.std.proofs.Common.{◌≡◌, ℕ, zero, suc, ◌+◌, ◌-◌, ◌*◌, ◌/◌, ◌%◌, ◌≤◌, List, [], ◌∷◌, ◌++◌, map, refl, sym, ap, ◌∙◌, subst, arith}
use Rattle.std.specs.List.{AllByRecursion, range_with_len}
use Rattle.mpt_base.specs.Bytes.{part}
use Rattle.mpt_spec.specs.declared.pointer.Area.{Area}
use Rattle.mpt_spec.specs.Pointer.{IsFloatingPointer}
use Rattle.mpt_spec.specs.Search.{IsFirst, HoldsAtNone, HasPointerAt, places_in}
use Rattle.mpt_spec.proofs.WindowLemmas.{part-part}

abbrev multiples : ℕ → ℕ → List ℕ
multiples low n = map (λ k. 16 * k) (range_with_len low n)

-- the multiples from a later start are the others, moved
pub multiples-moved : (q low n : ℕ) → multiples (q + low) n ≡ map (λ x. 16 * q + x) (multiples low n)
multiples-moved q low zero = refl
multiples-moved q low (suc n) =
    let head : 16 * (q + low) ≡ 16 * q + 16 * low = omega arith in
    let next : q + low + 1 ≡ q + (low + 1) = omega arith in
    let rest : multiples (q + low + 1) n ≡ map (λ x. 16 * q + x) (multiples (low + 1) n) = rw next (multiples-moved q (low + 1) n) in
    rw (head, rest) refl

-- places with sixteen bytes before n
pub multiples-inside : (low m n : ℕ) → 16 * (low + m) ≤ n → AllByRecursion (λ x. x + 16 ≤ n) (multiples low m)
multiples-inside low zero n h = tt
multiples-inside low (suc m) n h = (omega arith, multiples-inside (low + 1) m n (omega arith))

-- P at the members is Q at the moved ones
abbrev pub IsMoved : (ℕ → Type 0) → (ℕ → Type 0) → ℕ → ℕ → Type 0
IsMoved P Q d x = (P x → Q (d + x)) × (Q (d + x) → P x)

none_moved : (P Q : ℕ → Type 0) (d : ℕ) (xs : List ℕ) → AllByRecursion (IsMoved P Q d) xs → HoldsAtNone P xs → HoldsAtNone Q (map (λ x. d + x) xs)
none_moved P Q d [] m h = tt
none_moved P Q d (x ∷ xs) m h = (λ q. h.0 (m.0.1 q), none_moved P Q d xs m.1 h.1)

front : (R : ℕ → Type 0) (xs ys : List ℕ) → AllByRecursion R (xs ++ ys) → AllByRecursion R xs
front R [] ys h = tt
front R (x ∷ xs) ys h = (h.0, front R xs ys h.1)

member : (R : ℕ → Type 0) (before after : List ℕ) (x : ℕ) → AllByRecursion R (before ++ x ∷ after) → R x
member R [] after x h = h.0
member R (y ∷ before) after x h = member R before after x h.1

map_split : (d : ℕ) (before after : List ℕ) (x : ℕ) → map (λ y. d + y) (before ++ x ∷ after) ≡ map (λ y. d + y) before ++ (d + x) ∷ map (λ y. d + y) after
map_split d [] after x = refl
map_split d (y ∷ before) after x = ap (λ (l : List ℕ). (d + y) ∷ l) (map_split d before after x)

first_moved : (P Q : ℕ → Type 0) (d : ℕ) (xs : List ℕ) (x : ℕ) → AllByRecursion (IsMoved P Q d) xs → IsFirst P xs x → IsFirst Q (map (λ y. d + y) xs) (d + x)
first_moved P Q d xs x m f =
    let all : AllByRecursion (IsMoved P Q d) (f.before ++ x ∷ f.after) = subst (AllByRecursion (IsMoved P Q d)) f.split m in
    record {
      before = map (λ y. d + y) f.before;
      after = map (λ y. d + y) f.after;
      split = ap (λ (l : List ℕ). map (λ y. d + y) l) f.split ∙ map_split d f.before f.after x;
      none_before = none_moved P Q d f.before (front (IsMoved P Q d) f.before (x ∷ f.after) all) f.none_before;
      holds = (member (IsMoved P Q d) f.before f.after x all).0 f.holds;
    }

-- ---- the window of an area

-- a floating pointer in a window is one in the image
pub pointer_in_window : (image : List ℕ) (from n x : ℕ) → x + 16 ≤ n → IsMoved (HasPointerAt (part image from n)) (HasPointerAt image) from x
pointer_in_window image from n x inside =
    let same : part (part image from n) x 16 ≡ part image (from + x) 16 = part-part image from n x 16 inside in
    (λ h. (h.0, subst (IsFloatingPointer h.0) same h.1), λ h. (h.0, subst (IsFloatingPointer h.0) (sym same) h.1))

all_moved : (P Q : ℕ → Type 0) (d n : ℕ) (xs : List ℕ) → ((x : ℕ) → x + 16 ≤ n → IsMoved P Q d x) → AllByRecursion (λ x. x + 16 ≤ n) xs → AllByRecursion (IsMoved P Q d) xs
all_moved P Q d n [] f h = tt
all_moved P Q d n (x ∷ xs) f h = (f x h.0, all_moved P Q d n xs f h.1)

abbrev pub own_area : ℕ → Area
own_area n = record { from = 0; to = n }

-- the places of an area that begins at a multiple of 16 are those of its window, moved
pub places-moved : (from n : ℕ) → from % 16 ≡ 0 → places_in (record { from = from; to = from + n }) ≡ map (λ x. from + x) (places_in (own_area n))
places-moved from n paragraph =
    let q = from / 16 in
    let whole : 16 * q ≡ from = omega arith in
    let low : (from + 15) / 16 ≡ q + 0 = omega arith in
    let count : (from + n) / 16 - (from + 15) / 16 ≡ n / 16 - 0 = omega arith in
    ap (λ (l : ℕ). multiples l ((from + n) / 16 - (from + 15) / 16)) low ∙ ap (λ (m : ℕ). multiples (q + 0) m) count ∙ multiples-moved q 0 (n / 16 - 0) ∙ ap (λ (d : ℕ). map (λ x. d + x) (multiples 0 (n / 16 - 0))) whole

-- an empty area has no places
pub places-empty : (from : ℕ) → places_in (record { from = from; to = from }) ≡ []
places-empty from =
    let none : from / 16 - (from + 15) / 16 ≡ 0 = omega arith in
    ap (λ (m : ℕ). multiples ((from + 15) / 16) m) none

moved_all : (image : List ℕ) (from n : ℕ) → AllByRecursion (IsMoved (HasPointerAt (part image from n)) (HasPointerAt image) from) (places_in (own_area n))
moved_all image from n =
    all_moved (HasPointerAt (part image from n)) (HasPointerAt image) from n (places_in (own_area n)) (pointer_in_window image from n) (multiples-inside 0 (n / 16 - 0) n (omega arith))

-- what is first in the window of an area is first in the area
pub first_in_window : (image : List ℕ) (from n x : ℕ) → from % 16 ≡ 0 → IsFirst (HasPointerAt (part image from n)) (places_in (own_area n)) x → IsFirst (HasPointerAt image) (places_in (record { from = from; to = from + n })) (from + x)
first_in_window image from n x paragraph f =
    subst (λ (l : List ℕ). IsFirst (HasPointerAt image) l (from + x)) (sym (places-moved from n paragraph)) (first_moved (HasPointerAt (part image from n)) (HasPointerAt image) from (places_in (own_area n)) x (moved_all image from n) f)

-- where the window of an area has none, the area has none
pub none_in_window : (image : List ℕ) (from n : ℕ) → from % 16 ≡ 0 → HoldsAtNone (HasPointerAt (part image from n)) (places_in (own_area n)) → HoldsAtNone (HasPointerAt image) (places_in (record { from = from; to = from + n }))
none_in_window image from n paragraph none =
    subst (λ (l : List ℕ). HoldsAtNone (HasPointerAt image) l) (sym (places-moved from n paragraph)) (none_moved (HasPointerAt (part image from n)) (HasPointerAt image) from (places_in (own_area n)) (moved_all image from n) none)
