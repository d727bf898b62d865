-- The search for the floating pointer (MultiProcessor Specification 1.4, section 4.1).
-- The rule of the first area is this project's own, and so is that no other place is looked at.
--     word_at image at        the word at a place, 0 where it isn't whole in the image
--     areas_of ebda kib size  the areas, cut at the image's size
--     places_in area          the places of an area
--     search_places image     the places of all areas, area after area
--     IsFirst P xs x          x is the first member of xs at which P holds
--     HasPointerAt image at   a floating pointer stands at the place
--     IsFirstPointerAt image at   it is the first place of the search at which one stands
use Rattle.std.specs.Prelude.{◌≡◌, ◌==◌, ℕ, ◌+◌, ◌-◌, ◌*◌, ◌/◌, min, List, [], ◌∷◌, ◌++◌, length, map, nat_le, if◌then◌else◌}
use Rattle.std.specs.List.{range_with_len, flat_map, AllByRecursion}
use Rattle.mpt_base.specs.Bytes.{number_at, part}
use Rattle.mpt_spec.specs.declared.pointer.Area.{Area}
use Rattle.mpt_spec.specs.declared.pointer.Pointer.{Pointer}
use Rattle.mpt_spec.specs.Pointer.{IsFloatingPointer}

-- the little-endian word at a place of the image, 0 where it isn't whole in it
abbrev pub word_at : List ℕ → ℕ → ℕ
word_at image at = if nat_le (at + 2) (length image) then number_at 2 image at else 0

-- an area, each end the lesser of its number and the image's size
abbrev pub cut_area : ℕ → ℕ → ℕ → Area
cut_area size from to = record { from = min from size; to = min to size }

-- the first kilobyte of the EBDA where its segment is told, else the last kilobyte of base memory where its size is
abbrev pub first_areas : ℕ → ℕ → ℕ → List Area
first_areas ebda base_kib size =
    if ebda == 0 then (if base_kib == 0 then [] else (cut_area size ((base_kib - 1) * 1024) (base_kib * 1024) ∷ [])) else (cut_area size (16 * ebda) (16 * ebda + 1024) ∷ [])

-- the areas of the search: the first area, and the BIOS read-only memory from F0000h to 100000h
abbrev pub areas_of : ℕ → ℕ → ℕ → List Area
areas_of ebda base_kib size = first_areas ebda base_kib size ++ cut_area size 0xF0000 0x100000 ∷ []

-- the multiples of 16 in an area that have 16 bytes before its end
abbrev pub places_in : Area → List ℕ
places_in area = map (λ k. 16 * k) (range_with_len ((area.from + 15) / 16) (area.to / 16 - (area.from + 15) / 16))

-- all places of the search: the words at 40Eh (the EBDA segment) and 413h (base memory in KiB) give the first area
unfoldable pub search_places : List ℕ → List ℕ
search_places image = flat_map places_in (areas_of (word_at image 0x40E) (word_at image 0x413) (length image))

-- x is the first member of xs at which P holds
pub record IsFirst (P : ℕ → Type 0) (xs : List ℕ) (x : ℕ) : Type 0 where
  pub before : List ℕ
  pub after : List ℕ
  pub split : xs ≡ before ++ x ∷ after
  pub none_before : AllByRecursion (λ y. ¬ P y) before
  pub holds : P x

-- P holds at no member of xs
abbrev pub HoldsAtNone : (ℕ → Type 0) → List ℕ → Type 0
HoldsAtNone P xs = AllByRecursion (λ y. ¬ P y) xs

-- a floating pointer stands at the place
abbrev pub HasPointerAt : List ℕ → ℕ → Type 0
HasPointerAt image at = (p : Pointer) × IsFloatingPointer p (part image at 16)

-- the first place of the search at which a floating pointer stands
abbrev pub IsFirstPointerAt : List ℕ → ℕ → Type 0
IsFirstPointerAt image at = IsFirst (HasPointerAt image) (search_places image) at

-- a floating pointer stands at no place of the search
abbrev pub HasNoPointer : List ℕ → Type 0
HasNoPointer image = HoldsAtNone (HasPointerAt image) (search_places image)
