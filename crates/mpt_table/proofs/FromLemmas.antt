-- What a window says of the image in a file, where the file is told.
use Rattle.std.proofs.Common.{◌≡◌, ℕ, ◌+◌, ◌-◌, ◌%◌, ◌≤◌, ◌<◌, List, [], ◌++◌, length, sym, ap, ◌∙◌, subst, inl, inr, Option, Some, None, IfSome, IfNone, Result, Ok, Err, IfOk, IfErr, arith}
use Rattle.std.specs.List.{flat_map}
use Rattle.mpt_base.specs.Bytes.{part}
use Rattle.mpt_base.specs.Outside.{Files, IsSizeTold, FillsFromTold}
use Rattle.mpt_base.specs.declared.fault.Reason.{Reason}
use Rattle.mpt_base.specs.declared.fault.Fault.{Fault}
use Rattle.mpt_spec.specs.declared.pointer.Area.{Area}
use Rattle.mpt_spec.specs.declared.pointer.Pointer.{Pointer}
use Rattle.mpt_spec.specs.declared.tables.Table.{Table}
use Rattle.mpt_spec.specs.declared.tables.Body.{Body}
use Rattle.mpt_spec.specs.Pointer.{IsFloatingPointer}
use Rattle.mpt_spec.specs.Search.{word_at, areas_of, places_in, search_places, IsFirst, HoldsAtNone, HasPointerAt, IsFirstPointerAt, HasNoPointer}
use Rattle.mpt_spec.specs.Revision.{IsKnownRevision}
use Rattle.mpt_spec.specs.Table.{base_length_at, ext_length_at, IsConfigurationTable, default_number, IsBodyOf, Describes}
use Rattle.mpt_spec.specs.Faults.{HasTableFaultAt, IsFirstFault, IsLeastFault}
use Rattle.mpt_spec.proofs.CallerLemmas.{IsFloatingPointer-fields}
use Rattle.mpt_spec.proofs.FirstFaultLemmas.{IsFirstFault-of_table, IsFirstFault-of_pointer}
use Rattle.mpt_spec.proofs.WindowLemmas.{Agree, Agree-part, Agree-number, part-part}
use Rattle.mpt_spec.proofs.TableWindowLemmas.{HasTableBytes, Agree-ext_length, IsConfigurationTable-moved}
use Rattle.mpt_pointer.proofs.FirstLemmas.{KeepsFirst, KeepsFirst-behind, IsFirst-front}
use Rattle.mpt_table.specs.Header.{HasRightPointer, IsPointerFault}
use Rattle.mpt_table.specs.declared.search_from.Found.{Found}
use Rattle.mpt_table.specs.declared.window.WindowFailure.{WindowFailure}
use Rattle.mpt_table.specs.declared.refusal.FileRefusal.{FileRefusal}
use Rattle.mpt_table.specs.declared.refusal.FileRefusal.TheVariants as refusal
use Rattle.mpt_table.specs.Windows.{IfTold, IsAreaIn, IsPlaceIn, IsFoundAmong, IfFaultOf, IsFileCauseOf, IsTableRefusal}
use Rattle.mpt_table.proofs.PointerFaults.{IsPointerFault-first, HasRightPointer-no_fault}
use Rattle.mpt_table.proofs.TableInWindow.{IsLeastFault-moved}
use Rattle.mpt_table.proofs.WindowAreas.{own_area, first_in_window, none_in_window, places-empty}
use Rattle.mpt_table.proofs.ToldLemmas.{IfTold-map, IfTold-both, IfTold-all, IfTold-size, IfTold-fills}

-- ---- the search

-- the areas of the file's own words
pub areas-told : (told : Option Files) (name : List ℕ) (e b size : ℕ) (areas : List Area) → IsSizeTold told name (Some size) → IfTold told name (λ image. e ≡ word_at image 0x40E) → IfTold told name (λ image. b ≡ word_at image 0x413) → areas ≡ areas_of e b size
    → IfTold told name (λ image. flat_map places_in areas ≡ search_places image)
unfolding search_places
areas-told told name e b size areas is_size ebda base are =
    IfTold-map told name
    (λ image. (length image ≡ size) × ((e ≡ word_at image 0x40E) × (b ≡ word_at image 0x413)))
    (λ image. flat_map places_in areas ≡ search_places image)
    (λ image h. ap (λ (l : List Area). flat_map places_in l) (are ∙ ap (λ (x : ℕ). areas_of x b size) h.1.0 ∙ ap (λ (x : ℕ). areas_of (word_at image 0x40E) x size) h.1.1 ∙ ap (λ (x : ℕ). areas_of (word_at image 0x40E) (word_at image 0x413) x) (sym h.0)))
    (IfTold-both told name (λ image. length image ≡ size) (λ image. (e ≡ word_at image 0x40E) × (b ≡ word_at image 0x413)) (IfTold-size told name size is_size)
    (IfTold-both told name (λ image. e ≡ word_at image 0x40E) (λ image. b ≡ word_at image 0x413) ebda base))

found_in_image : (image : List ℕ) (size : ℕ) (area : Area) (bytes : List ℕ) (at : ℕ) (p : Pointer) → IsAreaIn size area → length bytes ≡ area.to - area.from → area.from ≤ at → at + 16 ≤ area.from + length bytes
    → IsFirst (HasPointerAt bytes) (places_in (own_area (length bytes))) (at - area.from) → IsFloatingPointer p (part bytes (at - area.from) 16) → bytes ≡ part image area.from (length bytes)
    → IsFirst (HasPointerAt image) (places_in area) at × IsFloatingPointer p (part image at 16)
found_in_image image size area bytes at p is all after inside first there same =
    let n = length bytes in
    let x = at - area.from in
    let place : area.from + x ≡ at = omega arith in
    let end : area.from + n ≡ area.to = omega (arith, is.order, all) in
    let in_part : IsFirst (HasPointerAt (part image area.from n)) (places_in (own_area n)) x = subst (λ (b : List ℕ). IsFirst (HasPointerAt b) (places_in (own_area n)) x) same first in
    let there_part : IsFloatingPointer p (part (part image area.from n) x 16) = subst (λ (b : List ℕ). IsFloatingPointer p (part b x 16)) same there in
    let paragraph : area.from % 16 ≡ 0 = elim is.paragraph [ inl h ↦ h | inr none ↦ absurd (omega (arith, none, all, inside)) ] in
    let whole : IsFirst (HasPointerAt image) (places_in (record { from = area.from; to = area.from + n })) (area.from + x) = first_in_window image area.from n x paragraph in_part in
    let moved = subst (λ (to : ℕ). IsFirst (HasPointerAt image) (places_in (record { from = area.from; to = to })) (area.from + x)) end whole in (
      subst (λ (y : ℕ). IsFirst (HasPointerAt image) (places_in area) y) place moved,
      subst (λ (y : ℕ). IsFloatingPointer p (part image y 16)) place (subst (λ (b : List ℕ). IsFloatingPointer p b) (part-part image area.from n x 16 (omega arith)) there_part),
    )

-- what is found in the window of an area is found in the area
pub IsFoundAmong-of_window : (told : Option Files) (name : List ℕ) (size : ℕ) (area : Area) (bytes : List ℕ) (at : ℕ) (p : Pointer) → IsAreaIn size area → length bytes ≡ area.to - area.from → area.from ≤ at → at + 16 ≤ area.from + length bytes
    → IsFirst (HasPointerAt bytes) (places_in (own_area (length bytes))) (at - area.from) → IsFloatingPointer p (part bytes (at - area.from) 16) → FillsFromTold told name area.from bytes
    → IsFoundAmong told name (places_in area) at p
IsFoundAmong-of_window told name size area bytes at p is all after inside first there fills =
    IfTold-map told name (λ image. bytes ≡ part image area.from (length bytes)) (λ image. IsFirst (HasPointerAt image) (places_in area) at × IsFloatingPointer p (part image at 16))
    (λ image same. found_in_image image size area bytes at p is all after inside first there same) (IfTold-fills told name area.from bytes fills)

none_in_image : (image : List ℕ) (size : ℕ) (area : Area) (bytes : List ℕ) → IsAreaIn size area → length bytes ≡ area.to - area.from
    → HoldsAtNone (HasPointerAt bytes) (places_in (own_area (length bytes))) → bytes ≡ part image area.from (length bytes)
    → HoldsAtNone (HasPointerAt image) (places_in area)
none_in_image image size area bytes is all none same =
    let n = length bytes in
    let end : area.from + n ≡ area.to = omega (arith, is.order, all) in
    let in_part : HoldsAtNone (HasPointerAt (part image area.from n)) (places_in (own_area n)) = subst (λ (b : List ℕ). HoldsAtNone (HasPointerAt b) (places_in (own_area n))) same none in
    elim is.paragraph [
      | inl paragraph ↦ subst (λ (to : ℕ). HoldsAtNone (HasPointerAt image) (places_in (record { from = area.from; to = to }))) end (none_in_window image area.from n paragraph in_part)
      | inr empty ↦
          let places : places_in area ≡ [] = ap (λ (to : ℕ). places_in (record { from = area.from; to = to })) (sym empty) ∙ places-empty area.from in
          subst (λ (l : List ℕ). HoldsAtNone (HasPointerAt image) l) (sym places) tt
    ]

-- where the window of an area has none, the area has none
pub HoldsAtNone-of_window : (told : Option Files) (name : List ℕ) (size : ℕ) (area : Area) (bytes : List ℕ) → IsAreaIn size area → length bytes ≡ area.to - area.from
    → HoldsAtNone (HasPointerAt bytes) (places_in (own_area (length bytes))) → FillsFromTold told name area.from bytes
    → IfTold told name (λ image. HoldsAtNone (HasPointerAt image) (places_in area))
HoldsAtNone-of_window told name size area bytes is all none fills =
    IfTold-map told name (λ image. bytes ≡ part image area.from (length bytes)) (λ image. HoldsAtNone (HasPointerAt image) (places_in area))
    (λ image same. none_in_image image size area bytes is all none same) (IfTold-fills told name area.from bytes fills)

-- ---- the table

-- the bytes of a table that were read are those of the image
table_bytes_of : (image header bytes : List ℕ) (size at n : ℕ) → length image ≡ size → at + 44 ≤ size → header ≡ part image at (length header) → length header ≡ 44 → bytes ≡ part image at (length bytes) → length bytes ≡ n → 44 ≤ n → n ≤ size - at
    → (44 ≤ base_length_at header 0 → base_length_at header 0 ≤ size - at → base_length_at header 0 ≤ n)
    → (44 ≤ base_length_at header 0 → base_length_at header 0 + ext_length_at header 0 ≤ size - at → base_length_at header 0 + ext_length_at header 0 ≤ n)
    → HasTableBytes bytes image 0 at (length bytes)
table_bytes_of image header bytes size at n is_size room same_header header_size same all whole inside base both =
    let h : header ≡ part image at 44 = same_header ∙ ap (λ (m : ℕ). part image at m) header_size in
    let agree : Agree bytes image 0 at (length bytes) = subst (λ (b : List ℕ). Agree b image 0 at (length bytes)) (sym same) (Agree-part image at (length bytes)) in
    let header_agrees : Agree header image 0 at 44 = subst (λ (b : List ℕ). Agree b image 0 at 44) (sym h) (Agree-part image at 44) in
    let base_same : base_length_at header 0 ≡ base_length_at image at = Agree-number 2 header image 0 at 44 4 (omega arith) header_agrees in
    let ext_same : ext_length_at header 0 ≡ ext_length_at image at = Agree-ext_length header image 0 at 44 (omega arith) header_agrees in
    record {
      agree = agree;
      header = omega (arith, all, whole);
      fits_a = omega arith;
      fits_b = omega (arith, all, inside, is_size, room);
      base_a = λ g. omega (arith, g.inside);
      base_b = λ g. omega (arith, all, base (omega (arith, base_same, g.header)) (omega (arith, base_same, g.inside, is_size)), base_same);
      ext_a = λ g. omega (arith, g.inside);
      ext_b = λ g. omega (arith, all, both (omega (arith, base_same, g.base.header)) (omega (arith, base_same, ext_same, g.inside, is_size)), base_same, ext_same);
    }

pub HasTableBytes-told : (told : Option Files) (name : List ℕ) (header bytes : List ℕ) (size at n : ℕ) → IsSizeTold told name (Some size) → at + 44 ≤ size → FillsFromTold told name at header → length header ≡ 44 → FillsFromTold told name at bytes → length bytes ≡ n → 44 ≤ n → n ≤ size - at
    → (44 ≤ base_length_at header 0 → base_length_at header 0 ≤ size - at → base_length_at header 0 ≤ n)
    → (44 ≤ base_length_at header 0 → base_length_at header 0 + ext_length_at header 0 ≤ size - at → base_length_at header 0 + ext_length_at header 0 ≤ n)
    → IfTold told name (λ image. HasTableBytes bytes image 0 at (length bytes))
HasTableBytes-told told name header bytes size at n is_size room fills_header header_size fills all whole inside base both =
    IfTold-map told name
    (λ image. (length image ≡ size) × ((header ≡ part image at (length header)) × (bytes ≡ part image at (length bytes))))
    (λ image. HasTableBytes bytes image 0 at (length bytes))
    (λ image h. table_bytes_of image header bytes size at n h.0 room h.1.0 header_size h.1.1 all whole inside base both)
    (IfTold-both told name (λ image. length image ≡ size) (λ image. (header ≡ part image at (length header)) × (bytes ≡ part image at (length bytes))) (IfTold-size told name size is_size)
    (IfTold-both told name (λ image. header ≡ part image at (length header)) (λ image. bytes ≡ part image at (length bytes)) (IfTold-fills told name at header fills_header) (IfTold-fills told name at bytes fills)))

-- a table that is the whole of these bytes stands in the image
pub IsConfigurationTable-told : (told : Option Files) (name bytes : List ℕ) (at : ℕ) (t : Table) → IfTold told name (λ image. HasTableBytes bytes image 0 at (length bytes)) → IsConfigurationTable t bytes 0 → IfTold told name (λ image. IsConfigurationTable t image at)
IsConfigurationTable-told told name bytes at t same h =
    IfTold-map told name (λ image. HasTableBytes bytes image 0 at (length bytes)) (λ image. IsConfigurationTable t image at)
    (λ image w. IsConfigurationTable-moved t bytes image 0 at (length bytes) w h) same

-- the first fault of these bytes is the first of the table in the image
pub IsLeastFault-told : (told : Option Files) (name bytes : List ℕ) (at k : ℕ) (w : Reason) → IfTold told name (λ image. HasTableBytes bytes image 0 at (length bytes)) → at ≤ k → IsLeastFault (HasTableFaultAt bytes 0) (k - at) w → IfTold told name (λ image. IsLeastFault (HasTableFaultAt image at) k w)
IsLeastFault-told told name bytes at k w same behind h =
    let own : 0 + (k - at) ≡ k - at = omega arith in
    let there : at + (k - at) ≡ k = omega arith in
    IfTold-map told name (λ image. HasTableBytes bytes image 0 at (length bytes)) (λ image. IsLeastFault (HasTableFaultAt image at) k w)
    (λ image b. subst (λ (x : ℕ). IsLeastFault (HasTableFaultAt image at) x w) there (IsLeastFault-moved bytes image 0 at (length bytes) (k - at) w b (subst (λ (x : ℕ). IsLeastFault (HasTableFaultAt bytes 0) x w) (sym own) h))) same

-- ---- the whole

-- the first fault of a floating pointer is that of the image
pub pointer_fault-told : (told : Option Files) (name : List ℕ) (size at k : ℕ) (p : Pointer) (w : Reason) → IsSizeTold told name (Some size) → IfTold told name (λ image. IsFirstPointerAt image at × IsFloatingPointer p (part image at 16)) → IsLeastFault (IsPointerFault p size at) k w → IfTold told name (λ image. IsFirstFault image k w)
pointer_fault-told told name size at k p w is_size found h =
    IfTold-map told name (λ image. (length image ≡ size) × (IsFirstPointerAt image at × IsFloatingPointer p (part image at 16))) (λ image. IsFirstFault image k w)
    (λ image g.
    let least = IsPointerFault-first p image at k w g.1.1 (subst (λ (n : ℕ). IsLeastFault (IsPointerFault p n at) k w) (sym g.0) h) in
    IsFirstFault-of_pointer image at k w g.1.0 least.stands least.least)
    (IfTold-both told name (λ image. length image ≡ size) (λ image. IsFirstPointerAt image at × IsFloatingPointer p (part image at 16)) (IfTold-size told name size is_size) found)

-- the first fault of its table is that of the image
pub table_fault-told : (told : Option Files) (name : List ℕ) (size at k : ℕ) (p : Pointer) (w : Reason) → IsSizeTold told name (Some size) → IfTold told name (λ image. IsFirstPointerAt image at × IsFloatingPointer p (part image at 16)) → HasRightPointer p size → default_number p ≡ 0
    → IfTold told name (λ image. IsLeastFault (HasTableFaultAt image p.address) k w) → IfTold told name (λ image. IsFirstFault image k w)
table_fault-told told name size at k p w is_size found right listed h =
    IfTold-map told name (λ image. ((length image ≡ size) × (IsFirstPointerAt image at × IsFloatingPointer p (part image at 16))) × IsLeastFault (HasTableFaultAt image p.address) k w) (λ image. IsFirstFault image k w)
    (λ image g.
    let fields = IsFloatingPointer-fields p image at g.0.1.1 in
    let least = subst (λ (n : ℕ). IsLeastFault (HasTableFaultAt image n) k w) fields.address g.1 in
    IsFirstFault-of_table image at k w g.0.1.0 (HasRightPointer-no_fault p image at g.0.1.1 (subst (HasRightPointer p) (sym g.0.0) right)) (sym fields.default ∙ listed) least.stands least.least)
    (IfTold-both told name (λ image. (length image ≡ size) × (IsFirstPointerAt image at × IsFloatingPointer p (part image at 16))) (λ image. IsLeastFault (HasTableFaultAt image p.address) k w)
    (IfTold-both told name (λ image. length image ≡ size) (λ image. IsFirstPointerAt image at × IsFloatingPointer p (part image at 16)) (IfTold-size told name size is_size) found) h)

-- ---- answers

pub area_some : (told : Option Files) (name : List ℕ) (size : ℕ) (area : Area) (bytes : List ℕ) (r : Option Found) → IsAreaIn size area → length bytes ≡ area.to - area.from
    → IfSome r (λ f. (area.from ≤ f.at) × IsFirst (HasPointerAt bytes) (places_in (own_area (length bytes))) (f.at - area.from) × IsFloatingPointer f.pointer (part bytes (f.at - area.from) 16))
    → IfSome r (λ f. f.at + 16 ≤ area.from + length bytes) → FillsFromTold told name area.from bytes → IfSome r (λ f. IsFoundAmong told name (places_in area) f.at f.pointer)
area_some told name size area bytes None is all some inside fills = tt
area_some told name size area bytes (Some f) is all some inside fills = IsFoundAmong-of_window told name size area bytes f.at f.pointer is all some.0 inside some.1 some.2 fills

pub area_none : (told : Option Files) (name : List ℕ) (size : ℕ) (area : Area) (bytes : List ℕ) (r : Option Found) → IsAreaIn size area → length bytes ≡ area.to - area.from
    → IfNone r (HoldsAtNone (HasPointerAt bytes) (places_in (own_area (length bytes)))) → FillsFromTold told name area.from bytes → IfNone r (IfTold told name (λ image. HoldsAtNone (HasPointerAt image) (places_in area)))
area_none told name size area bytes None is all none fills = HoldsAtNone-of_window told name size area bytes is all none fills
area_none told name size area bytes (Some f) is all none fills = tt

pub area_place : (size : ℕ) (area : Area) (bytes : List ℕ) (r : Option Found) → IsAreaIn size area → length bytes ≡ area.to - area.from
    → IfSome r (λ f. (area.from ≤ f.at) × IsFirst (HasPointerAt bytes) (places_in (own_area (length bytes))) (f.at - area.from) × IsFloatingPointer f.pointer (part bytes (f.at - area.from) 16))
    → (area.from % 16 ≡ 0 → IfSome r (λ f. f.at % 16 ≡ 0)) → IfSome r (λ f. f.at + 16 ≤ area.from + length bytes) → IfSome r (λ f. IsPlaceIn size f.at)
area_place size area bytes None is all some paragraph inside = tt
area_place size area bytes (Some f) is all some paragraph inside = record {
  paragraph = elim is.paragraph [ inl h ↦ paragraph h | inr none ↦ absurd (omega (arith, none, all, inside, some.0)) ];
  inside = omega (arith, is.inside, is.order, all, inside);
  low = omega (arith, is.low, is.order, all, inside);
}

-- the areas behind one without any
pub passed-next : (told : Option Files) (name : List ℕ) (here : Area) (rest : List Area) (whole : List ℕ) → IfTold told name (λ image. HoldsAtNone (HasPointerAt image) (places_in here))
    → IfTold told name (λ image. KeepsFirst (HasPointerAt image) (places_in here ++ flat_map places_in rest) whole) → IfTold told name (λ image. KeepsFirst (HasPointerAt image) (flat_map places_in rest) whole)
passed-next told name here rest whole none kept =
    IfTold-map told name (λ image. HoldsAtNone (HasPointerAt image) (places_in here) × KeepsFirst (HasPointerAt image) (places_in here ++ flat_map places_in rest) whole) (λ image. KeepsFirst (HasPointerAt image) (flat_map places_in rest) whole)
    (λ image h. KeepsFirst-behind (HasPointerAt image) (places_in here) (flat_map places_in rest) whole h.0 h.1)
    (IfTold-both told name (λ image. HoldsAtNone (HasPointerAt image) (places_in here)) (λ image. KeepsFirst (HasPointerAt image) (places_in here ++ flat_map places_in rest) whole) none kept)

-- what is found in an area behind others without any is found among all
pub found_behind : (told : Option Files) (name : List ℕ) (here : Area) (rest : List Area) (whole : List ℕ) (at : ℕ) (p : Pointer) → IsFoundAmong told name (places_in here) at p
    → IfTold told name (λ image. KeepsFirst (HasPointerAt image) (places_in here ++ flat_map places_in rest) whole) → IsFoundAmong told name whole at p
found_behind told name here rest whole at p found kept =
    IfTold-map told name (λ image. (IsFirst (HasPointerAt image) (places_in here) at × IsFloatingPointer p (part image at 16)) × KeepsFirst (HasPointerAt image) (places_in here ++ flat_map places_in rest) whole)
    (λ image. IsFirst (HasPointerAt image) whole at × IsFloatingPointer p (part image at 16))
    (λ image h. (h.1.first at (IsFirst-front (HasPointerAt image) (places_in here) (flat_map places_in rest) at h.0.0), h.0.1))
    (IfTold-both told name (λ image. IsFirst (HasPointerAt image) (places_in here) at × IsFloatingPointer p (part image at 16)) (λ image. KeepsFirst (HasPointerAt image) (places_in here ++ flat_map places_in rest) whole) found kept)

-- where no area is left, none has any
pub none_of_all : (told : Option Files) (name : List ℕ) (whole : List ℕ) → IfTold told name (λ image. KeepsFirst (HasPointerAt image) [] whole) → IfTold told name (λ image. HoldsAtNone (HasPointerAt image) whole)
none_of_all told name whole kept = IfTold-map told name (λ image. KeepsFirst (HasPointerAt image) [] whole) (λ image. HoldsAtNone (HasPointerAt image) whole) (λ image k. k.none tt) kept

-- ---- the whole search

-- the first pointer among the places of all areas is that of the search
pub found_first : (told : Option Files) (name : List ℕ) (places : List ℕ) (r : Result (Option Found) WindowFailure) → IfTold told name (λ image. places ≡ search_places image)
    → IfOk r (λ found. IfSome found (λ f. IsFoundAmong told name places f.at f.pointer)) → IfOk r (λ found. IfSome found (λ f. IfTold told name (λ image. IsFirstPointerAt image f.at × IsFloatingPointer f.pointer (part image f.at 16))))
found_first told name places (Ok (Some f)) are some =
    IfTold-map told name (λ image. (places ≡ search_places image) × (IsFirst (HasPointerAt image) places f.at × IsFloatingPointer f.pointer (part image f.at 16)))
    (λ image. IsFirstPointerAt image f.at × IsFloatingPointer f.pointer (part image f.at 16))
    (λ image h. (subst (λ (l : List ℕ). IsFirst (HasPointerAt image) l f.at) h.0 h.1.0, h.1.1))
    (IfTold-both told name (λ image. places ≡ search_places image) (λ image. IsFirst (HasPointerAt image) places f.at × IsFloatingPointer f.pointer (part image f.at 16)) are some)
found_first told name places (Ok None) are some = tt
found_first told name places (Err failure) are some = tt

-- where no place of the areas has one, the search has none
pub none_first : (told : Option Files) (name : List ℕ) (places : List ℕ) (r : Result (Option Found) WindowFailure) → IfTold told name (λ image. places ≡ search_places image)
    → IfOk r (λ found. IfNone found (IfTold told name (λ image. HoldsAtNone (HasPointerAt image) places))) → IfOk r (λ found. IfNone found (IfTold told name HasNoPointer))
none_first told name places (Ok None) are none =
    IfTold-map told name (λ image. (places ≡ search_places image) × HoldsAtNone (HasPointerAt image) places) HasNoPointer
    (λ image h. subst (λ (l : List ℕ). HoldsAtNone (HasPointerAt image) l) h.0 h.1)
    (IfTold-both told name (λ image. places ≡ search_places image) (λ image. HoldsAtNone (HasPointerAt image) places) are none)
none_first told name places (Ok (Some f)) are none = tt
none_first told name places (Err failure) are none = tt

pub table_ok : (told : Option Files) (name bytes : List ℕ) (at : ℕ) (r : Result Table FileRefusal) → IfTold told name (λ image. HasTableBytes bytes image 0 at (length bytes)) → IfOk r (λ t. IsConfigurationTable t bytes 0) → IfOk r (λ t. IfTold told name (λ image. IsConfigurationTable t image at))
table_ok told name bytes at (Ok t) same h = IsConfigurationTable-told told name bytes at t same h
table_ok told name bytes at (Err _) same h = tt

pub table_err : (told : Option Files) (name bytes : List ℕ) (at : ℕ) (r : Result Table FileRefusal) → IfTold told name (λ image. HasTableBytes bytes image 0 at (length bytes)) → IfErr r (λ e. IfFaultOf e (λ f. at ≤ f.at)) → IfErr r (λ e. IfFaultOf e (λ f. IsLeastFault (HasTableFaultAt bytes 0) (f.at - at) f.why))
    → IfErr r (λ e. IfFaultOf e (λ f. IfTold told name (λ image. IsLeastFault (HasTableFaultAt image at) f.at f.why)))
table_err told name bytes at (Ok t) same behind h = tt
table_err told name bytes at (Err (refusal.Fault f)) same behind h = IsLeastFault-told told name bytes at f.at f.why same behind h
table_err told name bytes at (Err _) same behind h = tt

-- a refusal of the table has its cause in the image
pub table_refusal-told : (told : Option Files) (name : List ℕ) (size at : ℕ) (p : Pointer) (r : FileRefusal) → IsSizeTold told name (Some size) → IfTold told name (λ image. IsFirstPointerAt image at × IsFloatingPointer p (part image at 16)) → HasRightPointer p size → default_number p ≡ 0 → IsTableRefusal r
    → IfFaultOf r (λ f. IfTold told name (λ image. IsLeastFault (HasTableFaultAt image p.address) f.at f.why)) → IfTold told name (λ image. IsFileCauseOf image r)
table_refusal-told told name size at p refusal.NoPointer is_size found right listed fits h = absurd fits
table_refusal-told told name size at p (refusal.Fault f) is_size found right listed fits h = table_fault-told told name size at f.at p f.why is_size found right listed h
table_refusal-told told name size at p refusal.Read is_size found right listed fits h = IfTold-all told name (λ image. Unit {0}) (λ image. tt)
table_refusal-told told name size at p refusal.NoMemory is_size found right listed fits h = IfTold-all told name (λ image. Unit {0}) (λ image. tt)

-- a fault before one end is before a later one
pub fault_before : (r : Result Table FileRefusal) (m n : ℕ) → m ≤ n → IfErr r (λ e. IfFaultOf e (λ f. f.at < m)) → IfErr r (λ e. IfFaultOf e (λ f. f.at < n))
fault_before (Ok t) m n le h = tt
fault_before (Err (refusal.Fault f)) m n le h = omega arith
fault_before (Err _) m n le h = tt

-- what is no fault has each property of faults
pub no_fault : (r : FileRefusal) (P : Fault → Type 0) → IfFaultOf r (λ f. ⊥) → IfFaultOf r P
no_fault (refusal.Fault f) P h = absurd h
no_fault _ P h = tt

-- the first floating pointer with the body that it names
pub Describes-told : (told : Option Files) (name : List ℕ) (at : ℕ) (p : Pointer) (b : Body) → IsKnownRevision p.revision → IfTold told name (λ image. IsFirstPointerAt image at × IsFloatingPointer p (part image at 16))
    → IfTold told name (λ image. IsBodyOf b p image) → IfTold told name (λ image. Describes image (record { at = at; pointer = p; body = b }))
Describes-told told name at p b revision first body =
    IfTold-map told name (λ image. (IsFirstPointerAt image at × IsFloatingPointer p (part image at 16)) × IsBodyOf b p image) (λ image. Describes image (record { at = at; pointer = p; body = b }))
    (λ image h. record { first = h.0.0; tables_there = record { pointer = h.0.1; revision = revision; body = h.1 } })
    (IfTold-both told name (λ image. IsFirstPointerAt image at × IsFloatingPointer p (part image at 16)) (λ image. IsBodyOf b p image) first body)
