-- The image that is written for tables describes them.
use Rattle.std.proofs.Common.{◌≡◌, ℕ, suc, ◌+◌, ◌-◌, ◌*◌, ◌/◌, ◌%◌, ◌^◌, ◌<◌, ◌≤◌, ◌⊎◌, min, true, false, eqb, leb, List, [], ◌∷◌, ◌++◌, length, map, take, drop, replicate, sym, refl, ap, ◌∙◌, subst, inl, inr, arith, append_assoc, append-nil, add-zero}
use Rattle.std.specs.Prelude.{if◌then◌else◌}
use Rattle.std.specs.Int.{to_le_bytes, w16}
use Rattle.std.specs.List.{range_with_len, flat_map}
use Rattle.std.proofs.Math.ListN.{length-replicate}
use Rattle.std.proofs.lemmas.List.{length-append, length-drop, length-take-le, take-append-drop}
use Rattle.std.proofs.lemmas.Bool.Decides.{nat_tests}
use Rattle.mpt_base.specs.Bytes.{part, number_at}
use Rattle.mpt_spec.specs.declared.pointer.Area.{Area}
use Rattle.mpt_spec.specs.declared.tables.Table.{Table}
use Rattle.mpt_spec.specs.declared.tables.Body.{Body}
use Rattle.mpt_spec.specs.declared.tables.Body.TheVariants as body
use Rattle.mpt_spec.specs.declared.tables.Tables.{Tables}
use Rattle.mpt_spec.specs.Pointer.{IsFloatingPointer}
use Rattle.mpt_spec.specs.Search.{word_at, areas_of, places_in, search_places}
use Rattle.mpt_spec.specs.Table.{IsBodyOf, Describes}
use Rattle.mpt_spec.specs.Canonical.{IsWellFormedBody, HasBlockPlace, FitsInImage, block_size}
use Rattle.mpt_base.specs.Writing.{overlay}
use Rattle.mpt_spec.specs.Image.{table_bytes, body_bytes, pointer_bytes, image_of}
use Rattle.mpt_spec.specs.Values.{IsBodyValue, IsTablesValue}
use Rattle.mpt_spec.proofs.ByteLemmas.{part-behind, part-before, take-append_whole, number_at-to_le_bytes_2}
use Rattle.mpt_spec.proofs.CallerLemmas.{number_at-part}
use Rattle.mpt_spec.proofs.WrittenLemmas.{IsFloatingPointer-written}
use Rattle.mpt_spec.proofs.WrittenTableLemmas.{IsConfigurationTable-written, length-table_bytes}

-- bytes that are put over an image, from a place on
module _ (image bytes : List ℕ) (at : ℕ) (fits : at + length bytes ≤ length image) where
  front_long : length (take at image) ≡ at
  front_long = length-take-le at image (omega arith)

  pub overlay-parts : overlay image at bytes ≡ take at image ++ (bytes ++ drop (at + length bytes) image)
  overlay-parts = append_assoc (take at image) bytes (drop (at + length bytes) image)

  pub length-overlay : length (overlay image at bytes) ≡ length image
  length-overlay =
      length-append (take at image ++ bytes) (drop (at + length bytes) image)
      ∙ omega (arith, front_long, length-append (take at image) bytes, length-drop (at + length bytes) image)

  pub part-overlay_here : part (overlay image at bytes) at (length bytes) ≡ bytes
  part-overlay_here =
      part-behind (length bytes) (overlay image at bytes) (take at image) (bytes ++ drop (at + length bytes) image) at 0 overlay-parts (omega (arith, front_long))
      ∙ take-append_whole (length bytes) bytes (drop (at + length bytes) image) refl

  pub part-overlay_before : (i n : ℕ) → i + n ≤ at → part (overlay image at bytes) i n ≡ part image i n
  part-overlay_before i n h =
      let low : i + n ≤ length (take at image) = omega (arith, front_long) in
      ap (λ xs. part xs i n) overlay-parts ∙ part-before n (take at image) (bytes ++ drop (at + length bytes) image) i low
      ∙ sym (part-before n (take at image) (drop at image) i low) ∙ ap (λ xs. part xs i n) (take-append-drop at image)

  pub part-overlay_after : (i n : ℕ) → at + length bytes ≤ i → part (overlay image at bytes) i n ≡ part image i n
  part-overlay_after i n h =
      let k : ℕ = at + length bytes in
      let over_long : length (take at image ++ bytes) ≡ k = length-append (take at image) bytes ∙ ap (λ x. x + length bytes) front_long in
      let front_k : length (take k image) ≡ k = length-take-le k image fits in
      part-behind n (overlay image at bytes) (take at image ++ bytes) (drop k image) i (i - k) refl (omega (arith, over_long))
      ∙ sym (part-behind n image (take k image) (drop k image) i (i - k) (sym (take-append-drop k image)) (omega (arith, front_k)))

-- the first place of an area that begins on a boundary and has 16 bytes
first_place : (area : Area) (q : ℕ) → area.from ≡ 16 * q → 16 * q + 16 ≤ area.to → (rest : List ℕ) × (places_in area ≡ 16 * q ∷ rest)
first_place area q start room =
    let a : ℕ = (area.from + 15) / 16 in
    let n : ℕ = area.to / 16 - a in
    let first : a ≡ q = omega arith in
    let some : n ≡ suc (n - 1) = omega arith in
    (map (λ k. 16 * k) (range_with_len (q + 1) (n - 1)), ap (λ m. map (λ k. 16 * k) (range_with_len a m)) some ∙ ap (λ x. map (λ k. 16 * k) (range_with_len x (suc (n - 1)))) first)

-- where the EBDA segment names a place of an image of 1 MiB, that place is the first of the search
first_of_search : (segment base_kib size at : ℕ) → segment ≡ at / 16 → size ≡ 0x100000 → 0x500 ≤ at → at ≤ 0xFFFF0 → at % 16 ≡ 0 → (rest : List ℕ) × (flat_map places_in (areas_of segment base_kib size) ≡ at ∷ rest)
first_of_search segment base_kib size at named whole low high boundary =
    let some : eqb segment 0 ≡ false = grind (arith, nat_tests) in
    let from : ℕ = min (16 * segment) size in
    let to : ℕ = min (16 * segment + 1024) size in
    let area : Area = record { from = from; to = to } in
    let last : Area = record { from = min 0xF0000 size; to = min 0x100000 size } in
    let place : (rest : List ℕ) × (places_in area ≡ 16 * segment ∷ rest) = first_place area segment (omega arith) (omega arith) in
    let here : 16 * segment ≡ at = omega arith in
    (place.0 ++ (places_in last ++ []), rw some (ap (λ xs. xs ++ (places_in last ++ [])) place.1 ∙ ap (λ x. x ∷ (place.0 ++ (places_in last ++ []))) here))

-- an image of 1 MiB with the segment, the pointer and the body of the tables describes them
record IsWrittenImage (tables : Tables) (image : List ℕ) : Type 0 where
  size : length image ≡ 0x100000
  segment : part image 0x40E 2 ≡ to_le_bytes w16 (tables.at / 16)
  pointer : part image tables.at 16 ≡ pointer_bytes tables.pointer
  body : IsBodyOf tables.body tables.pointer image

word-written : (image : List ℕ) (q : ℕ) → length image ≡ 0x100000 → part image 0x40E 2 ≡ to_le_bytes w16 q → q < 2 ^ 16 → word_at image 0x40E ≡ q
word-written image q size there low =
    let number : number_at 2 image 0x40E ≡ q = sym (number_at-part 2 image 0x40E 2 0 (omega arith)) ∙ ap (λ xs. number_at 2 xs 0) there ∙ number_at-to_le_bytes_2 q low in
    let whole : leb 0x410 (length image) ≡ true = grind (arith, nat_tests) in
    ap (λ b. if b then number_at 2 image 0x40E else 0) whole ∙ number

IsWrittenImage-describes : (tables : Tables) (image : List ℕ) → IsTablesValue tables → FitsInImage tables → IsWrittenImage tables image → Describes image tables
unfolding search_places
IsWrittenImage-describes tables image v f w =
    let word : word_at image 0x40E ≡ tables.at / 16 = word-written image (tables.at / 16) w.size w.segment (omega (arith, f.high)) in
    let there : IsFloatingPointer tables.pointer (part image tables.at 16) = subst (λ x. IsFloatingPointer tables.pointer x) (sym w.pointer) (IsFloatingPointer-written tables.pointer v.pointer) in
    let places : (rest : List ℕ) × (flat_map places_in (areas_of (word_at image 0x40E) (word_at image 0x413) (length image)) ≡ tables.at ∷ rest) =
    first_of_search (word_at image 0x40E) (word_at image 0x413) (length image) tables.at word w.size f.low f.high f.well_formed.paragraph in
    record {
      first = record { before = []; after = places.0; split = places.1; none_before = tt; holds = (tables.pointer, there) };
      tables_there = record { pointer = there; revision = f.well_formed.revision; body = w.body };
    }

-- the image over these bytes
abbrev pub image_over : List ℕ → Tables → List ℕ
image_over bytes tables =
    overlay (overlay (overlay bytes 0x40E (to_le_bytes w16 (tables.at / 16))) tables.at (pointer_bytes tables.pointer)) tables.pointer.address (body_bytes tables.body)

-- the segment and the floating pointer over an image
record HasSegmentAndPointer (tables : Tables) (image : List ℕ) : Type 0 where
  size : length image ≡ 0x100000
  segment : part image 0x40E 2 ≡ to_le_bytes w16 (tables.at / 16)
  pointer : part image tables.at 16 ≡ pointer_bytes tables.pointer

segment_and_pointer : (bytes : List ℕ) (tables : Tables) → length bytes ≡ 0x100000 → IsTablesValue tables → FitsInImage tables
    → HasSegmentAndPointer tables (overlay (overlay bytes 0x40E (to_le_bytes w16 (tables.at / 16))) tables.at (pointer_bytes tables.pointer))
segment_and_pointer bytes tables size v f =
    let word : List ℕ = to_le_bytes w16 (tables.at / 16) in
    let pointer : List ℕ = pointer_bytes tables.pointer in
    let named : List ℕ = overlay bytes 0x40E word in
    let pointer_long : length pointer ≡ 16 = (IsFloatingPointer-written tables.pointer v.pointer).size in
    let word_fits : 0x40E + length word ≤ length bytes = omega (arith, size) in
    let named_long : length named ≡ 0x100000 = length-overlay bytes word 0x40E word_fits ∙ size in
    let pointer_fits : tables.at + length pointer ≤ length named = omega (arith, named_long, pointer_long, f.high) in
    record {
      size = length-overlay named pointer tables.at pointer_fits ∙ named_long;
      segment = part-overlay_before named pointer tables.at pointer_fits 0x40E 2 (omega (arith, f.low)) ∙ part-overlay_here bytes word 0x40E word_fits;
      pointer = ap (λ n. part (overlay named tables.at pointer) tables.at n) (sym pointer_long) ∙ part-overlay_here named pointer tables.at pointer_fits;
    }

-- a table that is put over an image at its address
with_table : (t : Table) (tables : Tables) (image : List ℕ) → tables.body ≡ body.Listed t → IsTablesValue tables → FitsInImage tables → HasSegmentAndPointer tables image → IsWrittenImage tables (overlay image tables.pointer.address (table_bytes t))
with_table t tables image listed v f h =
    let address : ℕ = tables.pointer.address in
    let block : List ℕ = table_bytes t in
    let value : IsBodyValue (body.Listed t) = subst (λ b. IsBodyValue b) listed v.body in
    let formed : IsWellFormedBody (body.Listed t) tables.pointer = subst (λ b. IsWellFormedBody b tables.pointer) listed f.well_formed.body in
    let place : HasBlockPlace (body.Listed t) address tables.at = subst (λ b. HasBlockPlace b address tables.at) listed f.block in
    let long : length block ≡ block_size (body.Listed t) = length-table_bytes t value formed.2 in
    let fits : address + length block ≤ length image = omega (arith, long, place.high, h.size) in
    record {
      size = length-overlay image block address fits ∙ h.size;
      segment = part-overlay_before image block address fits 0x40E 2 (omega (arith, place.low)) ∙ h.segment;
      pointer = apart image block address tables.at fits (sides place.apart (sym long)) ∙ h.pointer;
      body = subst (λ b. IsBodyOf b tables.pointer (overlay image address block)) (sym listed)
          (formed.0, formed.1, IsConfigurationTable-written t (take address image) (drop (address + length block) image) (overlay image address block) address value formed.2 (overlay-parts image block address fits) (front_long image block address fits));
    }
  where
    sides : {a n m b c : ℕ} → (a + n ≤ b) ⊎ (c ≤ a) → n ≡ m → (a + m ≤ b) ⊎ (c ≤ a)
    sides (inl h) e = inl (omega arith)
    sides (inr h) e = inr h

    apart : (image bytes : List ℕ) (address at : ℕ) → address + length bytes ≤ length image → (address + length bytes ≤ at) ⊎ (at + 16 ≤ address) → part (overlay image address bytes) at 16 ≡ part image at 16
    apart image bytes address at fits (inl low) = part-overlay_after image bytes address fits at 16 low
    apart image bytes address at fits (inr high) = part-overlay_before image bytes address fits at 16 high

-- the image over any 1 MiB has the segment, the pointer and the body
image_over-written : (bytes : List ℕ) (tables : Tables) (b : Body) → tables.body ≡ b → length bytes ≡ 0x100000 → IsTablesValue tables → FitsInImage tables → IsWrittenImage tables (image_over bytes tables)
image_over-written bytes tables (body.Default n) named size v f =
    let image : List ℕ = overlay (overlay bytes 0x40E (to_le_bytes w16 (tables.at / 16))) tables.at (pointer_bytes tables.pointer) in
    let h : HasSegmentAndPointer tables image = segment_and_pointer bytes tables size v f in
    let formed : IsWellFormedBody (body.Default n) tables.pointer = subst (λ b. IsWellFormedBody b tables.pointer) named f.well_formed.body in
    let same : image ≡ image_over bytes tables =
    sym (take-append-drop tables.pointer.address image) ∙ sym (nothing_over image tables.pointer.address) ∙ ap (λ b. overlay image tables.pointer.address (body_bytes b)) (sym named) in
    let written : IsWrittenImage tables image = record {
      size = h.size;
      segment = h.segment;
      pointer = h.pointer;
      body = subst (λ b. IsBodyOf b tables.pointer image) (sym named) formed;
    } in
    subst (λ x. IsWrittenImage tables x) same written
  where
    nothing_over : (image : List ℕ) (at : ℕ) → overlay image at [] ≡ take at image ++ drop at image
    nothing_over image at = ap (λ x. x ++ drop (at + 0) image) (append-nil (take at image)) ∙ ap (λ k. take at image ++ drop k image) (add-zero at)
image_over-written bytes tables (body.Listed t) listed size v f =
    let image : List ℕ = overlay (overlay bytes 0x40E (to_le_bytes w16 (tables.at / 16))) tables.at (pointer_bytes tables.pointer) in
    let h : HasSegmentAndPointer tables image = segment_and_pointer bytes tables size v f in
    let same : overlay image tables.pointer.address (table_bytes t) ≡ image_over bytes tables = ap (λ b. overlay image tables.pointer.address (body_bytes b)) (sym listed) in
    subst (λ x. IsWrittenImage tables x) same (with_table t tables image listed v f h)

length-zeros : (n : ℕ) → length {A = ℕ} (replicate n 0) ≡ n
length-zeros n = length-replicate n 0

-- the image that is written is the image over zeros, whose cells nothing here computes
pub image_of-over_zeros : (tables : Tables) → image_of tables ≡ image_over (replicate 0x100000 0) tables
unfolding image_of
image_of-over_zeros tables = refl

-- what holds of the image over any 1 MiB holds of the image that is written
over_any : (P : List ℕ → Type 0) (tables : Tables) → ((bytes : List ℕ) → length bytes ≡ 0x100000 → P (image_over bytes tables)) → P (image_of tables)
unfolding image_of
over_any P tables all = all (replicate 0x100000 0) (length-zeros 0x100000)

image_of-written : (tables : Tables) → IsTablesValue tables → FitsInImage tables → IsWrittenImage tables (image_of tables)
image_of-written tables v f = over_any (λ image. IsWrittenImage tables image) tables (λ bytes size. image_over-written bytes tables tables.body refl size v f)

-- the image that is written for tables has 1 MiB and describes them
pub length-image_of : (tables : Tables) → IsTablesValue tables → FitsInImage tables → length (image_of tables) ≡ 0x100000
length-image_of tables v f = (image_of-written tables v f).size

pub Describes-image_of : (tables : Tables) → IsTablesValue tables → FitsInImage tables → Describes (image_of tables) tables
Describes-image_of tables v f = IsWrittenImage-describes tables (image_of tables) v f (image_of-written tables v f)
