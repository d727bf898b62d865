-- Between two places of an image of bytes there are entries end to end, or a fault of them.
use Rattle.std.proofs.Common.{◌≡◌, ℕ, zero, suc, ◌+◌, ◌-◌, ◌<◌, ◌≤◌, ◌⊎◌, Bool, true, false, eqb, List, [], ◌∷◌, length, sym, refl, ap, subst, inl, inr, arith}
use Rattle.std.specs.Prelude.{slice_index}
use Rattle.std.proofs.lemmas.Bool.{eqb-true, eqb-false, cases_lt}
use Rattle.mpt_base.specs.Bytes.{part, number_at}
use Rattle.mpt_base.specs.declared.fault.Reason.{Reason}
use Rattle.mpt_base.specs.declared.fault.Reason.TheVariants as why
use Rattle.mpt_spec.specs.declared.entry.Base.{Base}
use Rattle.mpt_spec.specs.declared.entry.Base.TheVariants as base
use Rattle.mpt_spec.specs.declared.entry.Ext.{Ext}
use Rattle.mpt_spec.specs.declared.entry.Ext.TheVariants as ext
use Rattle.mpt_spec.specs.Entries.{IsBaseEntryAt, base_length, AreBaseEntries, length_of_type, IsBaseFaultIn}
use Rattle.mpt_spec.specs.Extended.{IsExtEntryAt, ext_length, AreExtEntries, IsLengthOfExtType, IsExtFaultIn}
use Rattle.mpt_spec.proofs.EntryLemmas.{IsBaseFaultIn-after, IsExtFaultIn-after}
use Rattle.mpt_spec.proofs.SpellingLemmas.{length-part}

-- a fact that holds or doesn't
abbrev pub Decided : Type 0 → Type 0
Decided P = P ⊎ (¬ P)

pub decided-eq : (a b : ℕ) → Decided (a ≡ b)
decided-eq a b = by_test (eqb a b) refl
  where
    by_test : (t : Bool) → eqb a b ≡ t → Decided (a ≡ b)
    by_test true h = inl (eqb-true a b h)
    by_test false h = inr (eqb-false a b h)

pub decided-list : (xs ys : List ℕ) → Decided (xs ≡ ys)
decided-list [] [] = inl refl
decided-list [] (y ∷ ys) = inr (λ e. cc)
decided-list (x ∷ xs) [] = inr (λ e. cc)
decided-list (x ∷ xs) (y ∷ ys) = by_parts (decided-eq x y) (decided-list xs ys)
  where
    by_parts : Decided (x ≡ y) → Decided (xs ≡ ys) → Decided (x ∷ xs ≡ y ∷ ys)
    by_parts (inl p) (inl q) = inl (cc)
    by_parts (inl p) (inr n) = inr (λ e. n (cc))
    by_parts (inr n) q = inr (λ e. n (cc))

-- the base entry at a place whose type is known
record HasBaseEntryAt (image : List ℕ) (at : ℕ) : Type 0 where
  entry : Base
  there : IsBaseEntryAt entry image at
  long : length_of_type (slice_index image at) ≡ base_length entry

base_entry_at : (image : List ℕ) (at : ℕ) → slice_index image at ≤ 4 → HasBaseEntryAt image at
base_entry_at image at low = by_type (decided-eq (slice_index image at) 0) (decided-eq (slice_index image at) 1) (decided-eq (slice_index image at) 2) (decided-eq (slice_index image at) 3)
  where
    by_type : Decided (slice_index image at ≡ 0) → Decided (slice_index image at ≡ 1) → Decided (slice_index image at ≡ 2) → Decided (slice_index image at ≡ 3) → HasBaseEntryAt image at
    by_type (inl t) _ _ _ = record {
      entry = base.Processor (record { apic = slice_index image (at + 1); version = slice_index image (at + 2); flags = slice_index image (at + 3); signature = number_at 4 image (at + 4); features = number_at 4 image (at + 8); reserved = part image (at + 12) 8 });
      there = record { type_byte = t; apic = refl; version = refl; flags = refl; signature = refl; features = refl; reserved = refl };
      long = ap length_of_type t;
    }
    by_type (inr _) (inl t) _ _ = record {
      entry = base.Bus (record { id = slice_index image (at + 1); name = part image (at + 2) 6 });
      there = record { type_byte = t; id = refl; name = refl };
      long = ap length_of_type t;
    }
    by_type (inr _) (inr _) (inl t) _ = record {
      entry = base.IoApic (record { id = slice_index image (at + 1); version = slice_index image (at + 2); flags = slice_index image (at + 3); address = number_at 4 image (at + 4) });
      there = record { type_byte = t; id = refl; version = refl; flags = refl; address = refl };
      long = ap length_of_type t;
    }
    by_type (inr _) (inr _) (inr _) (inl t) = record {
      entry = base.IoInt (record { kind = slice_index image (at + 1); flags = number_at 2 image (at + 2); bus = slice_index image (at + 4); irq = slice_index image (at + 5); dest = slice_index image (at + 6); pin = slice_index image (at + 7) });
      there = record { type_byte = t; kind = refl; flags = refl; bus = refl; irq = refl; dest = refl; pin = refl };
      long = ap length_of_type t;
    }
    by_type (inr a) (inr b) (inr c) (inr d) =
        let t : slice_index image at ≡ 4 = omega arith in
        record {
          entry = base.LocalInt (record { kind = slice_index image (at + 1); flags = number_at 2 image (at + 2); bus = slice_index image (at + 4); irq = slice_index image (at + 5); dest = slice_index image (at + 6); pin = slice_index image (at + 7) });
          there = record { type_byte = t; kind = refl; flags = refl; bus = refl; irq = refl; dest = refl; pin = refl };
          long = ap length_of_type t;
        }

-- entries end to end, or the fault of them
abbrev pub AreJudgedBase : List ℕ → ℕ → ℕ → Type 0
AreJudgedBase image from to = ((es : List Base) × AreBaseEntries es image from to) ⊎ ((k : ℕ) × (w : Reason) × IsBaseFaultIn image from to k w)

base_length-some : (e : Base) → 1 ≤ base_length e
base_length-some (base.Processor e) = omega arith
base_length-some (base.Bus e) = omega arith
base_length-some (base.IoApic e) = omega arith
base_length-some (base.IoInt e) = omega arith
base_length-some (base.LocalInt e) = omega arith

-- one entry further
base_step : (image : List ℕ) (from to : ℕ) → from < to → ((e : Base) → IsBaseEntryAt e image from → from + base_length e ≤ to → AreJudgedBase image (from + base_length e) to) → AreJudgedBase image from to
base_step image from to some rest = by_kind (cases_lt 4 (slice_index image from))
  where
    joined : (e : Base) → IsBaseEntryAt e image from → AreJudgedBase image (from + base_length e) to → AreJudgedBase image from to
    joined e there (inl es) = inl (e ∷ es.0, (there, es.1))
    joined e there (inr f) = inr (f.0, f.1, IsBaseFaultIn-after (e ∷ []) image from (from + base_length e) to f.0 f.1 (there, refl) f.2)

    by_room : slice_index image from ≤ 4 → (h : HasBaseEntryAt image from) → (to < from + length_of_type (slice_index image from)) ⊎ (from + length_of_type (slice_index image from) ≤ to) → AreJudgedBase image from to
    by_room known h (inl cut) = inr (from, why.CutEntry, (record { entries = []; are_entries = refl; more = some }, known, cut))
    by_room known h (inr room) = joined h.entry h.there (rest h.entry h.there (subst (λ n. from + n ≤ to) h.long room))

    by_kind : (4 < slice_index image from) ⊎ (slice_index image from ≤ 4) → AreJudgedBase image from to
    by_kind (inl unknown) = inr (from, why.UnknownEntry, (record { entries = []; are_entries = refl; more = some }, unknown))
    by_kind (inr known) = by_room known (base_entry_at image from known) (cases_lt to (from + length_of_type (slice_index image from)))

base_judged : (fuel : ℕ) (image : List ℕ) (from to : ℕ) → from ≤ to → to ≤ from + fuel → AreJudgedBase image from to
base_judged zero image from to low high = inl ([], omega arith)
base_judged (suc fuel) image from to low high = by_end (cases_lt from to) (λ some. base_step image from to some (λ e there room. base_judged fuel image (from + base_length e) to room (omega (arith, base_length-some e))))
  where
    by_end : (from < to) ⊎ (to ≤ from) → (from < to → AreJudgedBase image from to) → AreJudgedBase image from to
    by_end (inl some) go = go some
    by_end (inr none) go = inl ([], omega arith)

pub AreBaseEntries-judged : (image : List ℕ) (from to : ℕ) → from ≤ to → AreJudgedBase image from to
AreBaseEntries-judged image from to low = base_judged (to - from) image from to low (omega arith)

-- a length byte is that of its type or isn't
decided-length : (type_byte n : ℕ) → Decided (IsLengthOfExtType type_byte n)
decided-length type_byte n = by_type (cases_lt n 2) (decided-eq type_byte 128) (decided-eq type_byte 129) (decided-eq type_byte 130) (decided-eq n 20) (decided-eq n 8)
  where
    by_type : (n < 2) ⊎ (2 ≤ n) → Decided (type_byte ≡ 128) → Decided (type_byte ≡ 129) → Decided (type_byte ≡ 130) → Decided (n ≡ 20) → Decided (n ≡ 8) → Decided (IsLengthOfExtType type_byte n)
    by_type (inl short) _ _ _ _ _ = inr (λ h. omega (arith, short, h.whole))
    by_type (inr whole) (inl t) _ _ (inl e) _ = inl (record { whole = whole; space = λ u. e; hierarchy = λ u. absurd (omega (arith, t, u)); modifier = λ u. absurd (omega (arith, t, u)) })
    by_type (inr whole) (inl t) _ _ (inr n) _ = inr (λ h. n (h.space t))
    by_type (inr whole) (inr a) (inl t) _ _ (inl e) = inl (record { whole = whole; space = λ u. absurd (a u); hierarchy = λ u. e; modifier = λ u. e })
    by_type (inr whole) (inr a) (inl t) _ _ (inr n) = inr (λ h. n (h.hierarchy t))
    by_type (inr whole) (inr a) (inr b) (inl t) _ (inl e) = inl (record { whole = whole; space = λ u. absurd (a u); hierarchy = λ u. e; modifier = λ u. e })
    by_type (inr whole) (inr a) (inr b) (inl t) _ (inr n) = inr (λ h. n (h.modifier t))
    by_type (inr whole) (inr a) (inr b) (inr c) _ _ = inl (record { whole = whole; space = λ u. absurd (a u); hierarchy = λ u. absurd (b u); modifier = λ u. absurd (c u) })

-- the extended entry at a place whose length is right
record HasExtEntryAt (image : List ℕ) (at : ℕ) : Type 0 where
  entry : Ext
  there : IsExtEntryAt entry image at
  long : slice_index image (at + 1) ≡ ext_length entry

ext_entry_at : (image : List ℕ) (at : ℕ) → 128 ≤ slice_index image at → IsLengthOfExtType (slice_index image at) (slice_index image (at + 1)) → at + slice_index image (at + 1) ≤ length image → HasExtEntryAt image at
ext_entry_at image at known right room = by_type (decided-eq (slice_index image at) 128) (decided-eq (slice_index image at) 129) (decided-eq (slice_index image at) 130)
  where
    by_type : Decided (slice_index image at ≡ 128) → Decided (slice_index image at ≡ 129) → Decided (slice_index image at ≡ 130) → HasExtEntryAt image at
    by_type (inl t) _ _ = record {
      entry = ext.Space (record { bus = slice_index image (at + 2); kind = slice_index image (at + 3); base = number_at 8 image (at + 4); length = number_at 8 image (at + 12) });
      there = record { type_byte = t; length_byte = right.space t; bus = refl; kind = refl; base = refl; range = refl };
      long = right.space t;
    }
    by_type (inr _) (inl t) _ = record {
      entry = ext.Hierarchy (record { bus = slice_index image (at + 2); info = slice_index image (at + 3); parent = slice_index image (at + 4); reserved = part image (at + 5) 3 });
      there = record { type_byte = t; length_byte = right.hierarchy t; bus = refl; info = refl; parent = refl; reserved = refl };
      long = right.hierarchy t;
    }
    by_type (inr _) (inr _) (inl t) = record {
      entry = ext.Modifier (record { bus = slice_index image (at + 2); flags = slice_index image (at + 3); ranges = number_at 4 image (at + 4) });
      there = record { type_byte = t; length_byte = right.modifier t; bus = refl; flags = refl; ranges = refl };
      long = right.modifier t;
    }
    by_type (inr a) (inr b) (inr c) =
        let count : ℕ = slice_index image (at + 1) - 2 in
        let rest : List ℕ = part image (at + 2) count in
        let whole : 2 ≤ slice_index image (at + 1) = right.whole in
        let size : length rest ≡ count = length-part image (at + 2) count (omega arith) in
        record {
          entry = ext.Opaque (record { kind = slice_index image at; rest = rest });
          there = record { type_byte = refl; above = omega arith; length_byte = omega arith; rest = ap (λ n. part image (at + 2) n) (sym size) };
          long = omega arith;
        }

abbrev pub AreJudgedExt : List ℕ → ℕ → ℕ → Type 0
AreJudgedExt image from to = ((es : List Ext) × AreExtEntries es image from to) ⊎ ((k : ℕ) × (w : Reason) × IsExtFaultIn image from to k w)

ext_length-some : (e : Ext) → 1 ≤ ext_length e
ext_length-some (ext.Space e) = omega arith
ext_length-some (ext.Hierarchy e) = omega arith
ext_length-some (ext.Modifier e) = omega arith
ext_length-some (ext.Opaque e) = omega arith

ext_step : (image : List ℕ) (from to : ℕ) → to ≤ length image → from < to → ((e : Ext) → IsExtEntryAt e image from → from + ext_length e ≤ to → AreJudgedExt image (from + ext_length e) to) → AreJudgedExt image from to
ext_step image from to inside some rest = by_kind (cases_lt (slice_index image from) 128)
  where
    joined : (e : Ext) → IsExtEntryAt e image from → AreJudgedExt image (from + ext_length e) to → AreJudgedExt image from to
    joined e there (inl es) = inl (e ∷ es.0, (there, es.1))
    joined e there (inr f) = inr (f.0, f.1, IsExtFaultIn-after (e ∷ []) image from (from + ext_length e) to f.0 f.1 (there, refl) f.2)

    taken : (h : HasExtEntryAt image from) → from + slice_index image (from + 1) ≤ to → AreJudgedExt image from to
    taken h room = joined h.entry h.there (rest h.entry h.there (subst (λ n. from + n ≤ to) h.long room))

    by_room : 128 ≤ slice_index image from → IsLengthOfExtType (slice_index image from) (slice_index image (from + 1)) → (to < from + slice_index image (from + 1)) ⊎ (from + slice_index image (from + 1) ≤ to) → AreJudgedExt image from to
    by_room known right (inl cut) = inr (from, why.CutExtEntry, (record { entries = []; are_entries = refl; more = some }, known, inr (right, cut)))
    by_room known right (inr room) = taken (ext_entry_at image from known right (omega arith)) room

    by_length : 128 ≤ slice_index image from → from + 2 ≤ to → Decided (IsLengthOfExtType (slice_index image from) (slice_index image (from + 1))) → AreJudgedExt image from to
    by_length known two (inl right) = by_room known right (cases_lt to (from + slice_index image (from + 1)))
    by_length known two (inr wrong) = inr (from + 1, why.BadExtLength, (from, refl, record { entries = []; are_entries = refl; more = some }, known, two, wrong))

    by_bytes : 128 ≤ slice_index image from → (to < from + 2) ⊎ (from + 2 ≤ to) → AreJudgedExt image from to
    by_bytes known (inl one) = inr (from, why.CutExtEntry, (record { entries = []; are_entries = refl; more = some }, known, inl (omega arith)))
    by_bytes known (inr two) = by_length known two (decided-length (slice_index image from) (slice_index image (from + 1)))

    by_kind : (slice_index image from < 128) ⊎ (128 ≤ slice_index image from) → AreJudgedExt image from to
    by_kind (inl unknown) = inr (from, why.BadExtType, (record { entries = []; are_entries = refl; more = some }, unknown))
    by_kind (inr known) = by_bytes known (cases_lt to (from + 2))

ext_judged : (fuel : ℕ) (image : List ℕ) (from to : ℕ) → to ≤ length image → from ≤ to → to ≤ from + fuel → AreJudgedExt image from to
ext_judged zero image from to inside low high = inl ([], omega arith)
ext_judged (suc fuel) image from to inside low high =
    by_end (cases_lt from to) (λ some. ext_step image from to inside some (λ e there room. ext_judged fuel image (from + ext_length e) to inside room (omega (arith, ext_length-some e))))
  where
    by_end : (from < to) ⊎ (to ≤ from) → (from < to → AreJudgedExt image from to) → AreJudgedExt image from to
    by_end (inl some) go = go some
    by_end (inr none) go = inl ([], omega arith)

pub AreExtEntries-judged : (image : List ℕ) (from to : ℕ) → to ≤ length image → from ≤ to → AreJudgedExt image from to
AreExtEntries-judged image from to inside low = ext_judged (to - from) image from to inside low (omega arith)
