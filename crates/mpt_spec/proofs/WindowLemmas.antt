-- What stands in the bytes of one list stands wherever the same bytes are: entries, their faults, tables and theirs.
--     Agree a b i j n       the n bytes of a from i on are those of b from j on
--     Agree-part            a part of an image, as an image of its own, agrees with the image
--     AreBaseEntries-moved, IsBaseFaultIn-moved   entries and their fault, and the same of extended ones
use Rattle.std.proofs.Common.{◌≡◌, ℕ, zero, suc, ◌+◌, ◌-◌, ◌≤◌, ◌<◌, List, [], ◌∷◌, length, take, drop, refl, sym, ap, ◌∙◌, subst, inl, inr, arith, take-take, drop-drop}
use Rattle.std.specs.Prelude.{slice_index, ◌⊎◌}
use Rattle.std.proofs.lemmas.List.{drop-take}
use Rattle.std.proofs.lemmas.Bool.{cases_lt}
use Rattle.mpt_base.specs.Bytes.{number_at, part}
use Rattle.mpt_base.specs.declared.fault.Reason.{Reason}
use Rattle.mpt_base.specs.declared.fault.Reason.TheVariants as why
use Rattle.mpt_spec.specs.declared.entry.IntEntry.{IntEntry}
use Rattle.mpt_spec.specs.declared.entry.Base.{Base}
use Rattle.mpt_spec.specs.declared.entry.Base.TheVariants as base
use Rattle.mpt_spec.specs.declared.entry.Ext.{Ext}
use Rattle.mpt_spec.specs.declared.entry.Ext.TheVariants as ext
use Rattle.mpt_spec.specs.Entries.{IsInterruptAt, IsBaseEntryAt, base_length, length_of_type, AreBaseEntries, HasBaseEntriesBefore, IsBaseFaultIn}
use Rattle.mpt_spec.specs.Extended.{IsExtEntryAt, ext_length, AreExtEntries, HasExtEntriesBefore, IsLengthOfExtType, IsExtFaultIn}
use Rattle.mpt_spec.proofs.EntryLemmas.{AreBaseEntries-le, AreExtEntries-le}
use Rattle.mpt_spec.proofs.CallerLemmas.{slice_index-part}

-- ---- the same bytes

-- the n bytes of a from i on are those of b from j on
pub record Agree (a b : List ℕ) (i j n : ℕ) : Type 0 where
  pub byte : (k : ℕ) → k < n → slice_index a (i + k) ≡ slice_index b (j + k)
  pub parts : (k m : ℕ) → k + m ≤ n → part a (i + k) m ≡ part b (j + k) m

pub Agree-sym : (a b : List ℕ) (i j n : ℕ) → Agree a b i j n → Agree b a j i n
Agree-sym a b i j n g = record { byte = λ k h. sym (g.byte k h); parts = λ k m h. sym (g.parts k m h) }

-- a part of a part
pub part-part : (bytes : List ℕ) (at n i m : ℕ) → i + m ≤ n → part (part bytes at n) i m ≡ part bytes (at + i) m
part-part bytes at n i m h =
    let whole : n ≡ i + (n - i) = omega arith in
    let inside : m ≤ n - i = omega arith in
    ap (λ (l : ℕ). take m (drop i (take l (drop at bytes)))) whole ∙ ap (λ (xs : List ℕ). take m xs) (drop-take i (n - i) (drop at bytes)) ∙ take-take m (n - i) (drop i (drop at bytes)) inside ∙ ap (λ (xs : List ℕ). take m xs) (drop-drop i at bytes)

-- a part of an image, as an image of its own, agrees with the image
pub Agree-part : (image : List ℕ) (at n : ℕ) → Agree (part image at n) image 0 at n
Agree-part image at n = record {
  byte = λ k h. let none : 0 + k ≡ k = omega arith in rw none (slice_index-part image at n k h);
  parts = λ k m h. let none : 0 + k ≡ k = omega arith in rw none (part-part image at n k m h);
}

pub Agree-within : (a b : List ℕ) (i j n k m : ℕ) → k + m ≤ n → Agree a b i j n → Agree a b (i + k) (j + k) m
Agree-within a b i j n k m h g = record {
  byte = λ x below.
      let left : i + k + x ≡ i + (k + x) = omega arith in
      let right : j + k + x ≡ j + (k + x) = omega arith in
      rw (left, right) (g.byte (k + x) (omega arith));
  parts = λ x l below.
      let left : i + k + x ≡ i + (k + x) = omega arith in
      let right : j + k + x ≡ j + (k + x) = omega arith in
      rw (left, right) (g.parts (k + x) l (omega arith));
}

-- the first byte
pub Agree-first : (a b : List ℕ) (i j n : ℕ) → 0 < n → Agree a b i j n → slice_index a i ≡ slice_index b j
Agree-first a b i j n some g =
    let left : i + 0 ≡ i = omega arith in
    let right : j + 0 ≡ j = omega arith in
    subst (λ (x : ℕ). slice_index a x ≡ slice_index b j) left (subst (λ (y : ℕ). slice_index a (i + 0) ≡ slice_index b y) right (g.byte 0 some))

-- the first bytes
pub Agree-front : (a b : List ℕ) (i j n m : ℕ) → m ≤ n → Agree a b i j n → part a i m ≡ part b j m
Agree-front a b i j n m h g =
    let left : i + 0 ≡ i = omega arith in
    let right : j + 0 ≡ j = omega arith in
    subst (λ (x : ℕ). part a x m ≡ part b j m) left (subst (λ (y : ℕ). part a (i + 0) m ≡ part b y m) right (g.parts 0 m (omega arith)))

-- a number
pub Agree-number : (m : ℕ) (a b : List ℕ) (i j n k : ℕ) → k + m ≤ n → Agree a b i j n → number_at m a (i + k) ≡ number_at m b (j + k)
Agree-number zero a b i j n k h g = refl
Agree-number (suc m) a b i j n k h g =
    let first : slice_index a (i + k) ≡ slice_index b (j + k) = g.byte k (omega arith) in
    let rest : number_at m a (i + suc k) ≡ number_at m b (j + suc k) = Agree-number m a b i j n (suc k) (omega arith) g in
    let left : suc (i + k) ≡ i + suc k = omega arith in
    let right : suc (j + k) ≡ j + suc k = omega arith in
    rw (first, left, right, rest) refl

-- ---- base entries

interrupt_moved : (t : ℕ) (e : IntEntry) (a b : List ℕ) (i j : ℕ) → Agree a b i j 8 → IsInterruptAt t e a i → IsInterruptAt t e b j
interrupt_moved t e a b i j g h = record {
  type_byte = sym (Agree-first a b i j 8 (omega arith) g) ∙ h.type_byte;
  kind = h.kind ∙ g.byte 1 (omega arith);
  flags = h.flags ∙ Agree-number 2 a b i j 8 2 (omega arith) g;
  bus = h.bus ∙ g.byte 4 (omega arith);
  irq = h.irq ∙ g.byte 5 (omega arith);
  dest = h.dest ∙ g.byte 6 (omega arith);
  pin = h.pin ∙ g.byte 7 (omega arith);
}

IsBaseEntryAt-moved : (e : Base) (a b : List ℕ) (i j : ℕ) → Agree a b i j (base_length e) → IsBaseEntryAt e a i → IsBaseEntryAt e b j
IsBaseEntryAt-moved (base.Processor e) a b i j g h = record {
  type_byte = sym (Agree-first a b i j 20 (omega arith) g) ∙ h.type_byte;
  apic = h.apic ∙ g.byte 1 (omega arith);
  version = h.version ∙ g.byte 2 (omega arith);
  flags = h.flags ∙ g.byte 3 (omega arith);
  signature = h.signature ∙ Agree-number 4 a b i j 20 4 (omega arith) g;
  features = h.features ∙ Agree-number 4 a b i j 20 8 (omega arith) g;
  reserved = h.reserved ∙ g.parts 12 8 (omega arith);
}
IsBaseEntryAt-moved (base.Bus e) a b i j g h = record {
  type_byte = sym (Agree-first a b i j 8 (omega arith) g) ∙ h.type_byte;
  id = h.id ∙ g.byte 1 (omega arith);
  name = h.name ∙ g.parts 2 6 (omega arith);
}
IsBaseEntryAt-moved (base.IoApic e) a b i j g h = record {
  type_byte = sym (Agree-first a b i j 8 (omega arith) g) ∙ h.type_byte;
  id = h.id ∙ g.byte 1 (omega arith);
  version = h.version ∙ g.byte 2 (omega arith);
  flags = h.flags ∙ g.byte 3 (omega arith);
  address = h.address ∙ Agree-number 4 a b i j 8 4 (omega arith) g;
}
IsBaseEntryAt-moved (base.IoInt e) a b i j g h = interrupt_moved 3 e a b i j g h
IsBaseEntryAt-moved (base.LocalInt e) a b i j g h = interrupt_moved 4 e a b i j g h

-- base entries stand wherever their bytes are
pub AreBaseEntries-moved : (es : List Base) (a b : List ℕ) (i j n from to : ℕ) → Agree a b i j n → to ≤ n → AreBaseEntries es a (i + from) (i + to) → AreBaseEntries es b (j + from) (j + to)
AreBaseEntries-moved [] a b i j n from to g inside h = omega arith
AreBaseEntries-moved (e ∷ es) a b i j n from to g inside h =
    let size = base_length e in
    let next : i + from + size ≡ i + (from + size) = omega arith in
    let after : j + (from + size) ≡ j + from + size = omega arith in
    let rest : AreBaseEntries es a (i + (from + size)) (i + to) = subst (λ (x : ℕ). AreBaseEntries es a x (i + to)) next h.1 in
    let le : i + (from + size) ≤ i + to = AreBaseEntries-le es a (i + (from + size)) (i + to) rest in (
      IsBaseEntryAt-moved e a b (i + from) (j + from) (Agree-within a b i j n from size (omega arith) g) h.0,
      subst (λ (x : ℕ). AreBaseEntries es b x (j + to)) after (AreBaseEntries-moved es a b i j n (from + size) to g inside rest),
    )

base_before_moved : (a b : List ℕ) (i j n from to k : ℕ) → Agree a b i j n → to ≤ n → HasBaseEntriesBefore a (i + from) (i + to) (i + k) → HasBaseEntriesBefore b (j + from) (j + to) (j + k)
base_before_moved a b i j n from to k g inside h = record {
  entries = h.entries;
  are_entries = AreBaseEntries-moved h.entries a b i j n from k g (omega (arith, h.more)) h.are_entries;
  more = omega (arith, h.more);
}

-- the fault of base entries is there wherever their bytes are
pub IsBaseFaultIn-moved : (a b : List ℕ) (i j n from to k : ℕ) (w : Reason) → Agree a b i j n → to ≤ n → IsBaseFaultIn a (i + from) (i + to) (i + k) w → IsBaseFaultIn b (j + from) (j + to) (j + k) w
IsBaseFaultIn-moved a b i j n from to k why.UnknownEntry g inside h =
    let same = g.byte k (omega (arith, h.0.more)) in
    (base_before_moved a b i j n from to k g inside h.0, omega (arith, h.1, same))
IsBaseFaultIn-moved a b i j n from to k why.CutEntry g inside h =
    let same = g.byte k (omega (arith, h.0.more)) in
    let size = ap length_of_type same in
    (base_before_moved a b i j n from to k g inside h.0, omega (arith, h.1, same), omega (arith, h.2, size))
IsBaseFaultIn-moved a b i j n from to k _ g inside h = absurd h

-- ---- extended entries

IsExtEntryAt-moved : (e : Ext) (a b : List ℕ) (i j : ℕ) → Agree a b i j (ext_length e) → IsExtEntryAt e a i → IsExtEntryAt e b j
IsExtEntryAt-moved (ext.Space e) a b i j g h = record {
  type_byte = sym (Agree-first a b i j 20 (omega arith) g) ∙ h.type_byte;
  length_byte = sym (g.byte 1 (omega arith)) ∙ h.length_byte;
  bus = h.bus ∙ g.byte 2 (omega arith);
  kind = h.kind ∙ g.byte 3 (omega arith);
  base = h.base ∙ Agree-number 8 a b i j 20 4 (omega arith) g;
  range = h.range ∙ Agree-number 8 a b i j 20 12 (omega arith) g;
}
IsExtEntryAt-moved (ext.Hierarchy e) a b i j g h = record {
  type_byte = sym (Agree-first a b i j 8 (omega arith) g) ∙ h.type_byte;
  length_byte = sym (g.byte 1 (omega arith)) ∙ h.length_byte;
  bus = h.bus ∙ g.byte 2 (omega arith);
  info = h.info ∙ g.byte 3 (omega arith);
  parent = h.parent ∙ g.byte 4 (omega arith);
  reserved = h.reserved ∙ g.parts 5 3 (omega arith);
}
IsExtEntryAt-moved (ext.Modifier e) a b i j g h = record {
  type_byte = sym (Agree-first a b i j 8 (omega arith) g) ∙ h.type_byte;
  length_byte = sym (g.byte 1 (omega arith)) ∙ h.length_byte;
  bus = h.bus ∙ g.byte 2 (omega arith);
  flags = h.flags ∙ g.byte 3 (omega arith);
  ranges = h.ranges ∙ Agree-number 4 a b i j 8 4 (omega arith) g;
}
IsExtEntryAt-moved (ext.Opaque e) a b i j g h = record {
  type_byte = h.type_byte ∙ Agree-first a b i j (2 + length e.rest) (omega arith) g;
  above = h.above;
  length_byte = sym (g.byte 1 (omega arith)) ∙ h.length_byte;
  rest = h.rest ∙ g.parts 2 (length e.rest) (omega arith);
}

pub AreExtEntries-moved : (es : List Ext) (a b : List ℕ) (i j n from to : ℕ) → Agree a b i j n → to ≤ n → AreExtEntries es a (i + from) (i + to) → AreExtEntries es b (j + from) (j + to)
AreExtEntries-moved [] a b i j n from to g inside h = omega arith
AreExtEntries-moved (e ∷ es) a b i j n from to g inside h =
    let size = ext_length e in
    let next : i + from + size ≡ i + (from + size) = omega arith in
    let after : j + (from + size) ≡ j + from + size = omega arith in
    let rest : AreExtEntries es a (i + (from + size)) (i + to) = subst (λ (x : ℕ). AreExtEntries es a x (i + to)) next h.1 in
    let le : i + (from + size) ≤ i + to = AreExtEntries-le es a (i + (from + size)) (i + to) rest in (
      IsExtEntryAt-moved e a b (i + from) (j + from) (Agree-within a b i j n from size (omega arith) g) h.0,
      subst (λ (x : ℕ). AreExtEntries es b x (j + to)) after (AreExtEntries-moved es a b i j n (from + size) to g inside rest),
    )

ext_before_moved : (a b : List ℕ) (i j n from to k : ℕ) → Agree a b i j n → to ≤ n → HasExtEntriesBefore a (i + from) (i + to) (i + k) → HasExtEntriesBefore b (j + from) (j + to) (j + k)
ext_before_moved a b i j n from to k g inside h = record {
  entries = h.entries;
  are_entries = AreExtEntries-moved h.entries a b i j n from k g (omega (arith, h.more)) h.are_entries;
  more = omega (arith, h.more);
}

cut_moved : (a b : List ℕ) (i j n to k : ℕ) → Agree a b i j n → to ≤ n → i + k < i + to
    → (i + k + 1 ≡ i + to) ⊎ (IsLengthOfExtType (slice_index a (i + k)) (slice_index a (i + k + 1)) × (i + to < i + k + slice_index a (i + k + 1)))
    → (j + k + 1 ≡ j + to) ⊎ (IsLengthOfExtType (slice_index b (j + k)) (slice_index b (j + k + 1)) × (j + to < j + k + slice_index b (j + k + 1)))
cut_moved a b i j n to k g inside more (inl last) = inl (omega arith)
cut_moved a b i j n to k g inside more (inr h) =
    elim (cases_lt (k + 1) to) [
      | inl two ↦
          let first : slice_index a (i + k) ≡ slice_index b (j + k) = g.byte k (omega arith) in
          let next : i + (k + 1) ≡ i + k + 1 = omega arith in
          let after : j + (k + 1) ≡ j + k + 1 = omega arith in
          let second : slice_index a (i + k + 1) ≡ slice_index b (j + k + 1) = rw (next, after) at (g.byte (k + 1) (omega arith)) in
          inr (rw (← first, ← second) h.0, omega (arith, h.1, second))
      | inr one ↦ inl (omega arith)
    ]

-- the fault of extended entries is there wherever their bytes are
pub IsExtFaultIn-moved : (a b : List ℕ) (i j n from to k : ℕ) (w : Reason) → Agree a b i j n → to ≤ n → IsExtFaultIn a (i + from) (i + to) (i + k) w → IsExtFaultIn b (j + from) (j + to) (j + k) w
IsExtFaultIn-moved a b i j n from to k why.BadExtType g inside h =
    let same = g.byte k (omega (arith, h.0.more)) in
    (ext_before_moved a b i j n from to k g inside h.0, omega (arith, h.1, same))
IsExtFaultIn-moved a b i j n from to k why.BadExtLength g inside h =
    let above : i + from ≤ h.0 = AreExtEntries-le h.2.entries a (i + from) h.0 h.2.are_entries in
    let place : ℕ = h.0 - i in
    let there : h.0 ≡ i + place = omega arith in
    let before : HasExtEntriesBefore a (i + from) (i + to) (i + place) = subst (λ (x : ℕ). HasExtEntriesBefore a (i + from) (i + to) x) there h.2 in
    let low : place + 2 ≤ n = omega (arith, h.4) in
    let first : slice_index a h.0 ≡ slice_index b (j + place) = subst (λ (x : ℕ). slice_index a x ≡ slice_index b (j + place)) (sym there) (g.byte place (omega arith)) in
    let next : i + (place + 1) ≡ h.0 + 1 = omega arith in
    let after : j + (place + 1) ≡ j + place + 1 = omega arith in
    let second : slice_index a (h.0 + 1) ≡ slice_index b (j + place + 1) = rw (next, after) at (g.byte (place + 1) (omega arith)) in
    (j + place, omega (arith, h.1), ext_before_moved a b i j n from to place g inside before, omega (arith, h.3, first), omega (arith, h.4), rw (← first, ← second) h.5)
IsExtFaultIn-moved a b i j n from to k why.CutExtEntry g inside h =
    let first = g.byte k (omega (arith, h.0.more)) in
    (ext_before_moved a b i j n from to k g inside h.0, omega (arith, h.1, first), cut_moved a b i j n to k g inside h.0.more h.2)
IsExtFaultIn-moved a b i j n from to k _ g inside h = absurd h
