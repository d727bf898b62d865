-- Entries that stand end to end. Of entries of any kind:
--     AreEntries E At size es from to   they stand end to end, by what stands where and how long it is; AreEntries-le, -append, -unique
--     IsStoppedAt E At size from to k   they end before k, and none that begins there ends by the end
--     stopped_no_entries, stopped_unique   then there are none from `from` to `to`, and k is one
-- Each further lemma stands for base entries and, with Ext for Base, for extended ones.
--     IsBaseEntryAt-unique         a place has one entry
--     IsBaseEntryAt-type           what the type byte of an entry says; for extended ones IsExtEntryAt-head
--     AreBaseEntries-unique        a range has one list of entries
--     AreBaseEntries-le            a range of entries ends at or behind its start
--     AreBaseEntries-append        entries, and more behind them; AreBaseEntries-push: one more
--     IsBaseFaultIn-no_entries     where entries are at fault, none stand end to end
--     IsBaseFaultIn-unique         there is one fault
--     IsBaseFaultIn-bounds         the fault lies in the range
--     IsBaseFaultIn-after          the fault of the rest is that of the whole
use Rattle.std.proofs.Common.{◌≡◌, ℕ, ◌+◌, ◌≤◌, ◌<◌, List, [], ◌∷◌, ◌++◌, length, refl, sym, ap, ◌∙◌, subst, inl, inr, arith}
use Rattle.std.specs.Prelude.{slice_index, ◌⊎◌}
use Rattle.mpt_base.specs.declared.fault.Reason.{Reason}
use Rattle.mpt_base.specs.declared.fault.Reason.TheVariants as why
use Rattle.mpt_spec.specs.declared.entry.Processor.{Processor}
use Rattle.mpt_spec.specs.declared.entry.Bus.{Bus}
use Rattle.mpt_spec.specs.declared.entry.IoApic.{IoApic}
use Rattle.mpt_spec.specs.declared.entry.IntEntry.{IntEntry}
use Rattle.mpt_spec.specs.declared.entry.Base.{Base}
use Rattle.mpt_spec.specs.declared.entry.Base.TheVariants as base
use Rattle.mpt_spec.specs.declared.entry.Space.{Space}
use Rattle.mpt_spec.specs.declared.entry.Hierarchy.{Hierarchy}
use Rattle.mpt_spec.specs.declared.entry.Modifier.{Modifier}
use Rattle.mpt_spec.specs.declared.entry.Opaque.{Opaque}
use Rattle.mpt_spec.specs.declared.entry.Ext.{Ext}
use Rattle.mpt_spec.specs.declared.entry.Ext.TheVariants as ext
use Rattle.mpt_spec.specs.Entries.{IsProcessorAt, IsBusAt, IsIoApicAt, IsInterruptAt, IsBaseEntryAt, base_length, AreBaseEntries, HasBaseEntriesBefore, length_of_type, IsBaseFaultIn}
use Rattle.mpt_spec.specs.Extended.{IsSpaceAt, IsHierarchyAt, IsModifierAt, IsOpaqueAt, IsExtEntryAt, ext_length, AreExtEntries, HasExtEntriesBefore, IsLengthOfExtType, IsExtFaultIn}

-- entries of any kind that stand end to end, by what stands where and how long it is
abbrev pub AreEntries : (E : Type 0) → (E → ℕ → Type 0) → (E → ℕ) → List E → ℕ → ℕ → Type 0
AreEntries E At size [] from to = from ≡ to
AreEntries E At size (e ∷ es) from to = At e from × AreEntries E At size es (from + size e) to

-- a place has at most one entry, and no entry is empty
pub record IsDetermined (E : Type 0) (At : E → ℕ → Type 0) (size : E → ℕ) : Type 0 where
  pub one : (e f : E) (at : ℕ) → At e at → At f at → e ≡ f
  pub longer : (e : E) → 0 < size e

-- no entry that begins at the place ends by the end
abbrev pub IsStuck : (E : Type 0) → (E → ℕ → Type 0) → (E → ℕ) → ℕ → ℕ → Type 0
IsStuck E At size to k = (e : E) → At e k → to < k + size e

pub AreEntries-le : (E : Type 0) (At : E → ℕ → Type 0) (size : E → ℕ) (es : List E) (from to : ℕ) → AreEntries E At size es from to → from ≤ to
AreEntries-le E At size [] from to h = omega arith
AreEntries-le E At size (e ∷ es) from to h =
    let rest : from + size e ≤ to = AreEntries-le E At size es (from + size e) to h.1 in omega arith

pub AreEntries-append : (E : Type 0) (At : E → ℕ → Type 0) (size : E → ℕ) (es fs : List E) (from mid to : ℕ) → AreEntries E At size es from mid → AreEntries E At size fs mid to → AreEntries E At size (es ++ fs) from to
AreEntries-append E At size [] fs from mid to h g = subst (λ (n : ℕ). AreEntries E At size fs n to) (sym h) g
AreEntries-append E At size (e ∷ es) fs from mid to h g = (h.0, AreEntries-append E At size es fs (from + size e) mid to h.1 g)

pub AreEntries-unique : (E : Type 0) (At : E → ℕ → Type 0) (size : E → ℕ) → IsDetermined E At size → (es fs : List E) (from to : ℕ) → AreEntries E At size es from to → AreEntries E At size fs from to → es ≡ fs
AreEntries-unique E At size d [] [] from to h g = refl
AreEntries-unique E At size d [] (f ∷ fs) from to h g =
    let some : 0 < size f = d.longer f in
    let rest : from + size f ≤ to = AreEntries-le E At size fs (from + size f) to g.1 in
    absurd (omega arith)
AreEntries-unique E At size d (e ∷ es) [] from to h g =
    let some : 0 < size e = d.longer e in
    let rest : from + size e ≤ to = AreEntries-le E At size es (from + size e) to h.1 in
    absurd (omega arith)
AreEntries-unique E At size d (e ∷ es) (f ∷ fs) from to h g =
    let same : e ≡ f = d.one e f from h.0 g.0 in
    let there : AreEntries E At size fs (from + size e) to = subst (λ (x : E). AreEntries E At size fs (from + size x) to) (sym same) g.1 in
    let rest : es ≡ fs = AreEntries-unique E At size d es fs (from + size e) to h.1 there in
    cc

-- entries up to a place, and entries up to one behind it: one of these begins at the place
pub next_entry : (E : Type 0) (At : E → ℕ → Type 0) (size : E → ℕ) → IsDetermined E At size → (es fs : List E) (from k to : ℕ) → AreEntries E At size es from k → AreEntries E At size fs from to → k < to → (e : E) × At e k × (k + size e ≤ to)
next_entry E At size d es [] from k to h g l =
    let before : from ≤ k = AreEntries-le E At size es from k h in
    absurd (omega arith)
next_entry E At size d [] (f ∷ fs) from k to h g l =
    let rest : from + size f ≤ to = AreEntries-le E At size fs (from + size f) to g.1 in
    (f, subst (At f) h g.0, omega arith)
next_entry E At size d (e ∷ es) (f ∷ fs) from k to h g l =
    let same : e ≡ f = d.one e f from h.0 g.0 in
    let there : AreEntries E At size fs (from + size e) to = subst (λ (x : E). AreEntries E At size fs (from + size x) to) (sym same) g.1 in
    next_entry E At size d es fs (from + size e) k to h.1 there l

-- entries end before the place, and there no entry that begins ends by the end
pub record IsStoppedAt (E : Type 0) (At : E → ℕ → Type 0) (size : E → ℕ) (from to k : ℕ) : Type 0 where
  pub entries : List E
  pub are_entries : AreEntries E At size entries from k
  pub more : k < to
  pub stuck : IsStuck E At size to k

-- what ends behind the place has an entry there, which ends by the end
pub stopped_not_before : (E : Type 0) (At : E → ℕ → Type 0) (size : E → ℕ) → IsDetermined E At size → (fs : List E) (from to k j : ℕ) → IsStoppedAt E At size from to k → AreEntries E At size fs from j → k < j → to < j
stopped_not_before E At size d fs from to k j s g l =
    let next = next_entry E At size d s.entries fs from k j s.are_entries g l in
    let past : to < k + size next.0 = s.stuck next.0 next.1 in
    omega (arith, next.2)

-- then none that begin there end by the end
pub stopped_no_entries : (E : Type 0) (At : E → ℕ → Type 0) (size : E → ℕ) → IsDetermined E At size → (fs : List E) (from to k : ℕ) → IsStoppedAt E At size from to k → AreEntries E At size fs from to → ⊥
stopped_no_entries E At size d fs from to k s g =
    let more : k < to = s.more in
    let past : to < to = stopped_not_before E At size d fs from to k to s g more in
    omega arith

-- there is one such place
pub stopped_unique : (E : Type 0) (At : E → ℕ → Type 0) (size : E → ℕ) → IsDetermined E At size → (from to k j : ℕ) → IsStoppedAt E At size from to k → IsStoppedAt E At size from to j → k ≡ j
stopped_unique E At size d from to k j s t =
    let up : k < j → to < j = stopped_not_before E At size d t.entries from to k j s t.are_entries in
    let down : j < k → to < k = stopped_not_before E At size d s.entries from to j k t s.are_entries in
    let more_s : k < to = s.more in
    let more_t : j < to = t.more in
    grind arith

same : {A : Type 0} {x y z : A} → x ≡ z → y ≡ z → x ≡ y
same p q = p ∙ sym q

IsProcessorAt-unique : (e f : Processor) (bytes : List ℕ) (at : ℕ) → IsProcessorAt e bytes at → IsProcessorAt f bytes at → e ≡ f
IsProcessorAt-unique e f bytes at h g = λ i. record { apic = same h.apic g.apic i; version = same h.version g.version i; flags = same h.flags g.flags i; signature = same h.signature g.signature i; features = same h.features g.features i; reserved = same h.reserved g.reserved i }

IsBusAt-unique : (e f : Bus) (bytes : List ℕ) (at : ℕ) → IsBusAt e bytes at → IsBusAt f bytes at → e ≡ f
IsBusAt-unique e f bytes at h g = λ i. record { id = same h.id g.id i; name = same h.name g.name i }

IsIoApicAt-unique : (e f : IoApic) (bytes : List ℕ) (at : ℕ) → IsIoApicAt e bytes at → IsIoApicAt f bytes at → e ≡ f
IsIoApicAt-unique e f bytes at h g = λ i. record { id = same h.id g.id i; version = same h.version g.version i; flags = same h.flags g.flags i; address = same h.address g.address i }

IsInterruptAt-unique : (t : ℕ) (e f : IntEntry) (bytes : List ℕ) (at : ℕ) → IsInterruptAt t e bytes at → IsInterruptAt t f bytes at → e ≡ f
IsInterruptAt-unique t e f bytes at h g = λ i. record { kind = same h.kind g.kind i; flags = same h.flags g.flags i; bus = same h.bus g.bus i; irq = same h.irq g.irq i; dest = same h.dest g.dest i; pin = same h.pin g.pin i }

-- a place has one base entry
pub IsBaseEntryAt-unique : (e f : Base) (bytes : List ℕ) (at : ℕ) → IsBaseEntryAt e bytes at → IsBaseEntryAt f bytes at → e ≡ f
IsBaseEntryAt-unique (base.Processor e) (base.Processor f) bytes at h g = ap base.Processor (IsProcessorAt-unique e f bytes at h g)
IsBaseEntryAt-unique (base.Bus e) (base.Bus f) bytes at h g = ap base.Bus (IsBusAt-unique e f bytes at h g)
IsBaseEntryAt-unique (base.IoApic e) (base.IoApic f) bytes at h g = ap base.IoApic (IsIoApicAt-unique e f bytes at h g)
IsBaseEntryAt-unique (base.IoInt e) (base.IoInt f) bytes at h g = ap base.IoInt (IsInterruptAt-unique 3 e f bytes at h g)
IsBaseEntryAt-unique (base.LocalInt e) (base.LocalInt f) bytes at h g = ap base.LocalInt (IsInterruptAt-unique 4 e f bytes at h g)
IsBaseEntryAt-unique _ _ bytes at h g = absurd (omega arith)

IsSpaceAt-unique : (e f : Space) (bytes : List ℕ) (at : ℕ) → IsSpaceAt e bytes at → IsSpaceAt f bytes at → e ≡ f
IsSpaceAt-unique e f bytes at h g = λ i. record { bus = same h.bus g.bus i; kind = same h.kind g.kind i; base = same h.base g.base i; length = same h.range g.range i }

IsHierarchyAt-unique : (e f : Hierarchy) (bytes : List ℕ) (at : ℕ) → IsHierarchyAt e bytes at → IsHierarchyAt f bytes at → e ≡ f
IsHierarchyAt-unique e f bytes at h g = λ i. record { bus = same h.bus g.bus i; info = same h.info g.info i; parent = same h.parent g.parent i; reserved = same h.reserved g.reserved i }

IsModifierAt-unique : (e f : Modifier) (bytes : List ℕ) (at : ℕ) → IsModifierAt e bytes at → IsModifierAt f bytes at → e ≡ f
IsModifierAt-unique e f bytes at h g = λ i. record { bus = same h.bus g.bus i; flags = same h.flags g.flags i; ranges = same h.ranges g.ranges i }

IsOpaqueAt-unique : (e f : Opaque) (bytes : List ℕ) (at : ℕ) → IsOpaqueAt e bytes at → IsOpaqueAt f bytes at → e ≡ f
IsOpaqueAt-unique e f bytes at h g =
    let n : length e.rest ≡ length f.rest = omega arith in
    let rest : e.rest ≡ f.rest = cc in
    λ i. record { kind = same h.type_byte g.type_byte i; rest = rest i }

-- a place has one extended entry
pub IsExtEntryAt-unique : (e f : Ext) (bytes : List ℕ) (at : ℕ) → IsExtEntryAt e bytes at → IsExtEntryAt f bytes at → e ≡ f
IsExtEntryAt-unique (ext.Space e) (ext.Space f) bytes at h g = ap ext.Space (IsSpaceAt-unique e f bytes at h g)
IsExtEntryAt-unique (ext.Hierarchy e) (ext.Hierarchy f) bytes at h g = ap ext.Hierarchy (IsHierarchyAt-unique e f bytes at h g)
IsExtEntryAt-unique (ext.Modifier e) (ext.Modifier f) bytes at h g = ap ext.Modifier (IsModifierAt-unique e f bytes at h g)
IsExtEntryAt-unique (ext.Opaque e) (ext.Opaque f) bytes at h g = ap ext.Opaque (IsOpaqueAt-unique e f bytes at h g)
IsExtEntryAt-unique _ _ bytes at h g = absurd (omega arith)

-- what stands where, with the place last
abbrev BaseAt : List ℕ → Base → ℕ → Type 0
BaseAt bytes e at = IsBaseEntryAt e bytes at

abbrev ExtAt : List ℕ → Ext → ℕ → Type 0
ExtAt bytes e at = IsExtEntryAt e bytes at

base_length-pos : (e : Base) → 0 < base_length e
base_length-pos (base.Processor e) = omega arith
base_length-pos _ = omega arith

ext_length-ge_two : (e : Ext) → 2 ≤ ext_length e
ext_length-ge_two (ext.Opaque e) = omega arith
ext_length-ge_two _ = omega arith

base_determined : (bytes : List ℕ) → IsDetermined Base (BaseAt bytes) base_length
base_determined bytes = record { one = λ e f at h g. IsBaseEntryAt-unique e f bytes at h g; longer = base_length-pos }

ext_determined : (bytes : List ℕ) → IsDetermined Ext (ExtAt bytes) ext_length
ext_determined bytes = record { one = λ e f at h g. IsExtEntryAt-unique e f bytes at h g; longer = λ e. let n : 2 ≤ ext_length e = ext_length-ge_two e in omega arith }

of_base : (es : List Base) (bytes : List ℕ) (from to : ℕ) → AreBaseEntries es bytes from to → AreEntries Base (BaseAt bytes) base_length es from to
of_base [] bytes from to h = h
of_base (e ∷ es) bytes from to h = (h.0, of_base es bytes (from + base_length e) to h.1)

to_base : (es : List Base) (bytes : List ℕ) (from to : ℕ) → AreEntries Base (BaseAt bytes) base_length es from to → AreBaseEntries es bytes from to
to_base [] bytes from to h = h
to_base (e ∷ es) bytes from to h = (h.0, to_base es bytes (from + base_length e) to h.1)

of_ext : (es : List Ext) (bytes : List ℕ) (from to : ℕ) → AreExtEntries es bytes from to → AreEntries Ext (ExtAt bytes) ext_length es from to
of_ext [] bytes from to h = h
of_ext (e ∷ es) bytes from to h = (h.0, of_ext es bytes (from + ext_length e) to h.1)

to_ext : (es : List Ext) (bytes : List ℕ) (from to : ℕ) → AreEntries Ext (ExtAt bytes) ext_length es from to → AreExtEntries es bytes from to
to_ext [] bytes from to h = h
to_ext (e ∷ es) bytes from to h = (h.0, to_ext es bytes (from + ext_length e) to h.1)

-- a range has one list of base entries
pub AreBaseEntries-unique : (es fs : List Base) (bytes : List ℕ) (from to : ℕ) → AreBaseEntries es bytes from to → AreBaseEntries fs bytes from to → es ≡ fs
AreBaseEntries-unique es fs bytes from to h g =
    AreEntries-unique Base (BaseAt bytes) base_length (base_determined bytes) es fs from to (of_base es bytes from to h) (of_base fs bytes from to g)

-- a range has one list of extended entries
pub AreExtEntries-unique : (es fs : List Ext) (bytes : List ℕ) (from to : ℕ) → AreExtEntries es bytes from to → AreExtEntries fs bytes from to → es ≡ fs
AreExtEntries-unique es fs bytes from to h g =
    AreEntries-unique Ext (ExtAt bytes) ext_length (ext_determined bytes) es fs from to (of_ext es bytes from to h) (of_ext fs bytes from to g)

pub AreBaseEntries-le : (es : List Base) (bytes : List ℕ) (from to : ℕ) → AreBaseEntries es bytes from to → from ≤ to
AreBaseEntries-le es bytes from to h = AreEntries-le Base (BaseAt bytes) base_length es from to (of_base es bytes from to h)

pub AreExtEntries-le : (es : List Ext) (bytes : List ℕ) (from to : ℕ) → AreExtEntries es bytes from to → from ≤ to
AreExtEntries-le es bytes from to h = AreEntries-le Ext (ExtAt bytes) ext_length es from to (of_ext es bytes from to h)

pub AreBaseEntries-append : (es fs : List Base) (bytes : List ℕ) (from mid to : ℕ) → AreBaseEntries es bytes from mid → AreBaseEntries fs bytes mid to → AreBaseEntries (es ++ fs) bytes from to
AreBaseEntries-append es fs bytes from mid to h g =
    to_base (es ++ fs) bytes from to (AreEntries-append Base (BaseAt bytes) base_length es fs from mid to (of_base es bytes from mid h) (of_base fs bytes mid to g))

pub AreExtEntries-append : (es fs : List Ext) (bytes : List ℕ) (from mid to : ℕ) → AreExtEntries es bytes from mid → AreExtEntries fs bytes mid to → AreExtEntries (es ++ fs) bytes from to
AreExtEntries-append es fs bytes from mid to h g =
    to_ext (es ++ fs) bytes from to (AreEntries-append Ext (ExtAt bytes) ext_length es fs from mid to (of_ext es bytes from mid h) (of_ext fs bytes mid to g))

-- one more entry at the end
pub AreBaseEntries-push : (es : List Base) (e : Base) (bytes : List ℕ) (from mid : ℕ) → AreBaseEntries es bytes from mid → IsBaseEntryAt e bytes mid → AreBaseEntries (es ++ e ∷ []) bytes from (mid + base_length e)
AreBaseEntries-push es e bytes from mid h g = AreBaseEntries-append es (e ∷ []) bytes from mid (mid + base_length e) h (g, refl)

pub AreExtEntries-push : (es : List Ext) (e : Ext) (bytes : List ℕ) (from mid : ℕ) → AreExtEntries es bytes from mid → IsExtEntryAt e bytes mid → AreExtEntries (es ++ e ∷ []) bytes from (mid + ext_length e)
AreExtEntries-push es e bytes from mid h g = AreExtEntries-append es (e ∷ []) bytes from mid (mid + ext_length e) h (g, refl)

-- the type byte of a base entry is known, and says how long it is
pub IsBaseEntryAt-type : (e : Base) (bytes : List ℕ) (at : ℕ) → IsBaseEntryAt e bytes at → (slice_index bytes at ≤ 4) × (length_of_type (slice_index bytes at) ≡ base_length e)
IsBaseEntryAt-type (base.Processor e) bytes at h = (omega arith, ap length_of_type h.type_byte)
IsBaseEntryAt-type (base.Bus e) bytes at h = (omega arith, ap length_of_type h.type_byte)
IsBaseEntryAt-type (base.IoApic e) bytes at h = (omega arith, ap length_of_type h.type_byte)
IsBaseEntryAt-type (base.IoInt e) bytes at h = (omega arith, ap length_of_type h.type_byte)
IsBaseEntryAt-type (base.LocalInt e) bytes at h = (omega arith, ap length_of_type h.type_byte)

base_stopped : (bytes : List ℕ) (from to k : ℕ) → HasBaseEntriesBefore bytes from to k → IsStuck Base (BaseAt bytes) base_length to k → IsStoppedAt Base (BaseAt bytes) base_length from to k
base_stopped bytes from to k h stuck = record { entries = h.entries; are_entries = of_base h.entries bytes from k h.are_entries; more = h.more; stuck = stuck }

base_fault_stops : (bytes : List ℕ) (from to k : ℕ) (w : Reason) → IsBaseFaultIn bytes from to k w → IsStoppedAt Base (BaseAt bytes) base_length from to k
base_fault_stops bytes from to k why.UnknownEntry h =
    base_stopped bytes from to k h.0 (λ e g. let known = (IsBaseEntryAt-type e bytes k g).0 in absurd (omega arith))
base_fault_stops bytes from to k why.CutEntry h =
    base_stopped bytes from to k h.0 (λ e g. let long : length_of_type (slice_index bytes k) ≡ base_length e = (IsBaseEntryAt-type e bytes k g).1 in subst (λ (n : ℕ). to < k + n) long h.2)
base_fault_stops bytes from to k _ h = absurd h

-- where base entries are at fault, none stand end to end
pub IsBaseFaultIn-no_entries : (es : List Base) (bytes : List ℕ) (from to k : ℕ) (w : Reason) → IsBaseFaultIn bytes from to k w → AreBaseEntries es bytes from to → ⊥
IsBaseFaultIn-no_entries es bytes from to k w h g =
    stopped_no_entries Base (BaseAt bytes) base_length (base_determined bytes) es from to k (base_fault_stops bytes from to k w h) (of_base es bytes from to g)

base_fault_place : (bytes : List ℕ) (from to k j : ℕ) (w v : Reason) → IsBaseFaultIn bytes from to k w → IsBaseFaultIn bytes from to j v → k ≡ j
base_fault_place bytes from to k j w v h g =
    stopped_unique Base (BaseAt bytes) base_length (base_determined bytes) from to k j (base_fault_stops bytes from to k w h) (base_fault_stops bytes from to j v g)

base_fault_reason : (bytes : List ℕ) (from to k j : ℕ) (w v : Reason) → IsBaseFaultIn bytes from to k w → IsBaseFaultIn bytes from to j v → k ≡ j → w ≡ v
base_fault_reason bytes from to k j why.UnknownEntry why.UnknownEntry h g e = refl
base_fault_reason bytes from to k j why.CutEntry why.CutEntry h g e = refl
base_fault_reason bytes from to k j why.UnknownEntry why.CutEntry h g e =
    let there : slice_index bytes k ≤ 4 = subst (λ (n : ℕ). slice_index bytes n ≤ 4) (sym e) g.1 in absurd (omega (arith, h.1))
base_fault_reason bytes from to k j why.CutEntry why.UnknownEntry h g e =
    let there : 4 < slice_index bytes k = subst (λ (n : ℕ). 4 < slice_index bytes n) (sym e) g.1 in absurd (omega (arith, h.1))
base_fault_reason bytes from to k j why.UnknownEntry _ h g e = absurd g
base_fault_reason bytes from to k j why.CutEntry _ h g e = absurd g
base_fault_reason bytes from to k j _ v h g e = absurd h

-- base entries have one fault
pub IsBaseFaultIn-unique : (bytes : List ℕ) (from to k j : ℕ) (w v : Reason) → IsBaseFaultIn bytes from to k w → IsBaseFaultIn bytes from to j v → (k ≡ j) × (w ≡ v)
IsBaseFaultIn-unique bytes from to k j w v h g =
    let place = base_fault_place bytes from to k j w v h g in (place, base_fault_reason bytes from to k j w v h g place)

-- the fault lies in the range
pub IsBaseFaultIn-bounds : (bytes : List ℕ) (from to k : ℕ) (w : Reason) → IsBaseFaultIn bytes from to k w → (from ≤ k) × (k < to)
IsBaseFaultIn-bounds bytes from to k w h =
    let s = base_fault_stops bytes from to k w h in
    (AreEntries-le Base (BaseAt bytes) base_length s.entries from k s.are_entries, s.more)

base_before_after : (es : List Base) (bytes : List ℕ) (from mid to k : ℕ) → AreBaseEntries es bytes from mid → HasBaseEntriesBefore bytes mid to k → HasBaseEntriesBefore bytes from to k
base_before_after es bytes from mid to k h g =
    record { entries = es ++ g.entries; are_entries = AreBaseEntries-append es g.entries bytes from mid k h g.are_entries; more = g.more }

-- the fault of the rest is that of the whole
pub IsBaseFaultIn-after : (es : List Base) (bytes : List ℕ) (from mid to k : ℕ) (w : Reason) → AreBaseEntries es bytes from mid → IsBaseFaultIn bytes mid to k w → IsBaseFaultIn bytes from to k w
IsBaseFaultIn-after es bytes from mid to k why.UnknownEntry h g = (base_before_after es bytes from mid to k h g.0, g.1)
IsBaseFaultIn-after es bytes from mid to k why.CutEntry h g = (base_before_after es bytes from mid to k h g.0, g.1, g.2)
IsBaseFaultIn-after es bytes from mid to k _ h g = absurd g

-- what the first two bytes of an extended entry say
pub record IsExtHeadAt (e : Ext) (bytes : List ℕ) (at : ℕ) : Type 0 where
  pub known : 128 ≤ slice_index bytes at
  pub length_is : slice_index bytes (at + 1) ≡ ext_length e
  pub right : IsLengthOfExtType (slice_index bytes at) (slice_index bytes (at + 1))

pub IsExtEntryAt-head : (e : Ext) (bytes : List ℕ) (at : ℕ) → IsExtEntryAt e bytes at → IsExtHeadAt e bytes at
IsExtEntryAt-head (ext.Space e) bytes at h =
    record { known = omega arith; length_is = h.length_byte; right = record { whole = omega arith; space = λ t. h.length_byte; hierarchy = λ t. absurd (omega arith); modifier = λ t. absurd (omega arith) } }
IsExtEntryAt-head (ext.Hierarchy e) bytes at h =
    record { known = omega arith; length_is = h.length_byte; right = record { whole = omega arith; space = λ t. absurd (omega arith); hierarchy = λ t. h.length_byte; modifier = λ t. absurd (omega arith) } }
IsExtEntryAt-head (ext.Modifier e) bytes at h =
    record { known = omega arith; length_is = h.length_byte; right = record { whole = omega arith; space = λ t. absurd (omega arith); hierarchy = λ t. absurd (omega arith); modifier = λ t. h.length_byte } }
IsExtEntryAt-head (ext.Opaque e) bytes at h =
    record { known = omega arith; length_is = h.length_byte; right = record { whole = omega arith; space = λ t. absurd (omega arith); hierarchy = λ t. absurd (omega arith); modifier = λ t. absurd (omega arith) } }

-- what is wrong with the entry at a place, and where the fault is
abbrev IsExtBlameAt : List ℕ → ℕ → ℕ → ℕ → Reason → Type 0
IsExtBlameAt bytes to at k why.BadExtType = (k ≡ at) × (slice_index bytes at < 128)
IsExtBlameAt bytes to at k why.BadExtLength = (k ≡ at + 1) × (128 ≤ slice_index bytes at) × (at + 2 ≤ to) × (¬ IsLengthOfExtType (slice_index bytes at) (slice_index bytes (at + 1)))
IsExtBlameAt bytes to at k why.CutExtEntry =
    (k ≡ at) × (128 ≤ slice_index bytes at)
    × ((at + 1 ≡ to) ⊎ (IsLengthOfExtType (slice_index bytes at) (slice_index bytes (at + 1)) × (to < at + slice_index bytes (at + 1))))
IsExtBlameAt bytes to at k _ = ⊥

-- entries end before the place, and there an entry is at fault
record IsExtBlame (bytes : List ℕ) (from to k : ℕ) (w : Reason) : Type 0 where
  place : ℕ
  before : HasExtEntriesBefore bytes from to place
  blame : IsExtBlameAt bytes to place k w

ext_blame : (bytes : List ℕ) (from to k : ℕ) (w : Reason) → IsExtFaultIn bytes from to k w → IsExtBlame bytes from to k w
ext_blame bytes from to k why.BadExtType h = record { place = k; before = h.0; blame = (refl, h.1) }
ext_blame bytes from to k why.BadExtLength h = record { place = h.0; before = h.2; blame = (h.1, h.3, h.4, h.5) }
ext_blame bytes from to k why.CutExtEntry h = record { place = k; before = h.0; blame = (refl, h.1, h.2) }
ext_blame bytes from to k _ h = absurd h

ext_fault : (bytes : List ℕ) (from to k : ℕ) (w : Reason) → IsExtBlame bytes from to k w → IsExtFaultIn bytes from to k w
ext_fault bytes from to k why.BadExtType h =
    let same_place : h.place ≡ k = sym h.blame.0 in
    (subst (HasExtEntriesBefore bytes from to) same_place h.before, subst (λ (n : ℕ). slice_index bytes n < 128) same_place h.blame.1)
ext_fault bytes from to k why.BadExtLength h = (h.place, h.blame.0, h.before, h.blame.1, h.blame.2, h.blame.3)
ext_fault bytes from to k why.CutExtEntry h =
    let same_place : h.place ≡ k = sym h.blame.0 in (
      subst (HasExtEntriesBefore bytes from to) same_place h.before,
      subst (λ (n : ℕ). 128 ≤ slice_index bytes n) same_place h.blame.1,
      subst (λ (n : ℕ). (n + 1 ≡ to) ⊎ (IsLengthOfExtType (slice_index bytes n) (slice_index bytes (n + 1)) × (to < n + slice_index bytes (n + 1)))) same_place h.blame.2,
    )
ext_fault bytes from to k _ h = absurd h.blame

ext_blame_stuck : (bytes : List ℕ) (to at k : ℕ) (w : Reason) → IsExtBlameAt bytes to at k w → (e : Ext) → IsExtEntryAt e bytes at → to < at + ext_length e
ext_blame_stuck bytes to at k why.BadExtType b e g =
    let head : IsExtHeadAt e bytes at = IsExtEntryAt-head e bytes at g in absurd (omega (arith, b.1))
ext_blame_stuck bytes to at k why.BadExtLength b e g = absurd (b.3 (IsExtEntryAt-head e bytes at g).right)
ext_blame_stuck bytes to at k why.CutExtEntry b e g =
    let head : IsExtHeadAt e bytes at = IsExtEntryAt-head e bytes at g in
    let two : 2 ≤ ext_length e = ext_length-ge_two e in
    elim b.2 [ inl last ↦ omega arith | inr cut ↦ omega (arith, cut.1) ]
ext_blame_stuck bytes to at k _ b e g = absurd b

ext_stopped : (bytes : List ℕ) (from to k : ℕ) (w : Reason) → (b : IsExtBlame bytes from to k w) → IsStoppedAt Ext (ExtAt bytes) ext_length from to b.place
ext_stopped bytes from to k w b =
    record { entries = b.before.entries; are_entries = of_ext b.before.entries bytes from b.place b.before.are_entries; more = b.before.more; stuck = ext_blame_stuck bytes to b.place k w b.blame }

-- where extended entries are at fault, none stand end to end
pub IsExtFaultIn-no_entries : (es : List Ext) (bytes : List ℕ) (from to k : ℕ) (w : Reason) → IsExtFaultIn bytes from to k w → AreExtEntries es bytes from to → ⊥
IsExtFaultIn-no_entries es bytes from to k w h g =
    let b = ext_blame bytes from to k w h in
    stopped_no_entries Ext (ExtAt bytes) ext_length (ext_determined bytes) es from to b.place (ext_stopped bytes from to k w b) (of_ext es bytes from to g)

ext_blame_unique : (bytes : List ℕ) (to at k j : ℕ) (w v : Reason) → IsExtBlameAt bytes to at k w → IsExtBlameAt bytes to at j v → (k ≡ j) × (w ≡ v)
ext_blame_unique bytes to at k j why.BadExtType why.BadExtType b c = (same b.0 c.0, refl)
ext_blame_unique bytes to at k j why.BadExtLength why.BadExtLength b c = (same b.0 c.0, refl)
ext_blame_unique bytes to at k j why.CutExtEntry why.CutExtEntry b c = (same b.0 c.0, refl)
ext_blame_unique bytes to at k j why.BadExtType why.BadExtLength b c = absurd (omega (arith, b.1, c.1))
ext_blame_unique bytes to at k j why.BadExtType why.CutExtEntry b c = absurd (omega (arith, b.1, c.1))
ext_blame_unique bytes to at k j why.BadExtLength why.BadExtType b c = absurd (omega (arith, b.1, c.1))
ext_blame_unique bytes to at k j why.CutExtEntry why.BadExtType b c = absurd (omega (arith, b.1, c.1))
ext_blame_unique bytes to at k j why.BadExtLength why.CutExtEntry b c = absurd (elim c.2 [ inl last ↦ omega (arith, b.2) | inr cut ↦ b.3 cut.0 ])
ext_blame_unique bytes to at k j why.CutExtEntry why.BadExtLength b c = absurd (elim b.2 [ inl last ↦ omega (arith, c.2) | inr cut ↦ c.3 cut.0 ])
ext_blame_unique bytes to at k j why.BadExtType _ b c = absurd c
ext_blame_unique bytes to at k j why.BadExtLength _ b c = absurd c
ext_blame_unique bytes to at k j why.CutExtEntry _ b c = absurd c
ext_blame_unique bytes to at k j _ v b c = absurd b

-- extended entries have one fault
pub IsExtFaultIn-unique : (bytes : List ℕ) (from to k j : ℕ) (w v : Reason) → IsExtFaultIn bytes from to k w → IsExtFaultIn bytes from to j v → (k ≡ j) × (w ≡ v)
IsExtFaultIn-unique bytes from to k j w v h g =
    let b = ext_blame bytes from to k w h in
    let c = ext_blame bytes from to j v g in
    let place : c.place ≡ b.place = stopped_unique Ext (ExtAt bytes) ext_length (ext_determined bytes) from to c.place b.place (ext_stopped bytes from to j v c) (ext_stopped bytes from to k w b) in
    ext_blame_unique bytes to b.place k j w v b.blame (subst (λ (n : ℕ). IsExtBlameAt bytes to n j v) place c.blame)

ext_blame_near : (bytes : List ℕ) (to at k : ℕ) (w : Reason) → at < to → IsExtBlameAt bytes to at k w → (at ≤ k) × (k < to)
ext_blame_near bytes to at k why.BadExtType l b = (omega (arith, b.0), omega (arith, b.0))
ext_blame_near bytes to at k why.BadExtLength l b = (omega (arith, b.0), omega (arith, b.0, b.2))
ext_blame_near bytes to at k why.CutExtEntry l b = (omega (arith, b.0), omega (arith, b.0))
ext_blame_near bytes to at k _ l b = absurd b

-- the fault lies in the range
pub IsExtFaultIn-bounds : (bytes : List ℕ) (from to k : ℕ) (w : Reason) → IsExtFaultIn bytes from to k w → (from ≤ k) × (k < to)
IsExtFaultIn-bounds bytes from to k w h =
    let b = ext_blame bytes from to k w h in
    let start : from ≤ b.place = AreExtEntries-le b.before.entries bytes from b.place b.before.are_entries in
    let near = ext_blame_near bytes to b.place k w b.before.more b.blame in
    (omega (arith, near.0), near.1)

-- the fault of the rest is that of the whole
pub IsExtFaultIn-after : (es : List Ext) (bytes : List ℕ) (from mid to k : ℕ) (w : Reason) → AreExtEntries es bytes from mid → IsExtFaultIn bytes mid to k w → IsExtFaultIn bytes from to k w
IsExtFaultIn-after es bytes from mid to k w h g =
    let b = ext_blame bytes mid to k w g in
    let whole : HasExtEntriesBefore bytes from to b.place = record { entries = es ++ b.before.entries; are_entries = AreExtEntries-append es b.before.entries bytes from mid b.place h b.before.are_entries; more = b.before.more } in
    ext_fault bytes from to k w (record { place = b.place; before = whole; blame = b.blame })
