-- The MADT of tables has bytes.
use Rattle.std.proofs.Common.{◌≡◌, ℕ, zero, suc, ◌+◌, ◌*◌, ◌%◌, ◌^◌, ◌<◌, ◌≤◌, Bool, true, false, cond, List, [], ◌∷◌, ◌++◌, length, map, refl, sym, ap, ◌∙◌, subst, arith}
use Rattle.std.specs.Prelude.{Option, Some, None, filter, filter_map, position, option_map, slice_get, codes, ◌==◌, ⊤, if◌then◌else◌}
use Rattle.std.specs.Int.{to_le_bytes, w16, w32}
use Rattle.std.specs.Option.{option_or}
use Rattle.std.specs.List.{AllByRecursion, enumerate_from, range_with_len, flat_map}
use Rattle.std.proofs.lemmas.List.Quantifiers.{position-Some}
use Rattle.mpt_base.specs.Bytes.{IsByteList}
use Rattle.mpt_base.specs.Writing.{checksum_of}
use Rattle.mpt_spec.specs.declared.entry.Processor.{Processor}
use Rattle.mpt_spec.specs.declared.entry.IoApic.{IoApic}
use Rattle.mpt_spec.specs.declared.entry.IntEntry.{IntEntry}
use Rattle.mpt_spec.specs.declared.tables.Tables.{Tables}
use Rattle.mpt_spec.specs.Canonical.{IsWellFormed}
use Rattle.mpt_spec.specs.Values.{IsTablesValue}
use Rattle.mpt_route.specs.declared.platform.Platform.{Platform}
use Rattle.mpt_route.specs.declared.route.Route.{Route}
use Rattle.mpt_route.specs.declared.route.Answer.{Answer}
use Rattle.mpt_route.specs.declared.route.Answer.TheVariants as answer
use Rattle.mpt_route.specs.Platform.{platform_of, IsSmallPlatform}
use Rattle.mpt_route.specs.Routes.{is_enabled, routes_of}
use Rattle.mpt_route.proofs.SizeLemmas.{platform_of-small}
use Rattle.mpf_madt.specs.declared.line.Line.{Line}
use Rattle.mpf_madt.specs.declared.madt.Madt.{Madt}
use Rattle.mpf_madt.specs.declared.madt.MadtEntry.{MadtEntry}
use Rattle.mpf_madt.specs.declared.madt.MadtEntry.TheVariants as entry
use Rattle.mpf_madt.specs.Table.{IsMadt}
use Rattle.mpf_madt.specs.Lawful.{IsEntryValue, IsLawfulEntry, IsMadtValue, IsLawfulMadt}
use Rattle.mpf_madt.specs.Spelling.{entry_bytes, front_bytes, back_bytes, header_bytes, madt_with, madt_bytes}
use Rattle.mpf_madt.specs.Lines.{first_some, is_isa_int, line_of, line_for, source_by, source_of}
use Rattle.mpf_madt.specs.Translation.{local_of, io_of, is_plain, flags_of, override_for, uid_of, nmi_of, locals_of, ios_of, overrides_of, nmis_of, apics_of, interrupts_of, madt_of}
use Rattle.mpf_madt.proofs.WrittenLemmas.{IsMadt-written}
use Rattle.mpf_madt.proofs.SizeLemmas.{madt_of-small}
use Rattle.mpf_laws.specs.Laws.{HasMadtBytes}
use Rattle.mpf_laws.proofs.ByteLists.{no_bytes, bytes-cons, bytes-append, bytes-test, bytes-2, bytes-4, bytes-flat_map, all-append, all-filter, all-filter_map, IfThere}
use Rattle.mpf_laws.proofs.PlatformValues.{IsLowProcessor, IsLowIoApic, IsLowInt, IsLowPlatform, HasLowRow, platform_of-low, routes_of-low}

-- the line of a source has a low interrupt
abbrev HasLowGsi : Line → Type 0
HasLowGsi l = l.gsi < 2 ^ 32

line_low : (p : Platform) (irq : ℕ) (o : Option IntEntry) (r : Route) → r.io < 4 → r.pin < 256 → IfThere HasLowGsi (line_for p irq o r)
line_low p irq None r h k = tt
line_low p irq (Some e) r h k = go (is_isa_int p irq e)
  where
    go : (b : Bool) → IfThere HasLowGsi (cond b (Some (line_of r)) None)
    go true = omega (arith, h, k)
    go false = tt

by_low : (p : Platform) (irq : ℕ) (a : Answer) → HasLowRow a → IfThere HasLowGsi (source_by p irq a)
by_low p irq (answer.Routed r) h = line_low p irq (slice_get p.ints r.entry) r h.0 h.1
by_low p irq (answer.Unrouted n w) h = tt

or_low : (o q : Option Line) → IfThere HasLowGsi o → IfThere HasLowGsi q → IfThere HasLowGsi (option_or o q)
or_low None q h k = k
or_low (Some l) q h k = h

source_low : (p : Platform) (irq : ℕ) (answers : List Answer) → AllByRecursion HasLowRow answers → IfThere HasLowGsi (source_of p answers irq)
source_low p irq [] h = tt
source_low p irq (a ∷ as_) h = or_low (source_by p irq a) (first_some (source_by p irq) as_) (by_low p irq a h.0) (source_low p irq as_ h.1)

flags_low : (a b : Bool) → (if a then 3 else 1) + 4 * (if b then 3 else 1) < 2 ^ 16
flags_low true true = omega arith
flags_low true false = omega arith
flags_low false true = omega arith
flags_low false false = omega arith

override_value : (irq : ℕ) (o : Option Line) → irq < 16 → IfThere HasLowGsi o → IfThere IsEntryValue (override_for irq o)
override_value irq None low h = tt
override_value irq (Some l) low h = go (is_plain irq l)
  where
    go : (b : Bool) → IfThere IsEntryValue (cond b None (Some (entry.Override 0 irq l.gsi (flags_of l))))
    go true = tt
    go false = (omega arith, omega arith, h, flags_low l.low l.level)

range_low : (from len n : ℕ) → from + len ≤ n → AllByRecursion (λ k. k < n) (range_with_len from len)
range_low from zero n l = tt
range_low from (suc len) n l = (omega arith, range_low (from + 1) len n (omega arith))

locals_value : (n : ℕ) (es : List Processor) → n + length es ≤ 256 → AllByRecursion IsLowProcessor es → AllByRecursion IsEntryValue (map local_of (enumerate_from n es))
locals_value n [] l h = tt
locals_value n (e ∷ es) l h = ((omega arith, h.0, omega arith), locals_value (n + 1) es (omega arith) h.1)

ios_value : (n : ℕ) (ios : List IoApic) → n + length ios ≤ 32768 → AllByRecursion IsLowIoApic ios → AllByRecursion IsEntryValue (map io_of (enumerate_from n ios))
ios_value n [] l h = tt
ios_value n (io ∷ ios) l h = ((h.0.0, omega arith, h.0.1, omega arith), ios_value (n + 1) ios (omega arith) h.1)

filter_count : (ios : List IoApic) → length (filter is_enabled ios) ≤ length ios
filter_count [] = omega arith
filter_count (io ∷ ios) = go (is_enabled io) (filter_count ios)
  where
    go : (b : Bool) → length (filter is_enabled ios) ≤ length ios → length (cond b (io ∷ filter is_enabled ios) (filter is_enabled ios)) ≤ length (io ∷ ios)
    go true l = omega arith
    go false l = omega arith

uid_low : (processors : List Processor) (dest : ℕ) → length processors ≤ 255 → IfThere (λ uid. uid < 256) (uid_of processors dest)
uid_low processors dest few = go (dest == 255) (position (λ (x : Processor). x.apic == dest) processors) refl
  where
    go : (b : Bool) (o : Option ℕ) → position (λ (x : Processor). x.apic == dest) processors ≡ o → IfThere (λ uid. uid < 256) (cond b (Some 255) o)
    go true o e = omega arith
    go false None e = tt
    go false (Some i) e =
        let within : i < length processors = (position-Some (λ (x : Processor). x.apic == dest) processors i (record { apic = 0; version = 0; flags = 0; signature = 0; features = 0; reserved = [] }) e).0 in
        omega (arith, within, few)

nmi_value : (processors : List Processor) (e : IntEntry) → length processors ≤ 255 → IsLowInt e → IfThere IsEntryValue (nmi_of processors e)
nmi_value processors e few h = go (e.kind == 1) (uid_of processors e.dest) (uid_low processors e.dest few)
  where
    go : (b : Bool) (o : Option ℕ) → IfThere (λ uid. uid < 256) o → IfThere IsEntryValue (cond b (option_map (λ uid. entry.Nmi uid (e.flags % 16) e.pin) o) None)
    go false o k = tt
    go true None k = tt
    go true (Some uid) k = (k, omega arith, h.pin)

-- the fields of the table fit
madt_of-value : (p : Platform) (answers : List Answer) → IsLowPlatform p → IsSmallPlatform p → length p.processors ≤ 255 → AllByRecursion HasLowRow answers → IsMadtValue (madt_of p answers)
madt_of-value p answers h s few rows = record {
  revision = omega arith;
  oem = (refl, bytes-test (codes "MPTAB ") refl);
  table = (refl, bytes-test (codes "MPTABLE ") refl);
  oem_revision = omega arith;
  creator = (refl, bytes-test (codes "MPTB") refl);
  creator_revision = omega arith;
  local_address = h.local_address;
  flags = omega arith;
  entries =
      all-append IsEntryValue (apics_of p) (interrupts_of p answers)
      (all-append IsEntryValue (locals_of p.processors) (ios_of p.ios) (locals_value 0 p.processors (omega arith) h.processors)
      (ios_value 0 (filter is_enabled p.ios) (omega (arith, filter_count p.ios, s.ios)) (all-filter IsLowIoApic is_enabled p.ios h.ios)))
      (all-append IsEntryValue (overrides_of p answers) (nmis_of p.processors p.lints)
      (all-filter_map (λ k. k < 16) IsEntryValue (λ irq. override_for irq (source_of p answers irq)) (λ irq low. override_value irq (source_of p answers irq) low (source_low p irq answers rows)) (range_with_len 0 16) (range_low 0 16 16 (omega arith)))
      (all-filter_map IsLowInt IsEntryValue (nmi_of p.processors) (λ e low. nmi_value p.processors e few low) p.lints h.lints));
}

-- the bytes of a table are bytes
bytes-entry : (e : MadtEntry) → IsEntryValue e × IsLawfulEntry e → IsByteList (entry_bytes e)
bytes-entry (entry.Local u a f) (v, l) =
    let rest : List ℕ = to_le_bytes w32 f in
    bytes-append (0 ∷ 8 ∷ []) (u ∷ a ∷ rest) (bytes-test (0 ∷ 8 ∷ []) refl) (bytes-cons u (a ∷ rest) v.0 (bytes-cons a rest v.1 (bytes-4 f)))
bytes-entry (entry.Io i r a b) (v, l) =
    let rest : List ℕ = to_le_bytes w32 a ++ to_le_bytes w32 b in
    bytes-append (1 ∷ 12 ∷ []) (i ∷ r ∷ rest) (bytes-test (1 ∷ 12 ∷ []) refl) (bytes-cons i (r ∷ rest) v.0 (bytes-cons r rest v.1 (bytes-append (to_le_bytes w32 a) (to_le_bytes w32 b) (bytes-4 a) (bytes-4 b))))
bytes-entry (entry.Override b s g f) (v, l) =
    let rest : List ℕ = to_le_bytes w32 g ++ to_le_bytes w16 f in
    bytes-append (2 ∷ 10 ∷ []) (b ∷ s ∷ rest) (bytes-test (2 ∷ 10 ∷ []) refl) (bytes-cons b (s ∷ rest) v.0 (bytes-cons s rest v.1 (bytes-append (to_le_bytes w32 g) (to_le_bytes w16 f) (bytes-4 g) (bytes-2 f))))
bytes-entry (entry.Nmi u f m) (v, l) =
    let rest : List ℕ = to_le_bytes w16 f ++ m ∷ [] in
    bytes-append (4 ∷ 6 ∷ []) (u ∷ rest) (bytes-test (4 ∷ 6 ∷ []) refl) (bytes-cons u rest v.0 (bytes-append (to_le_bytes w16 f) (m ∷ []) (bytes-2 f) (bytes-cons m [] v.2 no_bytes)))
bytes-entry (entry.Other e) (v, l) = bytes-cons e.kind ((2 + length e.rest) ∷ e.rest) v.0 (bytes-cons (2 + length e.rest) e.rest (omega (arith, l.1)) v.1)

both : (es : List MadtEntry) → AllByRecursion IsEntryValue es → AllByRecursion IsLawfulEntry es → AllByRecursion (λ e. IsEntryValue e × IsLawfulEntry e) es
both [] v l = tt
both (e ∷ es) v l = ((v.0, l.0), both es v.1 l.1)

bytes-madt : (m : Madt) → IsMadtValue m → IsLawfulMadt m → IsByteList (madt_bytes m)
bytes-madt m v l =
    let entries : List ℕ = flat_map entry_bytes m.entries in
    let size : ℕ = 44 + length entries in
    let checksum : ℕ = checksum_of (madt_with m 0) in
    let front : IsByteList (front_bytes m size checksum) =
    bytes-append (codes "APIC") (to_le_bytes w32 size ++ (m.revision ∷ checksum ∷ []))
    (bytes-test (codes "APIC") refl)
    (bytes-append (to_le_bytes w32 size) (m.revision ∷ checksum ∷ []) (bytes-4 size) (bytes-cons m.revision (checksum ∷ []) v.revision (bytes-cons checksum [] (omega arith) no_bytes))) in
    let back : IsByteList (back_bytes m) =
    bytes-append (to_le_bytes w32 m.creator_revision) (to_le_bytes w32 m.local_address ++ to_le_bytes w32 m.flags) (bytes-4 m.creator_revision)
    (bytes-append (to_le_bytes w32 m.local_address) (to_le_bytes w32 m.flags) (bytes-4 m.local_address) (bytes-4 m.flags)) in
    bytes-append (header_bytes m size checksum) entries
    (bytes-append (front_bytes m size checksum) (m.oem ++ (m.table ++ (to_le_bytes w32 m.oem_revision ++ (m.creator ++ back_bytes m)))) front
    (bytes-append m.oem (m.table ++ (to_le_bytes w32 m.oem_revision ++ (m.creator ++ back_bytes m))) v.oem.1
    (bytes-append m.table (to_le_bytes w32 m.oem_revision ++ (m.creator ++ back_bytes m)) v.table.1
    (bytes-append (to_le_bytes w32 m.oem_revision) (m.creator ++ back_bytes m) (bytes-4 m.oem_revision) (bytes-append m.creator (back_bytes m) v.creator.1 back)))))
    (bytes-flat_map (λ e. IsEntryValue e × IsLawfulEntry e) entry_bytes bytes-entry m.entries (both m.entries v.entries l.lawful))

-- the MADT of well formed tables of at most 255 processors has bytes
pub madt_of-bytes : (t : Tables) (elcr : ℕ) → IsTablesValue t → IsWellFormed t → length (platform_of t).processors ≤ 255 → HasMadtBytes (madt_of (platform_of t) (routes_of (platform_of t) elcr))
madt_of-bytes t elcr v w few =
    let p : Platform = platform_of t in
    let m : Madt = madt_of p (routes_of p elcr) in
    let low : IsLowPlatform p = platform_of-low t v in
    let small : IsSmallPlatform p = platform_of-small t w in
    let value : IsMadtValue m = madt_of-value p (routes_of p elcr) low small few (routes_of-low p elcr low) in
    let lawful : IsLawfulMadt m = madt_of-small p (routes_of p elcr) small few in
    (madt_bytes m, bytes-madt m value lawful, IsMadt-written m value lawful)
