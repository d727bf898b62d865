-- What the laws say of tables of firmware: those of an image's tables are one list of bytes, and there is one; so are differences.
use Rattle.std.proofs.Common.{◌≡◌, ℕ, ◌≤◌, ◌<◌, List, length, refl, sym, ap, subst, ◌∙◌, inl, inr, ◌⊎◌, arith}
use Rattle.std.proofs.lemmas.Bool.{cases_lt}
use Rattle.mpt_spec.specs.declared.tables.Tables.{Tables}
use Rattle.mpt_spec.specs.Canonical.{IsWellFormed}
use Rattle.mpt_spec.specs.Values.{IsTablesValue}
use Rattle.mpt_route.specs.Platform.{platform_of}
use Rattle.mpt_route.specs.declared.platform.Platform.{Platform}
use Rattle.mpt_route.specs.Routes.{routes_of}
use Rattle.mpf_madt.specs.Translation.{madt_of}
use Rattle.mpf_madt.proofs.SpelledLemmas.{IsMadt-one_spelling}
use Rattle.mpf_pir.specs.declared.table.Pir.{Pir}
use Rattle.mpf_pir.specs.declared.making.MakeFault.{MakeFault}
use Rattle.mpf_pir.specs.declared.making.MakeFault.TheVariants as make
use Rattle.mpf_pir.specs.declared.comparing.Difference.{Difference}
use Rattle.mpf_pir.specs.Made.{pir_of, device_entries, wire_entries, IsMakeFault}
use Rattle.mpf_pir.proofs.OneLemmas.{IsPir-bytes_one}
use Rattle.mpf_pir.proofs.OrderLemmas.{differences-one}
use Rattle.mpf_answers.specs.FaultLines.{many_processors_line, make_fault_line}
use Rattle.mpf_answers.specs.PinLines.{pin_differences_text}
use Rattle.mpf_laws.proofs.MadtBytes.{madt_of-bytes}
use Rattle.mpf_laws.proofs.PirBytes.{pir_of-bytes}
use Rattle.mpf_laws.proofs.DifferencesThere.{differences-there}
use Rattle.mptab_walk.specs.Commands.{status_of, IsMadtMade, IsPirMade, IsPirCompared}

pub madt_made_one : (elcr : ℕ) (tables : Tables) (s u : ℕ) (t v : List ℕ) → IsMadtMade elcr tables s t → IsMadtMade elcr tables u v → (s ≡ u) × (t ≡ v)
madt_made_one elcr tables s u t v (inl a) (inl b) =
    let p = platform_of tables in
    (a.0 ∙ sym b.0, IsMadt-one_spelling (madt_of p (routes_of p elcr)) t v a.2 b.2 a.3 b.3)
madt_made_one elcr tables s u t v (inl a) (inr b) = let few = a.1 in let many = b.1 in absurd (omega (arith, few, many))
madt_made_one elcr tables s u t v (inr a) (inl b) = let few = b.1 in let many = a.1 in absurd (omega (arith, few, many))
madt_made_one elcr tables s u t v (inr a) (inr b) = (a.0 ∙ sym b.0, a.2 ∙ sym b.2)

pub madt_made_some : (elcr : ℕ) (tables : Tables) → IsTablesValue tables → IsWellFormed tables → (s : ℕ) × (t : List ℕ) × IsMadtMade elcr tables s t
madt_made_some elcr tables values well = by_count (cases_lt 255 (length (platform_of tables).processors))
  where
    by_count : (255 < length (platform_of tables).processors) ⊎ (length (platform_of tables).processors ≤ 255) → (s : ℕ) × (t : List ℕ) × IsMadtMade elcr tables s t
    by_count (inl many) = (13, many_processors_line (length (platform_of tables).processors), inr (refl, many, refl))
    by_count (inr few) = let bytes = madt_of-bytes tables elcr values well few in (0, bytes.0, inl (refl, few, bytes.1, bytes.2))

-- a platform has one reason at most for which it has no table
fault_one : (p : Platform) (f g : MakeFault) → IsMakeFault p f → IsMakeFault p g → f ≡ g
fault_one p (make.ManySlots n) (make.ManySlots m) a b = ap make.ManySlots (a.0 ∙ sym b.0)
fault_one p (make.ManySlots n) (make.ManyLinks m) a b = let slots = a.0 in let many = a.1 in let few = b.0 in absurd (omega (arith, slots, many, few))
fault_one p (make.ManyLinks n) (make.ManySlots m) a b = let slots = b.0 in let many = b.1 in let few = a.0 in absurd (omega (arith, slots, many, few))
fault_one p (make.ManyLinks n) (make.ManyLinks m) a b = ap make.ManyLinks (a.1 ∙ sym b.1)
fault_one p make.NoMemory g a b = absurd a
fault_one p (make.ManySlots n) make.NoMemory a b = absurd b
fault_one p (make.ManyLinks n) make.NoMemory a b = absurd b

pub pir_made_one : (tables : Tables) (s u : ℕ) (t v : List ℕ) → IsPirMade tables s t → IsPirMade tables u v → (s ≡ u) × (t ≡ v)
pir_made_one tables s u t v (inl a) (inl b) = (a.0 ∙ sym b.0, IsPir-bytes_one (pir_of (platform_of tables)) t v a.2 b.2 a.3 b.3)
pir_made_one tables s u t v (inl a) (inr b) = absurd (a.1 b.1 b.2)
pir_made_one tables s u t v (inr a) (inl b) = absurd (b.1 a.1 a.2)
pir_made_one tables s u t v (inr a) (inr b) = (a.0 ∙ sym b.0, a.3 ∙ ap make_fault_line (fault_one (platform_of tables) a.1 b.1 a.2 b.2) ∙ sym b.3)

pub pir_made_some : (tables : Tables) → IsTablesValue tables → (s : ℕ) × (t : List ℕ) × IsPirMade tables s t
pir_made_some tables values = by_slots (cases_lt 4093 (length (device_entries p))) (cases_lt 255 (length (wire_entries p)))
  where
    p : Platform
    p = platform_of tables

    none : length (device_entries p) ≤ 4093 → length (wire_entries p) ≤ 255 → (f : MakeFault) → ¬ IsMakeFault p f
    none slots links (make.ManySlots n) is = let e = is.0 in let many = is.1 in omega (arith, slots, e, many)
    none slots links (make.ManyLinks n) is = let e = is.1 in let many = is.2 in omega (arith, links, e, many)
    none slots links make.NoMemory is = is

    refused : (f : MakeFault) → IsMakeFault p f → (s : ℕ) × (t : List ℕ) × IsPirMade tables s t
    refused f is = (15, make_fault_line f, inr (refl, f, is, refl))

    by_slots : (4093 < length (device_entries p)) ⊎ (length (device_entries p) ≤ 4093) → (255 < length (wire_entries p)) ⊎ (length (wire_entries p) ≤ 255) → (s : ℕ) × (t : List ℕ) × IsPirMade tables s t
    by_slots (inl many) links = refused (make.ManySlots (length (device_entries p))) (refl, many)
    by_slots (inr few) (inl many) = refused (make.ManyLinks (length (wire_entries p))) (few, refl, many)
    by_slots (inr slots) (inr links) = let bytes = pir_of-bytes tables values (record { slots = slots; links = links }) in (0, bytes.0, inl (refl, none slots links, bytes.1, bytes.2))

pub pir_compared_one : (tables : Tables) (r : Pir) (s u : ℕ) (t v : List ℕ) → IsPirCompared tables r s t → IsPirCompared tables r u v → (s ≡ u) × (t ≡ v)
pir_compared_one tables r s u t v a b =
    let same : a.0 ≡ b.0 = differences-one (platform_of tables) r a.0 b.0 a.1 b.1 in
    (a.2 ∙ ap (λ (ds : List Difference). status_of ds) same ∙ sym b.2, a.3 ∙ ap pin_differences_text same ∙ sym b.3)

pub pir_compared_some : (tables : Tables) (r : Pir) → (s : ℕ) × (t : List ℕ) × IsPirCompared tables r s t
pir_compared_some tables r = let found = differences-there (platform_of tables) r in (status_of found.0, pin_differences_text found.0, (found.0, found.1, refl, refl))
