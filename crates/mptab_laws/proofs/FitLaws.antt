-- Whether tables have a place in an image of 1 MiB is decided.
use Rattle.std.proofs.Common.{◌≡◌, ℕ, ◌+◌, ◌%◌, ◌≤◌, ◌⊎◌, List, [], ◌∷◌, length, replicate, refl, inl, inr}
use Rattle.std.specs.List.{AllByRecursion}
use Rattle.mpt_spec.specs.declared.pointer.Pointer.{Pointer}
use Rattle.mpt_spec.specs.declared.entry.Ext.{Ext}
use Rattle.mpt_spec.specs.declared.entry.Ext.TheVariants as ext
use Rattle.mpt_spec.specs.declared.tables.Table.{Table}
use Rattle.mpt_spec.specs.declared.tables.Body.{Body}
use Rattle.mpt_spec.specs.declared.tables.Body.TheVariants as body
use Rattle.mpt_spec.specs.declared.tables.Tables.{Tables}
use Rattle.mpt_spec.specs.Table.{default_number}
use Rattle.mpt_spec.specs.Revision.{IsKnownRevision}
use Rattle.mpt_spec.specs.Canonical.{base_size, ext_size, IsLawfulExt, HasFieldsOfRevision, IsWellFormedTable, IsWellFormedBody, IsWellFormed, HasPlaceFor, HasBlockPlace, FitsInImage}
use Rattle.mpt_laws.proofs.EntryJudgment.{Decided, decided-eq, decided-list}
use Rattle.mpt_laws.proofs.Decisions.{both, all_three, either, not, at_most}

lawful : (e : Ext) → Decided (IsLawfulExt e)
lawful (ext.Opaque e) = all_three (at_most 131 e.kind) (at_most e.kind 255) (at_most (length e.rest) 253)
lawful (ext.Space e) = inl tt
lawful (ext.Hierarchy e) = inl tt
lawful (ext.Modifier e) = inl tt

all_lawful : (es : List Ext) → Decided (AllByRecursion IsLawfulExt es)
all_lawful [] = inl tt
all_lawful (e ∷ es) = both (lawful e) (all_lawful es)

no_entries : (es : List Ext) → Decided (es ≡ [])
no_entries [] = inl refl
no_entries (e ∷ es) = inr (λ h. absurd (cc (h)))

fields_of_revision : (t : Table) → Decided (HasFieldsOfRevision t)
fields_of_revision t = either (both (decided-eq t.revision 4) (decided-list t.old (replicate 4 0))) (all_three (decided-eq t.revision 1) (decided-eq t.reserved 0) (no_entries t.ext))

well_formed_table : (t : Table) → Decided (IsWellFormedTable t)
well_formed_table t = by_parts (fields_of_revision t) (all_lawful t.ext) (at_most (base_size t) 65535) (at_most (ext_size t) 65535)
  where
    by_parts : Decided (HasFieldsOfRevision t) → Decided (AllByRecursion IsLawfulExt t.ext) → Decided (base_size t ≤ 65535) → Decided (ext_size t ≤ 65535) → Decided (IsWellFormedTable t)
    by_parts (inl a) (inl b) (inl c) (inl d) = inl (record { revision = a; lawful = b; base_fits = c; ext_fits = d })
    by_parts (inr n) x y z = inr (λ w. n w.revision)
    by_parts (inl a) (inr n) y z = inr (λ w. n w.lawful)
    by_parts (inl a) (inl b) (inr n) z = inr (λ w. n w.base_fits)
    by_parts (inl a) (inl b) (inl c) (inr n) = inr (λ w. n w.ext_fits)

well_formed_body : (b : Body) (p : Pointer) → Decided (IsWellFormedBody b p)
well_formed_body (body.Default n) p = all_three (decided-eq (default_number p) n) (at_most 1 n) (at_most n 7)
well_formed_body (body.Listed t) p = all_three (decided-eq (default_number p) 0) (not (decided-eq p.address 0)) (well_formed_table t)

well_formed : (t : Tables) → Decided (IsWellFormed t)
well_formed t = by_parts (either (decided-eq t.pointer.revision 1) (decided-eq t.pointer.revision 4)) (well_formed_body t.body t.pointer) (decided-eq (t.at % 16) 0)
  where
    by_parts : Decided (IsKnownRevision t.pointer.revision) → Decided (IsWellFormedBody t.body t.pointer) → Decided (t.at % 16 ≡ 0) → Decided (IsWellFormed t)
    by_parts (inl a) (inl b) (inl c) = inl (record { revision = a; body = b; paragraph = c })
    by_parts (inr n) x y = inr (λ w. n w.revision)
    by_parts (inl a) (inr n) y = inr (λ w. n w.body)
    by_parts (inl a) (inl b) (inr n) = inr (λ w. n w.paragraph)

place : (size address at : ℕ) → Decided (HasPlaceFor size address at)
place size address at = by_parts (at_most 0x500 address) (at_most (address + size) 0x100000) (either (at_most (address + size) at) (at_most (at + 16) address))
  where
    by_parts : Decided (0x500 ≤ address) → Decided (address + size ≤ 0x100000) → Decided ((address + size ≤ at) ⊎ (at + 16 ≤ address)) → Decided (HasPlaceFor size address at)
    by_parts (inl a) (inl b) (inl c) = inl (record { low = a; high = b; apart = c })
    by_parts (inr n) x y = inr (λ w. n w.low)
    by_parts (inl a) (inr n) y = inr (λ w. n w.high)
    by_parts (inl a) (inl b) (inr n) = inr (λ w. n w.apart)

block_place : (b : Body) (address at : ℕ) → Decided (HasBlockPlace b address at)
block_place (body.Default n) address at = inl tt
block_place (body.Listed t) address at = place (base_size t + ext_size t) address at

-- tables fit or don't
pub fits_decided : (t : Tables) → Decided (FitsInImage t)
fits_decided t = by_parts (well_formed t) (at_most 0x500 t.at) (at_most t.at 0xFFFF0) (block_place t.body t.pointer.address t.at)
  where
    by_parts : Decided (IsWellFormed t) → Decided (0x500 ≤ t.at) → Decided (t.at ≤ 0xFFFF0) → Decided (HasBlockPlace t.body t.pointer.address t.at) → Decided (FitsInImage t)
    by_parts (inl a) (inl b) (inl c) (inl d) = inl (record { well_formed = a; low = b; high = c; block = d })
    by_parts (inr n) x y z = inr (λ w. n w.well_formed)
    by_parts (inl a) (inr n) y z = inr (λ w. n w.low)
    by_parts (inl a) (inl b) (inr n) z = inr (λ w. n w.high)
    by_parts (inl a) (inl b) (inl c) (inr n) = inr (λ w. n w.block)
