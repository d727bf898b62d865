-- Raised tables: twice is once, they have the same places, and their fields fit.
use Rattle.std.proofs.Common.{◌≡◌, ℕ, List, length, replicate, sym, refl, ◌∙◌, subst, inl, inr, arith}
use Rattle.std.specs.Prelude.{◌↔◌}
use Rattle.mpt_base.specs.Bytes.{IsByteList}
use Rattle.mpt_spec.specs.declared.pointer.Pointer.{Pointer}
use Rattle.mpt_spec.specs.declared.tables.Table.{Table}
use Rattle.mpt_spec.specs.declared.tables.Body.{Body}
use Rattle.mpt_spec.specs.declared.tables.Body.TheVariants as body
use Rattle.mpt_spec.specs.declared.tables.Tables.{Tables}
use Rattle.mpt_spec.specs.Revision.{by_revision}
use Rattle.mpt_spec.specs.Canonical.{raised_body, raised_of, HasFieldsOfRevision, IsWellFormedBody, IsWellFormed, HasBlockPlace, FitsInImage, block_size}
use Rattle.mpt_spec.specs.Values.{IsBodyValue, IsTablesValue}
use Rattle.mpt_spec.proofs.RevisionLemmas.{by_revision-old, by_revision-new, by_revision-both}
use Rattle.mpt_spec.proofs.ByteLemmas.{zeros}

raised_body-twice : (b : Body) → raised_body (raised_body b) ≡ raised_body b
raised_body-twice (body.Default n) = refl
raised_body-twice (body.Listed t) = refl

-- raised tables are as raised as they can be
pub raised_of-twice : (tables : Tables) → raised_of (raised_of tables) ≡ raised_of tables
raised_of-twice tables = λ i. record tables { pointer = record tables.pointer { revision = 4 }; body = raised_body-twice tables.body i }

-- well formed tables are well formed when they are raised
old-raised : (t : Table) → HasFieldsOfRevision t → by_revision t.revision (replicate 4 0) t.old ≡ replicate 4 0
old-raised t (inl h) = by_revision-new t.revision (replicate 4 0) t.old (λ one. omega (arith, h.0, one)) ∙ h.1
old-raised t (inr h) = by_revision-old t.revision (replicate 4 0) t.old h.0

body-raised : (b : Body) (p : Pointer) → IsWellFormedBody b p → IsWellFormedBody (raised_body b) (record p { revision = 4 })
body-raised (body.Default n) p h = h
body-raised (body.Listed t) p h = (h.0, h.1, record { revision = inl (refl, old-raised t h.2.revision); lawful = h.2.lawful; base_fits = h.2.base_fits; ext_fits = h.2.ext_fits })

pub IsWellFormed-raised_of : (tables : Tables) → IsWellFormed tables → IsWellFormed (raised_of tables)
IsWellFormed-raised_of tables w = record { revision = inr refl; body = body-raised tables.body tables.pointer w.body; paragraph = w.paragraph }

place-raised : (b : Body) (address at : ℕ) → HasBlockPlace (raised_body b) address at ≡ HasBlockPlace b address at
place-raised (body.Default n) address at = refl
place-raised (body.Listed t) address at = refl

-- well formed tables have a place in an image exactly where the raised ones have
pub FitsInImage-raised_of : (tables : Tables) → IsWellFormed tables → FitsInImage (raised_of tables) ↔ FitsInImage tables
FitsInImage-raised_of tables w = (
  λ h. record { well_formed = w; low = h.low; high = h.high; block = subst (λ (a : Type 0). a) (place-raised tables.body tables.pointer.address tables.at) h.block },
  λ h. record { well_formed = IsWellFormed-raised_of tables w; low = h.low; high = h.high; block = subst (λ (a : Type 0). a) (sym (place-raised tables.body tables.pointer.address tables.at)) h.block },
)

-- raised tables have as many bytes
pub block_size-raised : (b : Body) → block_size (raised_body b) ≡ block_size b
block_size-raised (body.Default n) = refl
block_size-raised (body.Listed t) = refl

raised_body-value : (b : Body) → IsBodyValue b → IsBodyValue (raised_body b)
raised_body-value (body.Default n) v = v
raised_body-value (body.Listed t) v = record {
  revision = omega arith;
  oem = v.oem;
  product = v.product;
  oem_table = v.oem_table;
  oem_size = v.oem_size;
  local_address = v.local_address;
  reserved = v.reserved;
  old = by_revision-both (λ (xs : List ℕ). (length xs ≡ 4) × IsByteList xs) t.revision (replicate 4 0) t.old (zeros 4) v.old;
  base = v.base;
  ext = v.ext;
}

-- the fields of raised tables fit where those of the tables do
pub IsTablesValue-raised_of : (tables : Tables) → IsTablesValue tables → IsTablesValue (raised_of tables)
IsTablesValue-raised_of tables v = record {
  at = v.at;
  pointer = record { address = v.pointer.address; revision = omega arith; features = v.pointer.features };
  body = raised_body-value tables.body v.body;
}
