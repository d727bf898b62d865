-- What stands in an image is one table, and an image describes one at most.
use Rattle.std.proofs.Common.{◌≡◌, ℕ, ◌+◌, List, sym, ap, ◌∙◌, subst, arith}
use Rattle.mpt_base.specs.Bytes.{part}
use Rattle.mpt_spec.specs.declared.pointer.Pointer.{Pointer}
use Rattle.mpt_spec.specs.declared.tables.Table.{Table}
use Rattle.mpt_spec.specs.declared.tables.Body.{Body}
use Rattle.mpt_spec.specs.declared.tables.Body.TheVariants as body
use Rattle.mpt_spec.specs.declared.tables.Tables.{Tables}
use Rattle.mpt_spec.specs.Pointer.{IsFloatingPointer}
use Rattle.mpt_spec.specs.Search.{search_places, HasPointerAt}
use Rattle.mpt_spec.specs.Table.{base_end, ext_end, IsConfigurationTable, IsBodyOf, Describes}
use Rattle.mpt_spec.proofs.SearchLemmas.{IsFirst-unique}
use Rattle.mpt_spec.proofs.EntryLemmas.{AreBaseEntries-unique, AreExtEntries-unique}

same : {A : Type 0} {x y z : A} → x ≡ z → y ≡ z → x ≡ y
same p q = p ∙ sym q

-- bytes are one floating pointer at most
pub IsFloatingPointer-unique : (p q : Pointer) (bytes : List ℕ) → IsFloatingPointer p bytes → IsFloatingPointer q bytes → p ≡ q
IsFloatingPointer-unique p q bytes h g = λ i. record { address = same h.address g.address i; revision = same h.revision g.revision i; features = same h.features g.features i }

-- a place has one table at most
pub IsConfigurationTable-unique : (t u : Table) (image : List ℕ) (at : ℕ) → IsConfigurationTable t image at → IsConfigurationTable u image at → t ≡ u
IsConfigurationTable-unique t u image at h g =
    let bases : t.base ≡ u.base = AreBaseEntries-unique t.base u.base image (at + 44) (base_end image at) h.base g.base in
    let exts : t.ext ≡ u.ext = AreExtEntries-unique t.ext u.ext image (base_end image at) (ext_end image at) h.ext g.ext in
    λ i. record {
      revision = same h.header.revision g.header.revision i;
      oem = same h.header.oem g.header.oem i;
      product = same h.header.product g.header.product i;
      oem_table = same h.header.oem_table g.header.oem_table i;
      oem_size = same h.header.oem_size g.header.oem_size i;
      local_address = same h.header.local_address g.header.local_address i;
      reserved = same h.header.reserved g.header.reserved i;
      old = same h.header.old g.header.old i;
      base = bases i;
      ext = exts i;
    }

-- a floating pointer names one body at most
pub IsBodyOf-unique : (b c : Body) (p : Pointer) (image : List ℕ) → IsBodyOf b p image → IsBodyOf c p image → b ≡ c
IsBodyOf-unique (body.Default n) (body.Default m) p image h g = ap body.Default (sym h.0 ∙ g.0)
IsBodyOf-unique (body.Default n) (body.Listed u) p image h g = absurd (omega (arith, h.0, g.0))
IsBodyOf-unique (body.Listed t) (body.Default m) p image h g = absurd (omega (arith, h.0, g.0))
IsBodyOf-unique (body.Listed t) (body.Listed u) p image h g = ap body.Listed (IsConfigurationTable-unique t u image p.address h.2 g.2)

-- an image describes one set of tables at most
pub Describes-unique : (image : List ℕ) (t u : Tables) → Describes image t → Describes image u → t ≡ u
Describes-unique image t u h g =
    let places : t.at ≡ u.at = IsFirst-unique (HasPointerAt image) (search_places image) t.at u.at h.first g.first in
    let here : IsFloatingPointer u.pointer (part image t.at 16) = subst (λ x. IsFloatingPointer u.pointer (part image x 16)) (sym places) g.tables_there.pointer in
    let pointers : t.pointer ≡ u.pointer = IsFloatingPointer-unique t.pointer u.pointer (part image t.at 16) h.tables_there.pointer here in
    let named : IsBodyOf u.body t.pointer image = subst (λ x. IsBodyOf u.body x image) (sym pointers) g.tables_there.body in
    let bodies : t.body ≡ u.body = IsBodyOf-unique t.body u.body t.pointer image h.tables_there.body named in
    λ i. record { at = places i; pointer = pointers i; body = bodies i }
