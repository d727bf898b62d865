-- The size of a block is bounded by that of its listing.
use Rattle.std.proofs.Common.{ℕ, ◌+◌, ◌*◌, ◌^◌, ◌<◌, ◌≤◌, List, [], ◌∷◌, ◌++◌, length, ap, arith, length-append}
use Rattle.std.specs.List.{flat_map, sum_by, AllByRecursion}
use Rattle.std.proofs.lemmas.List.Sums.{sum_by-cons}
use Rattle.mpt_spec.specs.declared.pointer.Pointer.{Pointer}
use Rattle.mpt_spec.specs.declared.entry.Base.{Base}
use Rattle.mpt_spec.specs.declared.entry.Base.TheVariants as base
use Rattle.mpt_spec.specs.declared.entry.Ext.{Ext}
use Rattle.mpt_spec.specs.declared.entry.Ext.TheVariants as ext
use Rattle.mpt_spec.specs.declared.tables.Body.{Body}
use Rattle.mpt_spec.specs.declared.tables.Body.TheVariants as body
use Rattle.mpt_spec.specs.declared.tables.Tables.{Tables}
use Rattle.mpt_spec.specs.Entries.{base_length}
use Rattle.mpt_spec.specs.Extended.{ext_length}
use Rattle.mpt_spec.specs.Canonical.{block_size, IsLawfulExt}
use Rattle.mpt_listing.specs.Listing.{pointer_line, header_line, base_line, ext_line, body_lines}
use Rattle.mpt_parse.specs.Listings.{title_line, end_line, HasRightBody, IsListingOf}
use Rattle.mpt_parse.proofs.EntryLines.{base_some, ext_some, lines_short}

base_low : (e : Base) → base_length e ≤ 20
base_low (base.Processor e) = omega arith
base_low (base.Bus e) = omega arith
base_low (base.IoApic e) = omega arith
base_low (base.IoInt e) = omega arith
base_low (base.LocalInt e) = omega arith

ext_low : (e : Ext) → IsLawfulExt e → ext_length e ≤ 255
ext_low (ext.Space e) h = omega arith
ext_low (ext.Hierarchy e) h = omega arith
ext_low (ext.Modifier e) h = omega arith
ext_low (ext.Opaque e) h = omega (arith, h.2)

sum_low : {E : Type 0} (f : E → ℕ) (V : E → Type 0) → ((e : E) → V e → f e ≤ 255) → (es : List E) → AllByRecursion V es → sum_by f es ≤ 255 * length es
sum_low {E} f V low [] v = omega arith
sum_low {E} f V low (e ∷ es) v = omega (arith, sum_by-cons f e es, low e v.0, sum_low f V low es v.1)

all_base : (es : List Base) → AllByRecursion (λ e. base_length e ≤ 20) es
all_base [] = tt
all_base (e ∷ es) = (base_low e, all_base es)

low_255 : (e : Base) → base_length e ≤ 20 → base_length e ≤ 255
low_255 e h = omega arith

block_low : (b : Body) (p : Pointer) → HasRightBody b p → block_size b ≤ 44 + 255 * length (body_lines b)
block_low (body.Default n) p h = omega arith
block_low (body.Listed t) p h =
    omega (
      arith,
      sum_low base_length (λ e. base_length e ≤ 20) low_255 t.base (all_base t.base),
      sum_low ext_length IsLawfulExt ext_low t.ext h.3,
      lines_short base_line base_some t.base,
      lines_short ext_line ext_some t.ext,
      length-append (header_line t ++ flat_map base_line t.base) (flat_map ext_line t.ext),
      length-append (header_line t) (flat_map base_line t.base),
    )

pub block_small : (t : Tables) (text : List ℕ) → IsListingOf t text → length text < 2 ^ 32 → block_size t.body < 2 ^ 64
block_small t text h s =
    omega (arith, block_low t.body t.pointer h.0.body, ap length h.1, length-append ((title_line ++ pointer_line t) ++ body_lines t.body) end_line, length-append (title_line ++ pointer_line t) (body_lines t.body))
