-- The platform of well formed tables is small: a base table has at most 65,535 bytes, and an entry at least 8.
use Rattle.std.proofs.Common.{◌≡◌, ◌*◌, ◌<◌, ◌≤◌, Bool, true, false, cond, List, [], ◌∷◌, length, map, subst, sym, arith}
use Rattle.std.specs.Prelude.{Option, Some, None, sum_by, filter, filter_map}
use Rattle.std.specs.List.{cons_option, range_with_len}
use Rattle.std.proofs.lemmas.List.Sums.{sum_by-cons}
use Rattle.mpt_spec.specs.declared.entry.Base.{Base}
use Rattle.mpt_spec.specs.declared.entry.Base.TheVariants as base
use Rattle.mpt_spec.specs.declared.entry.Bus.{Bus}
use Rattle.mpt_spec.specs.declared.pointer.Pointer.{Pointer}
use Rattle.mpt_spec.specs.declared.tables.Body.{Body}
use Rattle.mpt_spec.specs.declared.tables.Body.TheVariants as body
use Rattle.mpt_spec.specs.declared.tables.Tables.{Tables}
use Rattle.mpt_spec.specs.Entries.{base_length}
use Rattle.mpt_spec.specs.Canonical.{IsWellFormed, IsWellFormedBody}
use Rattle.mpt_route.specs.declared.platform.Platform.{Platform}
use Rattle.mpt_route.specs.Defaults.{default_row, default_buses, int_row, is_connected}
use Rattle.mpt_route.specs.Platform.{processor_in, bus_in, io_in, int_in, lint_in, platform_of, platform_of_body, IsSmallPlatform}

eight_bytes : (e : Base) → 8 ≤ base_length e
eight_bytes (base.Processor e) = omega arith
eight_bytes (base.Bus e) = omega arith
eight_bytes (base.IoApic e) = omega arith
eight_bytes (base.IoInt e) = omega arith
eight_bytes (base.LocalInt e) = omega arith

entry_count : (es : List Base) → 8 * length es ≤ sum_by base_length es
entry_count [] = omega arith
entry_count (e ∷ es) = omega (arith, sum_by-cons base_length e es, eight_bytes e, entry_count es)

-- no more are chosen than there are
chosen_count : {X Y : Type 0} (h : X → Option Y) (xs : List X) → length (filter_map h xs) ≤ length xs
chosen_count h [] = omega arith
chosen_count {X} {Y} h (x ∷ xs) = go (h x) (chosen_count h xs)
  where
    go : (o : Option Y) → length (filter_map h xs) ≤ length xs → length (cons_option o (filter_map h xs)) ≤ length (x ∷ xs)
    go None l = omega arith
    go (Some y) l = omega arith

row_count : {X Y : Type 0} (row : X → Y) (test : X → Bool) (xs : List X) → length (map row (filter test xs)) ≤ length xs
row_count row test [] = omega arith
row_count {X} row test (x ∷ xs) = go (test x) (row_count row test xs)
  where
    go : (t : Bool) → length (map row (filter test xs)) ≤ length xs → length (map row (cond t (x ∷ filter test xs) (filter test xs))) ≤ length (x ∷ xs)
    go true l = omega arith
    go false l = omega arith

two_at_most : (b : Bool) (x : Bus) (y : Bus) → length (x ∷ cond b (y ∷ []) []) ≤ 2
two_at_most true x y = omega arith
two_at_most false x y = omega arith

body_small : (b : Body) (p : Pointer) (imcr : Bool) → IsWellFormedBody b p → IsSmallPlatform (platform_of_body imcr b)
body_small (body.Listed t) p imcr h =
    let fits : 8 * length t.base ≤ 65491 = omega (arith, h.2.base_fits, entry_count t.base) in
    record {
      processors = omega (arith, fits, chosen_count processor_in t.base);
      buses = omega (arith, fits, chosen_count bus_in t.base);
      ios = omega (arith, fits, chosen_count io_in t.base);
      ints = omega (arith, fits, chosen_count int_in t.base);
      lints = omega (arith, fits, chosen_count lint_in t.base);
    }
body_small (body.Default n) p imcr h = record {
  processors = omega arith;
  buses = buses_small (default_row n).pci;
  ios = omega arith;
  ints = let l : length (map int_row (filter (is_connected n) (range_with_len 0 16))) ≤ 16 = row_count int_row (is_connected n) (range_with_len 0 16) in omega arith;
  lints = omega arith;
}
  where
    buses_small : (b : Bool) → length (default_buses (record (default_row n) { pci = b })) < 32768
    buses_small true = omega arith
    buses_small false = omega arith

pub platform_of-small : (t : Tables) → IsWellFormed t → IsSmallPlatform (platform_of t)
platform_of-small t w = body_small t.body t.pointer _ w.body

pub IsSmallPlatform-of : (t : Tables) (p : Platform) → IsWellFormed t → p ≡ platform_of t → IsSmallPlatform p
IsSmallPlatform-of t p w e = subst (λ (x : Platform). IsSmallPlatform x) (sym e) (platform_of-small t w)
