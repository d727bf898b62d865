-- The canonical form is canonical, canonical tables are their own canonical form, and both have the same places.
use Rattle.std.proofs.Common.{◌≡◌, ◌≢◌, ◌⊎◌, replicate, suc, zero, ℕ, ◌+◌, ◌*◌, ◌/◌, ◌%◌, ◌<◌, ◌≤◌, Bool, true, false, cond, eqb, List, [], ◌∷◌, ◌++◌, length, map, inl, inr, sym, refl, ap, ◌∙◌, subst, arith}
use Rattle.std.specs.Prelude.{◌==◌, ◌↔◌, filter, sum_by, slice_index}
use Rattle.std.specs.List.{AllByRecursion, flat_map}
use Rattle.std.proofs.lemmas.Bool.{eqb-true, cases_eq}
use Rattle.std.proofs.lemmas.Bool.Decides.{nat_tests}
use Rattle.std.proofs.lemmas.List.Sums.{sum_by-cons, sum_by-append}
use Rattle.mpt_spec.specs.declared.pointer.Pointer.{Pointer}
use Rattle.mpt_spec.specs.declared.entry.Base.{Base}
use Rattle.mpt_spec.specs.declared.entry.Base.TheVariants as base
use Rattle.mpt_spec.specs.declared.entry.Ext.{Ext}
use Rattle.mpt_spec.specs.declared.entry.Ext.TheVariants as ext
use Rattle.mpt_spec.specs.declared.tables.Table.{Table}
use Rattle.mpt_spec.specs.declared.tables.Body.{Body}
use Rattle.mpt_spec.specs.declared.tables.Body.TheVariants as body
use Rattle.mpt_spec.specs.declared.tables.Tables.{Tables}
use Rattle.mpt_spec.specs.Entries.{base_length}
use Rattle.mpt_spec.specs.Extended.{ext_length}
use Rattle.mpt_spec.specs.Canonical.{base_type, in_type_order, canonical_pointer, canonical_base, canonical_ext, canonical_table, canonical_body, canonical_of, HasClearBits, HasClearExtBits, HasClearHeader, IsInTypeOrder, IsCanonicalBody, IsCanonical, IsLawfulExt, HasFieldsOfRevision, IsWellFormedTable, IsWellFormedBody, HasPlaceFor, HasBlockPlace, FitsInImage, base_size, ext_size}
use Rattle.mpt_base.specs.Bytes.{IsByteList}
use Rattle.mpt_spec.specs.Revision.{by_revision}
use Rattle.mpt_spec.proofs.RevisionLemmas.{by_revision-old, by_revision-new, by_revision-both}
use Rattle.mpt_spec.proofs.ByteLemmas.{zeros}
use Rattle.mpt_spec.specs.Values.{IsBaseValue, IsExtValue, IsBodyValue, IsTablesValue}

-- what holds of each member
module _ {X : Type 0} where
  all-append : (P : X → Type 0) (xs ys : List X) → AllByRecursion P xs → AllByRecursion P ys → AllByRecursion P (xs ++ ys)
  all-append P [] ys h g = g
  all-append P (x ∷ xs) ys h g = (h.0, all-append P xs ys h.1 g)

  all-weaker : (P Q : X → Type 0) → ((x : X) → P x → Q x) → (xs : List X) → AllByRecursion P xs → AllByRecursion Q xs
  all-weaker P Q f [] h = tt
  all-weaker P Q f (x ∷ xs) h = (f x h.0, all-weaker P Q f xs h.1)

  all-filter : (P : X → Type 0) (test : X → Bool) (xs : List X) → AllByRecursion P xs → AllByRecursion P (filter test xs)
  all-filter P test [] h = tt
  all-filter P test (x ∷ xs) h = kept (test x) (all-filter P test xs h.1)
    where
      kept : (b : Bool) → AllByRecursion P (filter test xs) → AllByRecursion P (cond b (x ∷ filter test xs) (filter test xs))
      kept true rest = (h.0, rest)
      kept false rest = rest

  all-map : (P : X → Type 0) (f : X → X) → ((x : X) → P (f x)) → (xs : List X) → AllByRecursion P (map f xs)
  all-map P f h [] = tt
  all-map P f h (x ∷ xs) = (h x, all-map P f h xs)

  map-fixed : (P : X → Type 0) (f : X → X) → ((x : X) → P x → f x ≡ x) → (xs : List X) → AllByRecursion P xs → map f xs ≡ xs
  map-fixed P f h [] v = refl
  map-fixed P f h (x ∷ xs) v =
      let head : f x ≡ x = h x v.0 in
      let tail : map f xs ≡ xs = map-fixed P f h xs v.1 in
      cc

  sum_by-map : (size : X → ℕ) (f : X → X) → ((x : X) → size (f x) ≡ size x) → (xs : List X) → sum_by size (map f xs) ≡ sum_by size xs
  sum_by-map size f h [] = refl
  sum_by-map size f h (x ∷ xs) = sum_by-cons size (f x) (map f xs) ∙ (omega (arith, h x, sum_by-map size f h xs)) ∙ sym (sum_by-cons size x xs)

-- the entries of one type
abbrev of_type : List Base → ℕ → List Base
of_type es n = filter (λ e. base_type e == n) es

of_type-types : (es : List Base) (n : ℕ) → AllByRecursion (λ e. base_type e ≡ n) (of_type es n)
of_type-types [] n = tt
of_type-types (e ∷ es) n = kept (eqb (base_type e) n) refl (of_type-types es n)
  where
    kept : (b : Bool) → eqb (base_type e) n ≡ b → AllByRecursion (λ e. base_type e ≡ n) (of_type es n) → AllByRecursion (λ e. base_type e ≡ n) (cond b (e ∷ of_type es n) (of_type es n))
    kept true h rest = (eqb-true (base_type e) n h, rest)
    kept false h rest = rest

-- entries in the order of their types
in_order-cons : (x : Base) (zs : List Base) → AllByRecursion (λ e. base_type x ≤ base_type e) zs → IsInTypeOrder zs → IsInTypeOrder (x ∷ zs)
in_order-cons x [] h o = tt
in_order-cons x (z ∷ zs) h o = (h.0, o)

in_order-append : (n : ℕ) (xs ys : List Base) → AllByRecursion (λ e. base_type e ≡ n) xs → AllByRecursion (λ e. n ≤ base_type e) ys → IsInTypeOrder ys → IsInTypeOrder (xs ++ ys)
in_order-append n [] ys h g o = o
in_order-append n (x ∷ xs) ys h g o =
    let same : base_type x ≡ n = h.0 in
    let front : AllByRecursion (λ e. base_type x ≤ base_type e) xs = all-weaker (λ e. base_type e ≡ n) (λ e. base_type x ≤ base_type e) (λ e t. omega arith) xs h.1 in
    let back : AllByRecursion (λ e. base_type x ≤ base_type e) ys = all-weaker (λ e. n ≤ base_type e) (λ e. base_type x ≤ base_type e) (λ e t. omega arith) ys g in
    in_order-cons x (xs ++ ys) (all-append (λ e. base_type x ≤ base_type e) xs ys front back) (in_order-append n xs ys h.1 g o)

-- types in ascending order, from a number on
abbrev IsAscendingFrom : ℕ → List ℕ → Type 0
IsAscendingFrom m [] = Unit {0}
IsAscendingFrom m (n ∷ ns) = (m ≤ n) × IsAscendingFrom n ns

record AreInOrderFrom (m : ℕ) (es : List Base) : Type 0 where
  above : AllByRecursion (λ e. m ≤ base_type e) es
  order : IsInTypeOrder es

by_types : (es : List Base) (ns : List ℕ) (m : ℕ) → IsAscendingFrom m ns → AreInOrderFrom m (flat_map (of_type es) ns)
by_types es [] m h = record { above = tt; order = tt }
by_types es (n ∷ ns) m h =
    let low : m ≤ n = h.0 in
    let rest : AreInOrderFrom n (flat_map (of_type es) ns) = by_types es ns n h.1 in
    let front : AllByRecursion (λ e. m ≤ base_type e) (of_type es n) = all-weaker (λ e. base_type e ≡ n) (λ e. m ≤ base_type e) (λ e t. omega arith) (of_type es n) (of_type-types es n) in
    let back : AllByRecursion (λ e. m ≤ base_type e) (flat_map (of_type es) ns) = all-weaker (λ e. n ≤ base_type e) (λ e. m ≤ base_type e) (λ e t. omega arith) (flat_map (of_type es) ns) rest.above in
    record {
      above = all-append (λ e. m ≤ base_type e) (of_type es n) (flat_map (of_type es) ns) front back;
      order = in_order-append n (of_type es n) (flat_map (of_type es) ns) (of_type-types es n) rest.above rest.order;
    }

pub IsInTypeOrder-in_type_order : (es : List Base) → IsInTypeOrder (in_type_order es)
IsInTypeOrder-in_type_order es = (by_types es (0 ∷ 1 ∷ 2 ∷ 3 ∷ 4 ∷ []) 0 (omega arith)).order

all-in_type_order : (P : Base → Type 0) (es : List Base) → AllByRecursion P es → (ns : List ℕ) → AllByRecursion P (flat_map (of_type es) ns)
all-in_type_order P es h [] = tt
all-in_type_order P es h (n ∷ ns) = all-append P (of_type es n) (flat_map (of_type es) ns) (all-filter P (λ e. base_type e == n) es h) (all-in_type_order P es h ns)

canonical_base-clear : (e : Base) → HasClearBits (canonical_base e)
canonical_base-clear (base.Processor e) = (omega arith, refl)
canonical_base-clear (base.Bus e) = tt
canonical_base-clear (base.IoApic e) = omega arith
canonical_base-clear (base.IoInt e) = omega arith
canonical_base-clear (base.LocalInt e) = omega arith

canonical_ext-clear : (e : Ext) → HasClearExtBits (canonical_ext e)
canonical_ext-clear (ext.Space e) = tt
canonical_ext-clear (ext.Hierarchy e) = (omega arith, refl)
canonical_ext-clear (ext.Modifier e) = omega arith
canonical_ext-clear (ext.Opaque e) = tt

canonical_header-clear : (t : Table) → HasClearHeader (canonical_table t)
canonical_header-clear t = (λ one. by_revision-old t.revision (replicate 4 0) t.old one, λ new. by_revision-new t.revision t.reserved 0 new)

canonical_body-canonical : (b : Body) → IsCanonicalBody (canonical_body b)
canonical_body-canonical (body.Default n) = tt
canonical_body-canonical (body.Listed t) = (
  canonical_header-clear t,
  all-in_type_order HasClearBits (map canonical_base t.base) (all-map HasClearBits canonical_base canonical_base-clear t.base) (0 ∷ 1 ∷ 2 ∷ 3 ∷ 4 ∷ []),
  IsInTypeOrder-in_type_order (map canonical_base t.base),
  all-map HasClearExtBits canonical_ext canonical_ext-clear t.ext,
)

-- the canonical form is canonical
pub IsCanonical-canonical_of : (tables : Tables) → IsCanonical (canonical_of tables)
IsCanonical-canonical_of tables = record {
  pointer = (omega arith, refl, refl, refl);
  body = canonical_body-canonical tables.body;
}

-- entries in order are in the order of their types already
in_order-above : (e : Base) (es : List Base) → IsInTypeOrder (e ∷ es) → AllByRecursion (λ f. base_type e ≤ base_type f) es
in_order-above e [] h = tt
in_order-above e (f ∷ fs) h =
    let low : base_type e ≤ base_type f = h.0 in
    (low, all-weaker (λ g. base_type f ≤ base_type g) (λ g. base_type e ≤ base_type g) (λ g t. omega arith) fs (in_order-above f fs h.1))

in_order-tail : (e : Base) (es : List Base) → IsInTypeOrder (e ∷ es) → IsInTypeOrder es
in_order-tail e [] h = tt
in_order-tail e (f ∷ fs) h = h.1

of_type-none : (es : List Base) (n m : ℕ) → n < m → AllByRecursion (λ e. m ≤ base_type e) es → of_type es n ≡ []
of_type-none [] n m l h = refl
of_type-none (e ∷ es) n m l h =
    let high : m ≤ base_type e = h.0 in
    let other : eqb (base_type e) n ≡ false = grind (arith, nat_tests) in
    ap (λ b. cond b (e ∷ of_type es n) (of_type es n)) other ∙ of_type-none es n m l h.1

pub in_type_order-in_order : (es : List Base) → IsInTypeOrder es → in_type_order es ≡ es
in_type_order-in_order [] h = refl
in_type_order-in_order (base.Processor e ∷ es) h = ap (λ xs. base.Processor e ∷ xs) (in_type_order-in_order es (in_order-tail (base.Processor e) es h))
in_type_order-in_order (base.Bus e ∷ es) h =
    let above : AllByRecursion (λ f. 1 ≤ base_type f) es = in_order-above (base.Bus e) es h in
    let none0 : of_type es 0 ≡ [] = of_type-none es 0 1 (omega arith) above in
    rw none0 (ap (λ xs. base.Bus e ∷ xs) (rw none0 at (in_type_order-in_order es (in_order-tail (base.Bus e) es h))))
in_type_order-in_order (base.IoApic e ∷ es) h =
    let above : AllByRecursion (λ f. 2 ≤ base_type f) es = in_order-above (base.IoApic e) es h in
    let none0 : of_type es 0 ≡ [] = of_type-none es 0 2 (omega arith) above in
    let none1 : of_type es 1 ≡ [] = of_type-none es 1 2 (omega arith) above in
    rw (none0, none1) (ap (λ xs. base.IoApic e ∷ xs) (rw (none0, none1) at (in_type_order-in_order es (in_order-tail (base.IoApic e) es h))))
in_type_order-in_order (base.IoInt e ∷ es) h =
    let above : AllByRecursion (λ f. 3 ≤ base_type f) es = in_order-above (base.IoInt e) es h in
    let none0 : of_type es 0 ≡ [] = of_type-none es 0 3 (omega arith) above in
    let none1 : of_type es 1 ≡ [] = of_type-none es 1 3 (omega arith) above in
    let none2 : of_type es 2 ≡ [] = of_type-none es 2 3 (omega arith) above in
    rw (none0, none1, none2) (ap (λ xs. base.IoInt e ∷ xs) (rw (none0, none1, none2) at (in_type_order-in_order es (in_order-tail (base.IoInt e) es h))))
in_type_order-in_order (base.LocalInt e ∷ es) h =
    let above : AllByRecursion (λ f. 4 ≤ base_type f) es = in_order-above (base.LocalInt e) es h in
    let none0 : of_type es 0 ≡ [] = of_type-none es 0 4 (omega arith) above in
    let none1 : of_type es 1 ≡ [] = of_type-none es 1 4 (omega arith) above in
    let none2 : of_type es 2 ≡ [] = of_type-none es 2 4 (omega arith) above in
    let none3 : of_type es 3 ≡ [] = of_type-none es 3 4 (omega arith) above in
    rw (none0, none1, none2, none3) (ap (λ xs. base.LocalInt e ∷ xs) (rw (none0, none1, none2, none3) at (in_type_order-in_order es (in_order-tail (base.LocalInt e) es h))))

-- what has no reserved bit stays as it is
canonical_base-fixed : (e : Base) → HasClearBits e → canonical_base e ≡ e
canonical_base-fixed (base.Processor e) h =
    let flags : e.flags % 4 ≡ e.flags = omega (arith, h.0) in
    λ i. base.Processor (record e { flags = flags i; reserved = (sym h.1) i })
canonical_base-fixed (base.Bus e) h = refl
canonical_base-fixed (base.IoApic e) h =
    let flags : e.flags % 2 ≡ e.flags = omega (arith, h) in
    λ i. base.IoApic (record e { flags = flags i })
canonical_base-fixed (base.IoInt e) h =
    let flags : e.flags % 16 ≡ e.flags = omega (arith, h) in
    λ i. base.IoInt (record e { flags = flags i })
canonical_base-fixed (base.LocalInt e) h =
    let flags : e.flags % 16 ≡ e.flags = omega (arith, h) in
    λ i. base.LocalInt (record e { flags = flags i })

canonical_ext-fixed : (e : Ext) → HasClearExtBits e → canonical_ext e ≡ e
canonical_ext-fixed (ext.Space e) h = refl
canonical_ext-fixed (ext.Hierarchy e) h =
    let info : e.info % 2 ≡ e.info = omega (arith, h.0) in
    λ i. ext.Hierarchy (record e { info = info i; reserved = (sym h.1) i })
canonical_ext-fixed (ext.Modifier e) h =
    let flags : e.flags % 2 ≡ e.flags = omega (arith, h) in
    λ i. ext.Modifier (record e { flags = flags i })
canonical_ext-fixed (ext.Opaque e) h = refl

features-fixed : (fs : List ℕ) → length fs ≡ 5 → slice_index fs 1 % 64 ≡ 0 → slice_index fs 2 ≡ 0 → slice_index fs 3 ≡ 0 → slice_index fs 4 ≡ 0 → slice_index fs 0 ∷ 64 * (slice_index fs 1 / 64) ∷ 0 ∷ 0 ∷ 0 ∷ [] ≡ fs
features-fixed (a ∷ b ∷ c ∷ d ∷ e ∷ []) size two three four five =
    let second : 64 * (b / 64) ≡ b = omega (arith, two) in
    λ i. a ∷ second i ∷ (sym three) i ∷ (sym four) i ∷ (sym five) i ∷ []
features-fixed _ size two three four five = absurd (omega (arith, size))

-- at revision 1 bytes 40 to 43 are zero already, and at any other byte 43
reserved-fixed : (t : Table) → HasClearHeader t → by_revision t.revision t.reserved 0 ≡ t.reserved
reserved-fixed t h = by_case (cases_eq t.revision 1)
  where
    by_case : (t.revision ≡ 1) ⊎ (t.revision ≢ 1) → by_revision t.revision t.reserved 0 ≡ t.reserved
    by_case (inl one) = by_revision-old t.revision t.reserved 0 one
    by_case (inr new) = by_revision-new t.revision t.reserved 0 new ∙ sym (h.1 new)

old-fixed : (t : Table) → HasClearHeader t → by_revision t.revision (replicate 4 0) t.old ≡ t.old
old-fixed t h = by_case (cases_eq t.revision 1)
  where
    by_case : (t.revision ≡ 1) ⊎ (t.revision ≢ 1) → by_revision t.revision (replicate 4 0) t.old ≡ t.old
    by_case (inl one) = by_revision-old t.revision (replicate 4 0) t.old one ∙ sym (h.0 one)
    by_case (inr new) = by_revision-new t.revision (replicate 4 0) t.old new

canonical_body-fixed : (b : Body) → IsCanonicalBody b → canonical_body b ≡ b
canonical_body-fixed (body.Default n) h = refl
canonical_body-fixed (body.Listed t) h =
    let entries : in_type_order (map canonical_base t.base) ≡ t.base = ap in_type_order (map-fixed HasClearBits canonical_base canonical_base-fixed t.base h.1) ∙ in_type_order-in_order t.base h.2 in
    let exts : map canonical_ext t.ext ≡ t.ext = map-fixed HasClearExtBits canonical_ext canonical_ext-fixed t.ext h.3 in
    λ i. body.Listed (record t { reserved = reserved-fixed t h.0 i; old = old-fixed t h.0 i; base = entries i; ext = exts i })

-- canonical tables are their own canonical form
pub canonical_of-canonical : (tables : Tables) → IsTablesValue tables → IsCanonical tables → canonical_of tables ≡ tables
canonical_of-canonical tables v c =
    let features : slice_index tables.pointer.features 0 ∷ 64 * (slice_index tables.pointer.features 1 / 64) ∷ 0 ∷ 0 ∷ 0 ∷ [] ≡ tables.pointer.features =
    features-fixed tables.pointer.features v.pointer.features.0 c.pointer.0 c.pointer.1 c.pointer.2 c.pointer.3 in
    let same : canonical_body tables.body ≡ tables.body = canonical_body-fixed tables.body c.body in
    λ i. record tables { pointer = record tables.pointer { features = features i }; body = same i }

-- the canonical form is its own canonical form
pub canonical_of-twice : (tables : Tables) → canonical_of (canonical_of tables) ≡ canonical_of tables
canonical_of-twice tables =
    let c : IsCanonical (canonical_of tables) = IsCanonical-canonical_of tables in
    let features = features-fixed (canonical_pointer tables.pointer).features refl c.pointer.0 refl refl refl in
    let same : canonical_body (canonical_body tables.body) ≡ canonical_body tables.body = canonical_body-fixed (canonical_body tables.body) c.body in
    λ i. record tables { pointer = record tables.pointer { features = features i }; body = same i }

-- the canonical form has as many bytes
sum_by-in_type_order : (size : Base → ℕ) (es : List Base) → sum_by size (in_type_order es) ≡ sum_by size (of_type es 0) + (sum_by size (of_type es 1) + (sum_by size (of_type es 2) + (sum_by size (of_type es 3) + sum_by size (of_type es 4))))
sum_by-in_type_order size es =
    let last : List Base = of_type es 4 ++ [] in
    omega (
      arith,
      sum_by-append size (of_type es 0) (of_type es 1 ++ (of_type es 2 ++ (of_type es 3 ++ last))),
      sum_by-append size (of_type es 1) (of_type es 2 ++ (of_type es 3 ++ last)),
      sum_by-append size (of_type es 2) (of_type es 3 ++ last),
      sum_by-append size (of_type es 3) last,
      sum_by-append size (of_type es 4) [],
    )

sum_by-types : (size : Base → ℕ) (es : List Base) → sum_by size (of_type es 0) + (sum_by size (of_type es 1) + (sum_by size (of_type es 2) + (sum_by size (of_type es 3) + sum_by size (of_type es 4)))) ≡ sum_by size es
sum_by-types size [] = refl
sum_by-types size (base.Processor e ∷ es) = omega (arith, sum_by-types size es, sum_by-cons size (base.Processor e) es, sum_by-cons size (base.Processor e) (of_type es 0))
sum_by-types size (base.Bus e ∷ es) = omega (arith, sum_by-types size es, sum_by-cons size (base.Bus e) es, sum_by-cons size (base.Bus e) (of_type es 1))
sum_by-types size (base.IoApic e ∷ es) = omega (arith, sum_by-types size es, sum_by-cons size (base.IoApic e) es, sum_by-cons size (base.IoApic e) (of_type es 2))
sum_by-types size (base.IoInt e ∷ es) = omega (arith, sum_by-types size es, sum_by-cons size (base.IoInt e) es, sum_by-cons size (base.IoInt e) (of_type es 3))
sum_by-types size (base.LocalInt e ∷ es) = omega (arith, sum_by-types size es, sum_by-cons size (base.LocalInt e) es, sum_by-cons size (base.LocalInt e) (of_type es 4))

canonical_base-length : (e : Base) → base_length (canonical_base e) ≡ base_length e
canonical_base-length (base.Processor e) = refl
canonical_base-length (base.Bus e) = refl
canonical_base-length (base.IoApic e) = refl
canonical_base-length (base.IoInt e) = refl
canonical_base-length (base.LocalInt e) = refl

canonical_ext-length : (e : Ext) → ext_length (canonical_ext e) ≡ ext_length e
canonical_ext-length (ext.Space e) = refl
canonical_ext-length (ext.Hierarchy e) = refl
canonical_ext-length (ext.Modifier e) = refl
canonical_ext-length (ext.Opaque e) = refl

base_size-canonical : (t : Table) → base_size (canonical_table t) ≡ base_size t
base_size-canonical t =
    ap (λ n. 44 + n) (sum_by-in_type_order base_length (map canonical_base t.base) ∙ sum_by-types base_length (map canonical_base t.base) ∙ sum_by-map base_length canonical_base canonical_base-length t.base)

ext_size-canonical : (t : Table) → ext_size (canonical_table t) ≡ ext_size t
ext_size-canonical t = sum_by-map ext_length canonical_ext canonical_ext-length t.ext

canonical_ext-lawful : (e : Ext) → IsLawfulExt (canonical_ext e) ≡ IsLawfulExt e
canonical_ext-lawful (ext.Space e) = refl
canonical_ext-lawful (ext.Hierarchy e) = refl
canonical_ext-lawful (ext.Modifier e) = refl
canonical_ext-lawful (ext.Opaque e) = refl

lawful-canonical : (es : List Ext) → AllByRecursion IsLawfulExt (map canonical_ext es) ≡ AllByRecursion IsLawfulExt es
lawful-canonical [] = refl
lawful-canonical (e ∷ es) =
    let head : IsLawfulExt (canonical_ext e) ≡ IsLawfulExt e = canonical_ext-lawful e in
    let tail : AllByRecursion IsLawfulExt (map canonical_ext es) ≡ AllByRecursion IsLawfulExt es = lawful-canonical es in
    λ i. head i × tail i

-- a table has the fields of its revision exactly where its canonical form has
none-map : (es : List Ext) → map canonical_ext es ≡ [] → es ≡ []
none-map [] h = refl
none-map (e ∷ es) h = absurd (omega (arith, ap length h))

fields-canonical : (t : Table) → HasFieldsOfRevision (canonical_table t) → HasFieldsOfRevision t
fields-canonical t (inl h) = inl (h.0, sym (by_revision-new t.revision (replicate 4 0) t.old (λ one. omega (arith, h.0, one))) ∙ h.1)
fields-canonical t (inr h) = inr (h.0, sym (by_revision-old t.revision t.reserved 0 h.0) ∙ h.1, none-map t.ext h.2)

fields-of_canonical : (t : Table) → HasFieldsOfRevision t → HasFieldsOfRevision (canonical_table t)
fields-of_canonical t (inl h) = inl (h.0, by_revision-new t.revision (replicate 4 0) t.old (λ one. omega (arith, h.0, one)) ∙ h.1)
fields-of_canonical t (inr h) = inr (h.0, by_revision-old t.revision t.reserved 0 h.0 ∙ h.1, ap (λ (es : List Ext). map canonical_ext es) h.2)

table-canonical : (t : Table) → IsWellFormedTable (canonical_table t) ↔ IsWellFormedTable t
table-canonical t = (
  λ h. record {
    revision = fields-canonical t h.revision;
    lawful = subst (λ (a : Type 0). a) (lawful-canonical t.ext) h.lawful;
    base_fits = subst (λ n. n ≤ 65535) (base_size-canonical t) h.base_fits;
    ext_fits = subst (λ n. n ≤ 65535) (ext_size-canonical t) h.ext_fits;
  },
  λ h. record {
    revision = fields-of_canonical t h.revision;
    lawful = subst (λ (a : Type 0). a) (sym (lawful-canonical t.ext)) h.lawful;
    base_fits = subst (λ n. n ≤ 65535) (sym (base_size-canonical t)) h.base_fits;
    ext_fits = subst (λ n. n ≤ 65535) (sym (ext_size-canonical t)) h.ext_fits;
  },
)

body-canonical : (b : Body) (p : Pointer) → IsWellFormedBody (canonical_body b) (canonical_pointer p) ↔ IsWellFormedBody b p
body-canonical (body.Default n) p = (λ h. h, λ h. h)
body-canonical (body.Listed t) p = (λ h. (h.0, h.1, (table-canonical t).0 h.2), λ h. (h.0, h.1, (table-canonical t).1 h.2))

place-canonical : (b : Body) (address at : ℕ) → HasBlockPlace (canonical_body b) address at ≡ HasBlockPlace b address at
place-canonical (body.Default n) address at = refl
place-canonical (body.Listed t) address at = ap (λ n. HasPlaceFor n address at) (cc (base_size-canonical t, ext_size-canonical t))

-- tables have a place in an image exactly where their canonical form has
pub FitsInImage-canonical_of : (tables : Tables) → FitsInImage (canonical_of tables) ↔ FitsInImage tables
FitsInImage-canonical_of tables = (
  λ h. record {
    well_formed = record { revision = h.well_formed.revision; body = (body-canonical tables.body tables.pointer).0 h.well_formed.body; paragraph = h.well_formed.paragraph };
    low = h.low;
    high = h.high;
    block = subst (λ (a : Type 0). a) (place-canonical tables.body tables.pointer.address tables.at) h.block;
  },
  λ h. record {
    well_formed = record { revision = h.well_formed.revision; body = (body-canonical tables.body tables.pointer).1 h.well_formed.body; paragraph = h.well_formed.paragraph };
    low = h.low;
    high = h.high;
    block = subst (λ (a : Type 0). a) (sym (place-canonical tables.body tables.pointer.address tables.at)) h.block;
  },
)

-- the fields of the canonical form fit where those of the tables do
canonical_base-value : (e : Base) → IsBaseValue e → IsBaseValue (canonical_base e)
canonical_base-value (base.Processor e) v = record { apic = v.apic; version = v.version; flags = omega arith; signature = v.signature; features = v.features; reserved = zeros 8 }
canonical_base-value (base.Bus e) v = v
canonical_base-value (base.IoApic e) v = record { id = v.id; version = v.version; flags = omega arith; address = v.address }
canonical_base-value (base.IoInt e) v = record { kind = v.kind; flags = omega arith; bus = v.bus; irq = v.irq; dest = v.dest; pin = v.pin }
canonical_base-value (base.LocalInt e) v = record { kind = v.kind; flags = omega arith; bus = v.bus; irq = v.irq; dest = v.dest; pin = v.pin }

canonical_ext-value : (e : Ext) → IsExtValue e → IsExtValue (canonical_ext e)
canonical_ext-value (ext.Space e) v = v
canonical_ext-value (ext.Hierarchy e) v = record { bus = v.bus; info = omega arith; parent = v.parent; reserved = zeros 3 }
canonical_ext-value (ext.Modifier e) v = record { bus = v.bus; flags = omega arith; ranges = v.ranges }
canonical_ext-value (ext.Opaque e) v = v

all-mapped : {X : Type 0} (P : X → Type 0) (f : X → X) → ((x : X) → P x → P (f x)) → (xs : List X) → AllByRecursion P xs → AllByRecursion P (map f xs)
all-mapped P f h [] v = tt
all-mapped P f h (x ∷ xs) v = (h x v.0, all-mapped P f h xs v.1)

canonical_body-value : (b : Body) → IsBodyValue b → IsBodyValue (canonical_body b)
canonical_body-value (body.Default n) v = v
canonical_body-value (body.Listed t) v = record {
  revision = v.revision;
  oem = v.oem;
  product = v.product;
  oem_table = v.oem_table;
  oem_size = v.oem_size;
  local_address = v.local_address;
  reserved = by_revision-both (λ (n : ℕ). n < 256) t.revision t.reserved 0 v.reserved (omega arith);
  old = by_revision-both (λ (xs : List ℕ). (length xs ≡ 4) × IsByteList xs) t.revision (replicate 4 0) t.old (zeros 4) v.old;
  base = all-in_type_order IsBaseValue (map canonical_base t.base) (all-mapped IsBaseValue canonical_base canonical_base-value t.base v.base) (0 ∷ 1 ∷ 2 ∷ 3 ∷ 4 ∷ []);
  ext = all-mapped IsExtValue canonical_ext canonical_ext-value t.ext v.ext;
}

features-value : (fs : List ℕ) → IsByteList fs → (length (slice_index fs 0 ∷ 64 * (slice_index fs 1 / 64) ∷ 0 ∷ 0 ∷ 0 ∷ []) ≡ 5) × IsByteList (slice_index fs 0 ∷ 64 * (slice_index fs 1 / 64) ∷ 0 ∷ 0 ∷ 0 ∷ [])
features-value fs b = (refl, λ i. byte i)
  where
    byte : (i : ℕ) → slice_index (slice_index fs 0 ∷ 64 * (slice_index fs 1 / 64) ∷ 0 ∷ 0 ∷ 0 ∷ []) i < 256
    byte zero = b 0
    byte (suc zero) = omega (arith, b 1)
    byte (suc (suc i)) = (zeros 3).1 i

pub IsTablesValue-canonical_of : (tables : Tables) → IsTablesValue tables → IsTablesValue (canonical_of tables)
IsTablesValue-canonical_of tables v = record {
  at = v.at;
  pointer = record { address = v.pointer.address; revision = v.pointer.revision; features = features-value tables.pointer.features v.pointer.features.1 };
  body = canonical_body-value tables.body v.body;
}
