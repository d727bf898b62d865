-- Ranges that meet, and walks from parent to parent.
use Rattle.std.proofs.Common.{◌≡◌, ℕ, zero, suc, ◌<◌, List, [], ◌∷◌, length, get_or, sym, refl, subst, ◌∙◌, arith, inl, inr}
use Rattle.std.specs.Prelude.{Option, Some, None, slice_get, ◌↔◌, ◌⊎◌}
use Rattle.std.proofs.lemmas.Option.{get_or_from_slice_get, slice_get_read}
use Rattle.mpt_spec.specs.declared.entry.Ext.{Ext}
use Rattle.mpt_spec.specs.declared.entry.Ext.TheVariants as ext
use Rattle.mpt_rules.specs.declared.ext_index.Range.{Range}
use Rattle.mpt_rules.specs.Entries.{MeetsRange, GivesParent, IsHierarchyOf}
use Rattle.mpt_rules.specs.Rules.{IsParentOf, ReachesWithin}
use Rattle.mpt_rules.specs.Index.{IsRangeOf, HasRangeMet}
use Rattle.mpt_rules.proofs.PlaceLemmas.{first_one}

pub at_place : {E : Type 0} (xs : List E) (k : ℕ) → k < length xs → (x : E) × (slice_get xs k ≡ Some x)
at_place [] k l = absurd (omega arith)
at_place (x ∷ xs) zero l = (x, refl)
at_place (x ∷ xs) (suc k) l = at_place xs k (omega arith)

-- two ranges meet as their entries do
pub meets_if : (e f : Ext) (a : Range) (o : Option Range) → IsRangeOf e (Some a) → IsRangeOf f o → HasRangeMet a o → MeetsRange e f
meets_if (ext.Space x) (ext.Space y) a (Some b) g h m = (g.0, (h.0, sym h.1 ∙ sym m.0 ∙ g.1, omega (arith, g.3, h.2, m.1), omega (arith, g.2, h.3, m.2)))
meets_if (ext.Space x) (ext.Hierarchy y) a (Some b) g h m = absurd (cc)
meets_if (ext.Space x) (ext.Modifier y) a (Some b) g h m = absurd (cc)
meets_if (ext.Space x) (ext.Opaque y) a (Some b) g h m = absurd (cc)
meets_if (ext.Hierarchy x) f a (Some b) g h m = absurd (cc)
meets_if (ext.Modifier x) f a (Some b) g h m = absurd (cc)
meets_if (ext.Opaque x) f a (Some b) g h m = absurd (cc)
meets_if (ext.Space x) (ext.Space y) a None g h m = elim m [ ]
meets_if (ext.Space x) (ext.Hierarchy y) a None g h m = elim m [ ]
meets_if (ext.Space x) (ext.Modifier y) a None g h m = elim m [ ]
meets_if (ext.Space x) (ext.Opaque y) a None g h m = elim m [ ]
meets_if (ext.Hierarchy x) f a None g h m = elim m [ ]
meets_if (ext.Modifier x) f a None g h m = elim m [ ]
meets_if (ext.Opaque x) f a None g h m = elim m [ ]

pub meets_only : (e f : Ext) (a : Range) (o : Option Range) → IsRangeOf e (Some a) → IsRangeOf f o → MeetsRange e f → HasRangeMet a o
meets_only (ext.Space x) (ext.Space y) a (Some b) g h m = (g.1 ∙ sym m.1.1 ∙ sym h.1, omega (arith, g.3, h.2, m.1.2), omega (arith, g.2, h.3, m.1.3))
meets_only (ext.Space x) (ext.Space y) a None g h m = absurd (h m.1.0)
meets_only (ext.Space x) (ext.Hierarchy y) a o g h m = absurd m.1
meets_only (ext.Space x) (ext.Modifier y) a o g h m = absurd m.1
meets_only (ext.Space x) (ext.Opaque y) a o g h m = absurd m.1
meets_only (ext.Hierarchy x) f a o g h m = elim m [ ]
meets_only (ext.Modifier x) f a o g h m = elim m [ ]
meets_only (ext.Opaque x) f a o g h m = elim m [ ]

parent_is : (x y : ℕ) (e : Ext) → GivesParent x e → GivesParent y e → x ≡ y
parent_is x y (ext.Hierarchy e) p q = sym p ∙ q
parent_is x y (ext.Space e) p q = elim p [ ]
parent_is x y (ext.Modifier e) p q = elim p [ ]
parent_is x y (ext.Opaque e) p q = elim p [ ]

-- a bus has one parent
pub parent_one : (es : List Ext) (b x y : ℕ) → IsParentOf es b x → IsParentOf es b y → x ≡ y
parent_one es b x y (k, f, p) (m, g, q) =
    let place : m ≡ k = first_one (IsHierarchyOf b) es m k g f in
    let there : slice_get es k ≡ Some q.0 = subst (λ (n : ℕ). slice_get es n ≡ Some q.0) place q.1 in
    let s : Some q.0 ≡ Some p.0 = sym there ∙ p.1 in
    let e : q.0 ≡ p.0 = cc in
    parent_is x y p.0 p.2 (subst (GivesParent y) e q.2)

pub arrived : (n : ℕ) (es : List Ext) (b to : ℕ) → b ≡ to → ReachesWithin n es b to
unfolding ReachesWithin
arrived zero es b to e = e
arrived (suc n) es b to e = inl e

pub stuck : (n : ℕ) (es : List Ext) (b to : ℕ) → (b ≡ to → ⊥) → ((x : ℕ) → IsParentOf es b x → ⊥) → ReachesWithin n es b to → ⊥
unfolding ReachesWithin
stuck zero es b to d p h = d h
stuck (suc n) es b to d p (inl e) = d e
stuck (suc n) es b to d p (inr h) = p h.0 h.1

pub up : (m n : ℕ) (es : List Ext) (b next to : ℕ) → m ≡ suc n → (b ≡ to → ⊥) → IsParentOf es b next → ReachesWithin n es next to ↔ ReachesWithin m es b to
unfolding ReachesWithin
up m n es b next to s d p =
    (λ h. subst (λ (k : ℕ). ReachesWithin k es b to) (sym s) (inr (next, p, h)), λ h. down (subst (λ (k : ℕ). ReachesWithin k es b to) s h))
  where
    down : (b ≡ to) ⊎ ((x : ℕ) × IsParentOf es b x × ReachesWithin n es x to) → ReachesWithin n es next to
    down (inl e) = absurd (d e)
    down (inr h) = subst (λ (x : ℕ). ReachesWithin n es x to) (parent_one es b h.0 next h.1 p) h.2

pub ends : (n : ℕ) (es : List Ext) (b to : ℕ) → n ≡ 0 → ReachesWithin n es b to → b ≡ to
unfolding ReachesWithin
ends n es b to e h = subst (λ (k : ℕ). ReachesWithin k es b to) e h

pub read_none : {X : Type 0} (xs : List (Option X)) (i : ℕ) (x : Option X) → i < length xs → x ≡ get_or xs i x → get_or xs i None ≡ x
read_none xs i x l e = get_or_from_slice_get xs i x None (slice_get_read xs (length xs) i x refl l e)

pub no_range : (e f : Ext) → IsRangeOf e None → MeetsRange e f → ⊥
no_range (ext.Space x) f g m = g m.0
no_range (ext.Hierarchy x) f g m = elim m [ ]
no_range (ext.Modifier x) f g m = elim m [ ]
no_range (ext.Opaque x) f g m = elim m [ ]
