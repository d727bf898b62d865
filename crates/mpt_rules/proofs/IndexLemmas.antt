-- Lists and parents that the rules look up: one more entry, and the parent that a first hierarchy entry gives.
use Rattle.std.proofs.Common.{◌≡◌, ℕ, ◌+◌, ◌<◌, ◌≤◌, Bool, true, false, cond, List, [], ◌∷◌, ◌++◌, length, get_or, take, sym, refl, ap, ◌∙◌, subst, arith, below_more, length-append}
use Rattle.std.specs.Prelude.{Option, Some, None, filter, slice_get, slice_index, slice_index_or}
use Rattle.std.proofs.lemmas.List.{length_push, get_or_append_left, get_or_push}
use Rattle.std.proofs.lemmas.List.Elements.{filter_more}
use Rattle.mpt_spec.specs.declared.entry.Base.{Base}
use Rattle.mpt_spec.specs.declared.entry.Ext.{Ext}
use Rattle.mpt_spec.specs.declared.entry.Ext.TheVariants as ext
use Rattle.mpt_rules.specs.Places.{IsFirstOf}
use Rattle.mpt_rules.specs.Entries.{is_bus, IsHierarchyOf}
use Rattle.mpt_rules.specs.declared.ext_index.Range.{Range}
use Rattle.mpt_rules.specs.Index.{AreBusCounts, AreRanges, IsRangeOf, IsParent, parent_by}

-- one more range
pub range_more : (es : List Ext) (i : ℕ) (e : Ext) (r : Option Range) (old new : List (Option Range)) → slice_get es i ≡ Some e → IsRangeOf e r → new ≡ old ++ r ∷ [] → AreRanges es i old → AreRanges es (i + 1) new
range_more es i e r old new at is now was = record {
  count = ap length now ∙ length_push old r ∙ ap (λ n. n + 1) was.count;
  each = λ k f l h. below_more (λ j. (f : Ext) → slice_get es j ≡ Some f → IsRangeOf f (slice_index_or new j None)) i earlier here k l f h;
}
  where
    earlier : (k : ℕ) → k < i → (f : Ext) → slice_get es k ≡ Some f → IsRangeOf f (slice_index_or new k None)
    earlier k l f h = let long : length old ≡ i = was.count in subst (IsRangeOf f) (sym (ap (λ xs. slice_index_or xs k None) now ∙ get_or_append_left old (r ∷ []) None k (omega arith))) (was.each k f l h)

    here : (f : Ext) → slice_get es i ≡ Some f → IsRangeOf f (slice_index_or new i None)
    here f h =
        let both : Some e ≡ Some f = sym at ∙ h in
        let same : e ≡ f = cc in
        subst (IsRangeOf f) (sym (ap (λ xs. slice_index_or xs i None) now ∙ get_or_push old r None i was.count)) (subst (λ x. IsRangeOf x r) same is)

-- one more count of buses
pub count_more : (es : List Base) (i n : ℕ) (old new : List ℕ) → n ≡ length (filter is_bus (take i es)) → new ≡ old ++ n ∷ [] → AreBusCounts es i old → AreBusCounts es (i + 1) new
count_more es i n old new is now was = record {
  count = ap length now ∙ length_push old n ∙ ap (λ m. m + 1) was.count;
  each = below_more (λ j. slice_index new j ≡ length (filter is_bus (take j es))) i earlier (ap (λ xs. slice_index xs i) now ∙ get_or_push old n 0 i was.count ∙ is);
}
  where
    earlier : (k : ℕ) → k < i → slice_index new k ≡ length (filter is_bus (take k es))
    earlier k l = let long : length old ≡ i = was.count in ap (λ xs. slice_index xs k) now ∙ get_or_append_left old (n ∷ []) 0 k (omega arith) ∙ was.each k l

-- one more entry among those that are counted
pub buses_more : (es : List Base) (i n m : ℕ) (d : Base) → i < length es → m ≡ cond (is_bus (get_or es i d)) (n + 1) n → n ≡ length (filter is_bus (take i es)) → m ≡ length (filter is_bus (take (i + 1) es))
buses_more es i n m d l step was =
    step ∙ grown (is_bus (get_or es i d)) ∙ sym (ap length (filter_more is_bus es i d l) ∙ length-append (filter is_bus (take i es)) (cond (is_bus (get_or es i d)) (get_or es i d ∷ []) []))
  where
    grown : (b : Bool) → cond b (n + 1) n ≡ length (filter is_bus (take i es)) + length (cond b (get_or es i d ∷ []) [])
    grown true = ap (λ k. k + 1) was
    grown false = omega (arith, was)

pub small_more : (b : Bool) (n m i : ℕ) → m ≡ cond b (n + 1) n → n ≤ i → m ≤ i + 1
small_more true n m i step l = omega arith
small_more false n m i step l = omega arith

-- the parent that the first hierarchy entry of a bus gives
pub parent_there : (es : List Ext) (bus k : ℕ) (e : Ext) (o : Option ℕ) → slice_get es k ≡ Some e → IsFirstOf (IsHierarchyOf bus) es k → o ≡ parent_by e → IsParent es bus o
parent_there es bus k e o at f is = subst (IsParent es bus) (sym is) (given e at (holds e at))
  where
    holds : (e : Ext) → slice_get es k ≡ Some e → IsHierarchyOf bus e
    holds e at = let both : Some f.holds.0 ≡ Some e = sym f.holds.1 ∙ at in let same : f.holds.0 ≡ e = cc in subst (IsHierarchyOf bus) same f.holds.2

    given : (e : Ext) → slice_get es k ≡ Some e → IsHierarchyOf bus e → IsParent es bus (parent_by e)
    given (ext.Hierarchy h) at p = (k, f, (ext.Hierarchy h, at, refl))
    given (ext.Space s) at p = absurd p
    given (ext.Modifier m) at p = absurd p
    given (ext.Opaque o) at p = absurd p
