-- Entries by kind, one more entry at a time.
use Rattle.std.proofs.Common.{◌≡◌, List, [], ◌∷◌, ◌++◌, sym, ap, ◌∙◌, append-nil}
use Rattle.std.specs.Prelude.{Option, Some, None, filter_map}
use Rattle.std.specs.List.{cons_option}
use Rattle.std.proofs.lemmas.List.Elements.{filter_map-append}

module _ {X Y : Type 0} (h : X → Option Y) where
  -- an entry of this kind
  pub gathers : (xs : List X) (x : X) (y : Y) (old new : List Y) → h x ≡ Some y → old ≡ filter_map h xs → new ≡ old ++ y ∷ [] → new ≡ filter_map h (xs ++ x ∷ [])
  gathers xs x y old new is was now = now ∙ ap (λ (ys : List Y). ys ++ y ∷ []) was ∙ ap (λ (o : Option Y). filter_map h xs ++ cons_option o []) (sym is) ∙ sym (filter_map-append h xs (x ∷ []))

  -- an entry of another kind
  pub leaves : (xs : List X) (x : X) (old : List Y) → h x ≡ None → old ≡ filter_map h xs → old ≡ filter_map h (xs ++ x ∷ [])
  leaves xs x old none was = was ∙ sym (append-nil (filter_map h xs)) ∙ ap (λ (o : Option Y). filter_map h xs ++ cons_option o []) (sym none) ∙ sym (filter_map-append h xs (x ∷ []))
