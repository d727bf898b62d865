-- The first member of which a function gives something, along a list.
use Rattle.std.proofs.Common.{◌≡◌, ℕ, ◌+◌, ◌<◌, List, [], ◌∷◌, ◌++◌, length, take, drop, get_or, refl, sym, ap, ◌∙◌}
use Rattle.std.specs.Prelude.{Option, Some, None}
use Rattle.std.specs.Option.{option_or}
use Rattle.std.proofs.lemmas.List.{take_more, take-append-drop}
use Rattle.mpf_madt.specs.Lines.{first_some}

module _ {A B : Type 0} (f : A → Option B) where
  or_assoc : (o p q : Option B) → option_or (option_or o p) q ≡ option_or o (option_or p q)
  or_assoc None p q = refl
  or_assoc (Some x) p q = refl

  pub first_some-append : (xs ys : List A) → first_some f (xs ++ ys) ≡ option_or (first_some f xs) (first_some f ys)
  first_some-append [] ys = refl
  first_some-append (x ∷ xs) ys = ap (option_or (f x)) (first_some-append xs ys) ∙ sym (or_assoc (f x) (first_some f xs) (first_some f ys))

  -- one more of which it gives nothing
  pub first_some-passes : (xs : List A) (i : ℕ) (d : A) → i < length xs → first_some f (take i xs) ≡ None → f (get_or xs i d) ≡ None → first_some f (take (i + 1) xs) ≡ None
  first_some-passes xs i d l before here =
      ap (first_some f) (take_more xs i d l) ∙ first_some-append (take i xs) (get_or xs i d ∷ [])
      ∙ ap (λ (o : Option B). option_or o (option_or (f (get_or xs i d)) None)) before ∙ ap (λ (o : Option B). option_or o None) here

  kept : (xs ys : List A) (y : B) → first_some f xs ≡ Some y → first_some f (xs ++ ys) ≡ Some y
  kept xs ys y h = first_some-append xs ys ∙ ap (λ (o : Option B). option_or o (first_some f ys)) h

  -- one of which it gives something, behind those of which it gives nothing
  pub first_some-finds : (xs : List A) (i : ℕ) (d : A) (y : B) → i < length xs → first_some f (take i xs) ≡ None → f (get_or xs i d) ≡ Some y → first_some f xs ≡ Some y
  first_some-finds xs i d y l before here =
      let up : first_some f (take (i + 1) xs) ≡ Some y =
      ap (first_some f) (take_more xs i d l) ∙ first_some-append (take i xs) (get_or xs i d ∷ [])
      ∙ ap (λ (o : Option B). option_or o (option_or (f (get_or xs i d)) None)) before ∙ ap (λ (o : Option B). option_or o None) here in
      ap (first_some f) (sym (take-append-drop (i + 1) xs)) ∙ kept (take (i + 1) xs) (drop (i + 1) xs) y up

-- what is nothing that it gives is nothing
pub none_of : {B : Type 0} (o : Option B) → ((x : B) → o ≡ Some x → ⊥) → o ≡ None
none_of None h = refl
none_of (Some x) h = absurd (h x refl)
