-- Two lists of the same differences in order are one.
use Rattle.std.proofs.Common.{◌≡◌, zero, suc, ◌<◌, ◌⊎◌, List, [], ◌∷◌, sym, refl, ap, subst, ◌∙◌, arith, inl, inr}
use Rattle.std.specs.List.{Contains}
use Rattle.std.proofs.lemmas.List.Elements.{Contains-append_cases, Contains-append_left, Contains-append_right}
use Rattle.mpf_pir.specs.declared.pins.Pin.{Pin}
use Rattle.mpf_pir.specs.declared.comparing.Difference.{Difference}
use Rattle.mpf_pir.specs.Differences.{Precedes, pin_in, IsAscending}
use Rattle.mpf_pir.specs.Laws.{HasOneListOfDifferences}

-- one pin precedes another, and none precedes itself
follows : (f g h : Pin) → Precedes f g → Precedes g h → Precedes f h
follows f g h (inl a) (inl b) = inl (omega arith)
follows f g h (inl a) (inr b) = inl (omega (arith, b.0))
follows f g h (inr a) (inl b) = inl (omega (arith, a.0))
follows f g h (inr a) (inr b) = inr (a.0 ∙ b.0, rest a.1 b.1)
  where
    rest : (f.device < g.device) ⊎ ((f.device ≡ g.device) × (f.pin < g.pin)) → (g.device < h.device) ⊎ ((g.device ≡ h.device) × (g.pin < h.pin)) → (f.device < h.device) ⊎ ((f.device ≡ h.device) × (f.pin < h.pin))
    rest (inl x) (inl y) = inl (omega arith)
    rest (inl x) (inr y) = inl (omega (arith, y.0))
    rest (inr x) (inl y) = inl (omega (arith, x.0))
    rest (inr x) (inr y) = inr (x.0 ∙ y.0, omega (arith, x.1, y.1))

itself : (f : Pin) → Precedes f f → ⊥
itself f (inl a) = omega arith
itself f (inr (a, inl b)) = omega arith
itself f (inr (a, inr b)) = omega (arith, b.1)

-- a member is the first or one of the others
member : (f : Difference) (fs : List Difference) (x : Difference) → Contains (f ∷ fs) x → (f ≡ x) ⊎ Contains fs x
member f fs x c = cases (Contains-append_cases (f ∷ []) fs x c)
  where
    alone : Contains (f ∷ []) x → f ≡ x
    alone (zero, l, e) = e
    alone (suc k, l, e) = absurd (omega arith)

    cases : Contains (f ∷ []) x ⊎ Contains fs x → (f ≡ x) ⊎ Contains fs x
    cases (inl h) = inl (alone h)
    cases (inr h) = inr h

first_member : (f : Difference) (fs : List Difference) → Contains (f ∷ fs) f
first_member f fs = Contains-append_left (f ∷ []) fs f (zero, omega arith, refl)

later_member : (f : Difference) (fs : List Difference) (x : Difference) → Contains fs x → Contains (f ∷ fs) x
later_member f fs x c = Contains-append_right (f ∷ []) fs x c

no_member : (x : Difference) → Contains [] x → ⊥
no_member x (k, l, e) = omega arith

rest : (f : Difference) (fs : List Difference) → IsAscending (f ∷ fs) → IsAscending fs
rest f [] a = tt
rest f (g ∷ fs) a = a.1

-- the first precedes the others
first_precedes : (f : Difference) (fs : List Difference) (x : Difference) → IsAscending (f ∷ fs) → Contains fs x → Precedes (pin_in f) (pin_in x)
first_precedes f [] x a c = absurd (no_member x c)
first_precedes f (g ∷ fs) x a c = go (member g fs x c) (first_precedes g fs x a.1)
  where
    go : (g ≡ x) ⊎ Contains fs x → (Contains fs x → Precedes (pin_in g) (pin_in x)) → Precedes (pin_in f) (pin_in x)
    go (inl e) later = subst (λ y. Precedes (pin_in f) (pin_in y)) e a.0
    go (inr h) later = follows (pin_in f) (pin_in g) (pin_in x) a.0 (later h)

-- ascending lists with the same members
same_lists : (fs gs : List Difference) → IsAscending fs → IsAscending gs → ((x : Difference) → Contains fs x → Contains gs x) → ((x : Difference) → Contains gs x → Contains fs x) → fs ≡ gs
same_lists [] [] a b to from = refl
same_lists [] (g ∷ gs) a b to from = absurd (no_member g (from g (first_member g gs)))
same_lists (f ∷ fs) [] a b to from = absurd (no_member f (to f (first_member f fs)))
same_lists (f ∷ fs) (g ∷ gs) a b to from =
    let e : f ≡ g = heads (member g gs f (to f (first_member f fs))) (member f fs g (from g (first_member g gs))) in
    ap (λ (x : Difference). x ∷ fs) e
    ∙ ap (λ (xs : List Difference). g ∷ xs) (same_lists fs gs (rest f fs a) (rest g gs b)
    (λ x c. only g gs x (to x (later_member f fs x c)) (λ q. itself (pin_in f) (subst (λ y. Precedes (pin_in f) (pin_in y)) (sym (e ∙ q)) (first_precedes f fs x a c))))
    (λ x c. only f fs x (from x (later_member g gs x c)) (λ q. itself (pin_in g) (subst (λ y. Precedes (pin_in g) (pin_in y)) (sym (sym e ∙ q)) (first_precedes g gs x b c)))))
  where
    heads : (g ≡ f) ⊎ Contains gs f → (f ≡ g) ⊎ Contains fs g → f ≡ g
    heads (inl e) q = sym e
    heads (inr c) (inl e) = e
    heads (inr c) (inr d) = absurd (itself (pin_in f) (follows (pin_in f) (pin_in g) (pin_in f) (first_precedes f fs g a d) (first_precedes g gs f b c)))

    only : (y : Difference) (ys : List Difference) (x : Difference) → Contains (y ∷ ys) x → (y ≡ x → ⊥) → Contains ys x
    only y ys x c n = split (member y ys x c)
      where
        split : (y ≡ x) ⊎ Contains ys x → Contains ys x
        split (inl e) = absurd (n e)
        split (inr h) = h

pub differences-one : HasOneListOfDifferences
differences-one p t ds es a b = same_lists ds es a.ascending b.ascending (λ x c. b.complete x (a.sound x c)) (λ x c. a.complete x (b.sound x c))
