-- Whether a decided sentence holds at a place of a list, anywhere in it, and where first.
use Rattle.std.proofs.Common.{◌≡◌, ℕ, zero, suc, ◌+◌, ◌<◌, ◌≤◌, ◌⊎◌, List, length, Option, Some, None, refl, sym, subst, ◌∙◌, inl, inr, arith}
use Rattle.std.specs.Prelude.{slice_get}
use Rattle.std.proofs.lemmas.Bool.{cases_lt}
use Rattle.std.proofs.lemmas.Option.{slice_get_within, none-some, same_Some}
use Rattle.mpt_laws.proofs.EntryJudgment.{Decided}
use Rattle.mpt_rules.specs.Places.{HoldsAt, HoldsNowhere, IsFirstOf, IsFirstBefore, nowhere}

-- a number that a sentence holds of, or none
abbrev pub IsFound : (ℕ → Type 0) → Type 0
IsFound B = ((j : ℕ) × B j) ⊎ ((j : ℕ) → ¬ B j)

module _ {E : Type 0} (P : E → Type 0) (decide : (e : E) → Decided (P e)) (es : List E) where
  pub holds_at : (k : ℕ) → Decided (HoldsAt P es k)
  holds_at k = by_get (slice_get es k) refl
    where
      by_member : (x : E) → slice_get es k ≡ Some x → Decided (P x) → Decided (HoldsAt P es k)
      by_member x e (inl p) = inl (x, e, p)
      by_member x e (inr n) = inr (λ h. n (subst P (same_Some h.0 x (sym h.1 ∙ e)) h.2))

      by_get : (o : Option E) → slice_get es k ≡ o → Decided (HoldsAt P es k)
      by_get None e = inr (λ h. none-some h.0 (sym e ∙ h.1))
      by_get (Some x) e = by_member x e (decide x)

  -- the first place before another, or none
  pub first_before : (i : ℕ) → ((j : ℕ) × IsFirstBefore P es i j) ⊎ ((k : ℕ) → k < i → ¬ HoldsAt P es k)
  first_before zero = inr (λ k l. absurd (omega (arith, l)))
  first_before (suc i) = by_parts (first_before i) (holds_at i)
    where
      split : (k : ℕ) → k < suc i → (k < i) ⊎ (k ≡ i)
      split k l = by_order (cases_lt k i)
        where
          by_order : (k < i) ⊎ (i ≤ k) → (k < i) ⊎ (k ≡ i)
          by_order (inl lt) = inl lt
          by_order (inr le) = inr (omega (arith, le, l))

      here : ((k : ℕ) → k < i → ¬ HoldsAt P es k) → ¬ HoldsAt P es i → (k : ℕ) → HoldsAt P es k → (k < i) ⊎ (k ≡ i) → ⊥
      here none n k h (inl l) = none k l h
      here none n k h (inr e) = n (subst (HoldsAt P es) e h)

      by_parts : ((j : ℕ) × IsFirstBefore P es i j) ⊎ ((k : ℕ) → k < i → ¬ HoldsAt P es k) → Decided (HoldsAt P es i) → ((j : ℕ) × IsFirstBefore P es (suc i) j) ⊎ ((k : ℕ) → k < suc i → ¬ HoldsAt P es k)
      by_parts (inl f) _ = let b = f.1.before in inl (f.0, record { before = omega (arith, b); place = f.1.place })
      by_parts (inr none) (inl h) = inl (i, record { before = omega arith; place = record { holds = h; first = none } })
      by_parts (inr none) (inr n) = inr (λ k l h. here none n k h (split k l))

  -- the earlier place that a rule names, or none
  pub earlier_found : (i : ℕ) → IsFound (IsFirstBefore P es i)
  earlier_found i = by_first (first_before i)
    where
      by_first : ((j : ℕ) × IsFirstBefore P es i j) ⊎ ((k : ℕ) → k < i → ¬ HoldsAt P es k) → IsFound (IsFirstBefore P es i)
      by_first (inl f) = inl f
      by_first (inr none) = inr (λ j f. none j f.before f.place.holds)

  pub first_or_nowhere : ((j : ℕ) × IsFirstOf P es j) ⊎ HoldsNowhere P es
  first_or_nowhere = by_first (first_before (length es))
    where
      by_first : ((j : ℕ) × IsFirstBefore P es (length es) j) ⊎ ((k : ℕ) → k < length es → ¬ HoldsAt P es k) → ((j : ℕ) × IsFirstOf P es j) ⊎ HoldsNowhere P es
      by_first (inl f) = inl (f.0, f.1.place)
      by_first (inr none) = inr (λ k h. none k (slice_get_within es k h.0 h.1) h)

  -- the first place, or none
  pub first_found : IsFound (IsFirstOf P es)
  first_found = by_first first_or_nowhere
    where
      by_first : ((j : ℕ) × IsFirstOf P es j) ⊎ HoldsNowhere P es → IsFound (IsFirstOf P es)
      by_first (inl f) = inl f
      by_first (inr none) = inr (λ j f. none j f.holds)

  pub holds_nowhere : Decided (HoldsNowhere P es)
  holds_nowhere = by_first first_or_nowhere
    where
      by_first : ((j : ℕ) × IsFirstOf P es j) ⊎ HoldsNowhere P es → Decided (HoldsNowhere P es)
      by_first (inl f) = inr (λ none. none f.0 f.1.holds)
      by_first (inr none) = inl none

  -- the place just before another, if the sentence holds there
  pub last_found : (i : ℕ) → IsFound (λ j. (j + 1 ≡ i) × HoldsAt P es j)
  last_found zero = inr (λ j h. let e = h.0 in omega (arith, e))
  last_found (suc i) = by_place (holds_at i)
    where
      same : (j : ℕ) → j + 1 ≡ suc i → j ≡ i
      same j e = omega (arith, e)

      by_place : Decided (HoldsAt P es i) → IsFound (λ j. (j + 1 ≡ suc i) × HoldsAt P es j)
      by_place (inl h) = inl (i, (omega arith, h))
      by_place (inr n) = inr (λ j h. n (subst (HoldsAt P es) (same j h.0) h.1))

-- a rule that names no other place
pub alone_found : {P : Type 0} → Decided P → IsFound (λ j. P × (j ≡ nowhere))
alone_found (inl p) = inl (nowhere, (p, refl))
alone_found (inr n) = inr (λ j h. n h.0)

-- a rule that asks something of the entry alone too
pub and_found : {P : Type 0} (B : ℕ → Type 0) → Decided P → IsFound B → IsFound (λ j. P × B j)
and_found B (inl p) (inl f) = inl (f.0, (p, f.1))
and_found B (inl p) (inr none) = inr (λ j h. none j h.1)
and_found B (inr n) _ = inr (λ j h. n h.0)

-- a rule on the whole table
pub table_found : {P : Type 0} (i : ℕ) → Decided P → Decided (i ≡ nowhere) → IsFound (λ j. P × (i ≡ nowhere) × (j ≡ nowhere))
table_found i (inl p) (inl e) = inl (nowhere, (p, e, refl))
table_found i (inl p) (inr n) = inr (λ j h. n h.1)
table_found i (inr n) _ = inr (λ j h. n h.0)

-- a rule on the entry at a place
pub entry_found : {E : Type 0} (B : E → ℕ → Type 0) (es : List E) (i : ℕ) → ((e : E) → IsFound (B e)) → IsFound (λ j. (e : E) × (slice_get es i ≡ Some e) × B e j)
entry_found {E} B es i each = by_get (slice_get es i) refl
  where
    by_entry : (x : E) → slice_get es i ≡ Some x → IsFound (B x) → IsFound (λ j. (e : E) × (slice_get es i ≡ Some e) × B e j)
    by_entry x at (inl f) = inl (f.0, (x, at, f.1))
    by_entry x at (inr none) = inr (λ j h. none j (subst (λ (e : E). B e j) (same_Some h.0 x (sym h.1 ∙ at)) h.2))

    by_get : (o : Option E) → slice_get es i ≡ o → IsFound (λ j. (e : E) × (slice_get es i ≡ Some e) × B e j)
    by_get None at = inr (λ j h. none-some h.0 (sym at ∙ h.1))
    by_get (Some x) at = by_entry x at (each x)
