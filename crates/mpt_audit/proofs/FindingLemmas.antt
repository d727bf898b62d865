-- The findings so far, one place and one rule more.
use Rattle.std.proofs.Common.{◌≡◌, ℕ, ◌+◌, ◌<◌, ◌≤◌, List, [], ◌∷◌, ◌++◌, sym, refl, subst, ◌∙◌, arith, inl, inr}
use Rattle.std.specs.Prelude.{Some, slice_get, ◌⊎◌}
use Rattle.std.specs.List.{Contains}
use Rattle.std.proofs.lemmas.List.Elements.{Contains-append_left, Contains-push, Contains-push_cases}
use Rattle.std.proofs.lemmas.Option.{slice_get_within}
use Rattle.mpt_spec.specs.declared.pointer.Pointer.{Pointer}
use Rattle.mpt_spec.specs.declared.tables.Table.{Table}
use Rattle.mpt_rules.specs.declared.rule.Rule.{Rule}
use Rattle.mpt_rules.specs.declared.rule.Rule.TheVariants as rule
use Rattle.mpt_rules.specs.declared.rule.Finding.{Finding}
use Rattle.mpt_rules.specs.Rules.{BreaksRule, IsPlaceOf}
use Rattle.mpt_audit.specs.Findings.{rules, IsTableFinding, Precedes, IsAscending, ListsInOrder}
use Rattle.mpt_audit.specs.Progress.{IsBefore, AreFindingsBefore}
use Rattle.mpt_audit.proofs.OtherLemmas.{other_one}

-- one more at the end of an ascending list
contains_head : (f : Finding) (fs : List Finding) → Contains (f ∷ fs) f
contains_head f fs = (0, omega arith, refl)

contains_tail : (f g : Finding) (fs : List Finding) → Contains fs g → Contains (f ∷ fs) g
contains_tail f g fs (k, l, e) = (k + 1, omega arith, grind arith)

ascending_push : (fs : List Finding) (g : Finding) → IsAscending fs → ((f : Finding) → Contains fs f → Precedes f g) → IsAscending (fs ++ g ∷ [])
ascending_push [] g a h = tt
ascending_push (f ∷ []) g a h = (h f (contains_head f []), tt)
ascending_push (f ∷ f2 ∷ fs) g a h = (a.0, ascending_push (f2 ∷ fs) g a.1 (λ x m. h x (contains_tail f x (f2 ∷ fs) m)))

abbrev pub finding_at : ℕ → ℕ → ℕ → Finding
finding_at n i j = record { rule = n + 1; entry = i; other = j }

module _ (p : Pointer) (t : Table) where
  pub start : AreFindingsBefore p t 0 0 []
  start = record {
    sound = λ f c. absurd (omega (arith, c.1));
    before = λ f c. absurd (omega (arith, c.1));
    complete = λ f is b. absurd (none f is b);
    ascending = tt;
  }
    where
      none : (f : Finding) → IsTableFinding p t f → IsBefore 0 0 f → ⊥
      none f is (inl l) = omega (arith, is.number)
      none f is (inr l) = omega (arith, l.1)

  -- a finding of the rule at its place is that of the rule's number
  same_rule : (n : ℕ) (r : Rule) (f : Finding) → slice_get rules n ≡ Some r → (is : IsTableFinding p t f) → f.rule ≡ n + 1 → BreaksRule p t r f.entry f.other
  same_rule n r f at is e =
      let here : is.place ≡ n = omega (arith, is.number) in
      let listed : slice_get rules n ≡ Some is.rule = subst (λ (k : ℕ). slice_get rules k ≡ Some is.rule) here is.listed in
      let same : Some is.rule ≡ Some r = sym listed ∙ at in
      let rule : is.rule ≡ r = cc in
      subst (λ (x : Rule). BreaksRule p t x f.entry f.other) rule is.broken

  later : (n i k : ℕ) (f : Finding) → i ≤ k → IsBefore n i f → IsBefore n k f
  later n i k f l (inl b) = inl b
  later n i k f l (inr b) = inr (b.0, omega (arith, b.1))

  -- a place, or some places, where the rule isn't broken
  pub passed : (n i k : ℕ) (r : Rule) (fs : List Finding) → slice_get rules n ≡ Some r → i ≤ k → ((m j : ℕ) → i ≤ m → m < k → BreaksRule p t r m j → ⊥)
      → AreFindingsBefore p t n i fs → AreFindingsBefore p t n k fs
  passed n i k r fs at l none h = record {
    sound = h.sound;
    before = λ f c. later n i k f l (h.before f c);
    complete = λ f is b. cases f is b;
    ascending = h.ascending;
  }
    where
      split : (m : ℕ) → (m < i) ⊎ (i ≤ m)
      split m = grind arith

      cases : (f : Finding) → IsTableFinding p t f → IsBefore n k f → Contains fs f
      cases f is (inl b) = h.complete f is (inl b)
      cases f is (inr b) = here (split f.entry)
        where
          here : (f.entry < i) ⊎ (i ≤ f.entry) → Contains fs f
          here (inl c) = h.complete f is (inr (b.0, c))
          here (inr c) = absurd (none f.entry f.other c b.1 (same_rule n r f at is b.0))

  -- a place where the rule is broken
  pub found : (n i j : ℕ) (r : Rule) (fs : List Finding) → slice_get rules n ≡ Some r → BreaksRule p t r i j
      → AreFindingsBefore p t n i fs → AreFindingsBefore p t n (i + 1) (fs ++ finding_at n i j ∷ [])
  found n i j r fs at broken h = record {
    sound = λ f c. sound f (Contains-push_cases fs (finding_at n i j) f c);
    before = λ f c. before f (Contains-push_cases fs (finding_at n i j) f c);
    complete = λ f is b. complete f is b;
    ascending = ascending_push fs (finding_at n i j) h.ascending (λ f c. precedes f (h.before f c));
  }
    where
      is_new : IsTableFinding p t (finding_at n i j)
      is_new = record { rule = r; place = n; number = refl; listed = at; broken = broken }

      sound : (f : Finding) → Contains fs f ⊎ ((finding_at n i j) ≡ f) → IsTableFinding p t f
      sound f (inl c) = h.sound f c
      sound f (inr e) = subst (IsTableFinding p t) e is_new

      before : (f : Finding) → Contains fs f ⊎ ((finding_at n i j) ≡ f) → IsBefore n (i + 1) f
      before f (inl c) = later n i (i + 1) f (omega arith) (h.before f c)
      before f (inr e) = subst (IsBefore n (i + 1)) e (inr (refl, omega arith))

      precedes : (f : Finding) → IsBefore n i f → Precedes f (finding_at n i j)
      precedes f (inl l) = inl l
      precedes f (inr l) = inr (l.0, inl l.1)

      split : (m : ℕ) → m < i + 1 → (m < i) ⊎ (m ≡ i)
      split m l = grind arith

      complete : (f : Finding) → IsTableFinding p t f → IsBefore n (i + 1) f → Contains (fs ++ (finding_at n i j) ∷ []) f
      complete f is (inl b) = Contains-append_left fs ((finding_at n i j) ∷ []) f (h.complete f is (inl b))
      complete f is (inr b) = here (split f.entry b.1)
        where
          here : (f.entry < i) ⊎ (f.entry ≡ i) → Contains (fs ++ (finding_at n i j) ∷ []) f
          here (inl c) = Contains-append_left fs ((finding_at n i j) ∷ []) f (h.complete f is (inr (b.0, c)))
          here (inr c) =
              let b2 : BreaksRule p t r i f.other = subst (λ (m : ℕ). BreaksRule p t r m f.other) c (same_rule n r f at is b.0) in
              let same : j ≡ f.other = other_one p t r i j f.other broken b2 in
              let rule : n + 1 ≡ f.rule = sym b.0 in
              let entry : i ≡ f.entry = sym c in
              let all : (finding_at n i j) ≡ f = λ k. record { rule = rule k; entry = entry k; other = same k } in
              subst (Contains (fs ++ (finding_at n i j) ∷ [])) all (Contains-push fs (finding_at n i j))

  -- the next rule
  pub next : (n to : ℕ) (r : Rule) (fs : List Finding) → slice_get rules n ≡ Some r → ((m j : ℕ) → BreaksRule p t r m j → m < to)
      → AreFindingsBefore p t n to fs → AreFindingsBefore p t (n + 1) 0 fs
  next n to r fs at all h = record {
    sound = h.sound;
    before = λ f c. above f (h.before f c);
    complete = λ f is b. cases f is b;
    ascending = h.ascending;
  }
    where
      above : (f : Finding) → IsBefore n to f → IsBefore (n + 1) 0 f
      above f (inl b) = inl (omega arith)
      above f (inr b) = inl (omega (arith, b.0))

      split : (m : ℕ) → m < n + 1 + 1 → (m < n + 1) ⊎ (m ≡ n + 1)
      split m l = grind arith

      cases : (f : Finding) → IsTableFinding p t f → IsBefore (n + 1) 0 f → Contains fs f
      cases f is (inr b) = absurd (omega (arith, b.1))
      cases f is (inl b) = here (split f.rule b)
        where
          here : (f.rule < n + 1) ⊎ (f.rule ≡ n + 1) → Contains fs f
          here (inl c) = h.complete f is (inl c)
          here (inr c) = h.complete f is (inr (c, all f.entry f.other (same_rule n r f at is c)))

  -- the places at which a rule is broken
  pub broken_place : (r : Rule) (i j : ℕ) → BreaksRule p t r i j → IsPlaceOf t r i
  broken_place (rule.Table r) i j b = b.1
  broken_place (rule.Base r) i j b = slice_get_within t.base i b.0 b.1
  broken_place (rule.Ext r) i j b = slice_get_within t.ext i b.0 b.1

  -- all rules
  pub whole : (fs : List Finding) → AreFindingsBefore p t 24 0 fs → ListsInOrder (IsTableFinding p t) fs
  whole fs h = record {
    sound = h.sound;
    complete = λ f is. let l : is.place < 24 = slice_get_within rules is.place is.rule is.listed in h.complete f is (inl (omega (arith, is.number)));
    ascending = h.ascending;
  }
