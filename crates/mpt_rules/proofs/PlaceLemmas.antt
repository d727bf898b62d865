-- First places: they are one, go on with one more entry, and answer a rule.
use Rattle.std.proofs.Common.{◌≡◌, ℕ, zero, suc, ◌+◌, ◌<◌, ◌≤◌, Bool, true, false, cond, eqb, List, [], length, get_or, replicate, sym, refl, ◌∙◌, subst, ap, arith, inl, inr}
use Rattle.std.specs.Prelude.{OnOk, Result, Ok, Err, Option, Some, None, slice_get, slice_index_or, IsTrue, ◌↔◌, ◌⊎◌, nat_lt}
use Rattle.std.specs.Option.{option_or}
use Rattle.std.specs.BTreeMap.{is_at}
use Rattle.std.proofs.lemmas.Bool.{false≢true}
use Rattle.std.proofs.lemmas.Bool.Decides.{nat_tests}
use Rattle.std.proofs.lemmas.Option.{slice_get_within, slice_get-get_or, get_or_from_slice_get}
use Rattle.mpt_spec.specs.declared.entry.Base.{Base}
use Rattle.mpt_spec.specs.declared.entry.Base.TheVariants as base
use Rattle.mpt_rules.specs.Places.{HoldsAt, HoldsNowhere, IsFirstOf, IsFirstBefore, FirstIs, IsOther, nowhere}
use Rattle.mpt_rules.specs.Index.{place_before, alone, lacks, Noted, NotesId, NotesKey, NotesEntry, NotesKeyed, AreFirsts, key_cmp}

or_none : (o : Option ℕ) → option_or o None ≡ o
or_none None = refl
or_none (Some x) = refl

pub on_ok : {X Y : Type 0} {A B : Type 0} (r : Result X Y) → (A → B) → OnOk r A → OnOk r B
on_ok (Ok x) f h = f h
on_ok (Err y) f h = tt

-- a rule that names no other place
pub alone_other : {P : Type 0} (b : Bool) (r : Option ℕ) → (IsTrue b ↔ P) → r ≡ alone b → IsOther (λ j. P × (j ≡ nowhere)) r
alone_other {P} true r h e = subst (λ o. IsOther (λ j. P × (j ≡ nowhere)) o) (sym e) (h.0 refl, refl)
alone_other {P} false r h e = subst (λ o. IsOther (λ j. P × (j ≡ nowhere)) o) (sym e) (λ j p. false≢true (h.1 p.0))

pub alone_on_table : {P : Type 0} (b : Bool) (i : ℕ) (r : Option ℕ) → (IsTrue b ↔ P) → i ≡ nowhere → r ≡ alone b → IsOther (λ j. P × (i ≡ nowhere) × (j ≡ nowhere)) r
alone_on_table {P} true i r h n e = subst (λ o. IsOther (λ j. P × (i ≡ nowhere) × (j ≡ nowhere)) o) (sym e) (h.0 refl, n, refl)
alone_on_table {P} false i r h n e = subst (λ o. IsOther (λ j. P × (i ≡ nowhere) × (j ≡ nowhere)) o) (sym e) (λ j p. false≢true (h.1 p.0))

-- a rule on the entry at a place
pub entry_other : {E : Type 0} (B : E → ℕ → Type 0) (es : List E) (i : ℕ) (e : E) (o : Option ℕ) → slice_get es i ≡ Some e → IsOther (B e) o → IsOther (λ j. (f : E) × (slice_get es i ≡ Some f) × B f j) o
entry_other B es i e (Some j) at h = (e, at, h)
entry_other {E} B es i e None at h = λ j p. let same : Some p.0 ≡ Some e = sym p.1 ∙ at in let is : p.0 ≡ e = cc in h j (subst (λ (f : E). B f j) is p.2)

-- a rule that asks something of the entry alone too
pub and_other : {P : Type 0} (B : ℕ → Type 0) → P → (r : Option ℕ) → IsOther B r → IsOther (λ j. P × B j) r
and_other B p None h = λ j b. h j b.1
and_other B p (Some j) h = (p, h)

-- a number that is met at a place, or another
pub noted_number : (old new : List (Option ℕ)) (id i : ℕ) → NotesId old new id i → (q : ℕ) → Noted (id ≡ q) (slice_index_or old q None) (slice_index_or new q None) i
noted_number old new id i h q = cases (eqb id q) (λ t. grind (arith, nat_tests)) (λ t e. grind (arith, nat_tests)) (h q)
  where
    cases : (b : Bool) → (b ≡ true → id ≡ q) → (b ≡ false → id ≡ q → ⊥) → slice_index_or new q None ≡ option_or (slice_index_or old q None) (cond b (Some i) None) → Noted (id ≡ q) (slice_index_or old q None) (slice_index_or new q None) i
    cases true t f e = inl (t refl, e)
    cases false t f e = inr (f refl, e ∙ or_none (slice_index_or old q None))

-- keys that compare as equal are one
key_exact : (x q : ℕ × ℕ × ℕ) → is_at (key_cmp x) q ≡ true → x ≡ q
key_exact x q h =
    let a : x.0 ≡ q.0 = grind (arith, nat_tests) in
    let b : x.1 ≡ q.1 = grind (arith, nat_tests) in
    let c : x.2 ≡ q.2 = grind (arith, nat_tests) in
    λ i. (a i, b i, c i)

key_apart : (x q : ℕ × ℕ × ℕ) → is_at (key_cmp x) q ≡ false → (x.0 ≡ q.0) × (x.1 ≡ q.1) × (x.2 ≡ q.2) → ⊥
key_apart x q h e = grind (arith, nat_tests)

-- a key that is met at a place, or another
pub noted_key : (old new : ℕ × ℕ × ℕ → Option ℕ) (key : ℕ × ℕ × ℕ) (i : ℕ) → NotesKey old new key i → (q : ℕ × ℕ × ℕ) → Noted ((key.0 ≡ q.0) × (key.1 ≡ q.1) × (key.2 ≡ q.2)) (old q) (new q) i
noted_key old new key i h q = cases (is_at (key_cmp key) q) (λ t. let e : key ≡ q = key_exact key q t in (ap (λ (x : ℕ × ℕ × ℕ). x.0) e, ap (λ (x : ℕ × ℕ × ℕ). x.1) e, ap (λ (x : ℕ × ℕ × ℕ). x.2) e)) (λ t. key_apart key q t) (h q)
  where
    cases : (b : Bool) → (b ≡ true → (key.0 ≡ q.0) × (key.1 ≡ q.1) × (key.2 ≡ q.2)) → (b ≡ false → (key.0 ≡ q.0) × (key.1 ≡ q.1) × (key.2 ≡ q.2) → ⊥) → new q ≡ option_or (old q) (cond b (Some i) None) → Noted ((key.0 ≡ q.0) × (key.1 ≡ q.1) × (key.2 ≡ q.2)) (old q) (new q) i
    cases true t f e = inl (t refl, e)
    cases false t f e = inr (f refl, e ∙ or_none (old q))

module _ {E : Type 0} (P : E → Type 0) (es : List E) where
  -- a first place is one
  pub first_one : (j k : ℕ) → IsFirstOf P es j → IsFirstOf P es k → j ≡ k
  first_one j k a b = sorted (λ h. b.first j h a.holds) (λ h. a.first k h b.holds)
    where
      sorted : (j < k → ⊥) → (k < j → ⊥) → j ≡ k
      sorted f g = omega arith

  -- the first place, if it is before another
  pub before_other : (i n : ℕ) (o r : Option ℕ) → i ≤ n → FirstIs P es n o → r ≡ place_before o i → IsOther (IsFirstBefore P es i) r
  before_other i n None r l h e = subst (λ o. IsOther (IsFirstBefore P es i) o) (sym e) (λ j f. h j (omega arith) f.place.holds)
  before_other i n (Some j) r l h e = subst (λ o. IsOther (IsFirstBefore P es i) o) (sym e) (cases (nat_lt j i) (λ t. grind (arith, nat_tests)) (λ t. grind (arith, nat_tests)))
    where
      cases : (b : Bool) → (b ≡ true → j < i) → (b ≡ false → i ≤ j) → IsOther (IsFirstBefore P es i) (cond b (Some j) None)
      cases true t f = record { before = t refl; place = h.place }
      cases false t f = λ k g. let same : j ≡ k = first_one j k h.place g.place in let past : i ≤ j = f refl in absurd (omega (arith, g.before))

  -- the first place, wherever it is
  pub first_other : (o r : Option ℕ) → FirstIs P es (length es) o → r ≡ o → IsOther (IsFirstOf P es) r
  first_other None r h e = subst (λ o. IsOther (IsFirstOf P es) o) (sym e) (λ j f. h j (slice_get_within es j f.holds.0 f.holds.1) f.holds)
  first_other (Some j) r h e = subst (λ o. IsOther (IsFirstOf P es) o) (sym e) h.place

  -- no place at all
  pub lacks_nowhere : (o : Option ℕ) (b : Bool) → FirstIs P es (length es) o → b ≡ lacks o → IsTrue b ↔ HoldsNowhere P es
  lacks_nowhere None b h e = (λ t k p. h k (slice_get_within es k p.0 p.1) p, λ n. e)
  lacks_nowhere (Some j) b h e = (λ t. absurd (false≢true (sym e ∙ t)), λ n. absurd (n j h.place.holds))

  -- a test of the first
  pub first_tests : (Q : E → Type 0) (o : Option ℕ) (k : ℕ) (d : E) (b : Bool) → o ≡ Some k → FirstIs P es (length es) o → (IsTrue b ↔ Q (get_or es k d))
      → IsTrue b ↔ ((m : ℕ) × IsFirstOf P es m × HoldsAt Q es m)
  first_tests Q o k d b is h t =
      let f : IsFirstBefore P es (length es) k = subst (λ x. FirstIs P es (length es) x) is h in (
        λ e. (k, f.place, (get_or es k d, slice_get-get_or es k d f.before, t.0 e)),
        λ w. let same : w.0 ≡ k = first_one w.0 k w.1 f.place in
            let at : slice_get es k ≡ Some w.2.0 = subst (λ (m : ℕ). slice_get es m ≡ Some w.2.0) same w.2.1 in
            t.1 (subst Q (sym (get_or_from_slice_get es k w.2.0 d at)) w.2.2),
      )

  pub first_tests_none : (Q : E → Type 0) (o : Option ℕ) → o ≡ None → FirstIs P es (length es) o → IsTrue false ↔ ((m : ℕ) × IsFirstOf P es m × HoldsAt Q es m)
  first_tests_none Q o is h =
      let f : ((k : ℕ) → k < length es → HoldsAt P es k → ⊥) = subst (λ x. FirstIs P es (length es) x) is h in
      (λ e. absurd (false≢true e), λ w. absurd (f w.0 (slice_get_within es w.0 w.1.holds.0 w.1.holds.1) w.1.holds))

  -- another word for the same
  pub first_as : (Q : E → Type 0) (n : ℕ) (o : Option ℕ) → ((e : E) → P e → Q e) → ((e : E) → Q e → P e) → FirstIs P es n o → FirstIs Q es n o
  first_as Q n None f g h = λ k l q. h k l (q.0, q.1, g q.0 q.2)
  first_as Q n (Some j) f g h = record {
    before = h.before;
    place = record { holds = (h.place.holds.0, h.place.holds.1, f h.place.holds.0 h.place.holds.2); first = λ k l q. h.place.first k l (q.0, q.1, g q.0 q.2) };
  }

  pub none_before : (i : ℕ) → ((e : E) → P e → ⊥) → (j : ℕ) → IsFirstBefore P es i j → ⊥
  none_before i n j f = n f.place.holds.0 f.place.holds.2

  -- one more entry
  pub first_noted : (i : ℕ) (e : E) (old new : Option ℕ) → slice_get es i ≡ Some e → Noted (P e) old new i → FirstIs P es i old → FirstIs P es (i + 1) new
  first_noted i e (Some j) new at (inl n) h = subst (λ o. FirstIs P es (i + 1) o) (sym n.1) (record { before = omega (arith, h.before); place = h.place })
  first_noted i e None new at (inl n) h = subst (λ o. FirstIs P es (i + 1) o) (sym n.1) (record { before = omega arith; place = record { holds = (e, at, n.0); first = h } })
  first_noted i e (Some j) new at (inr n) h = subst (λ o. FirstIs P es (i + 1) o) (sym n.1) (record { before = omega (arith, h.before); place = h.place })
  first_noted i e None new at (inr n) h = subst (λ o. FirstIs P es (i + 1) o) (sym n.1) (λ k l q. here k q (split k l))
    where
      split : (k : ℕ) → k < i + 1 → (k < i) ⊎ (k ≡ i)
      split k l = grind arith

      here : (k : ℕ) → HoldsAt P es k → (k < i) ⊎ (k ≡ i) → ⊥
      here k q (inl l) = h k l q
      here k q (inr l) = let same : Some e ≡ Some q.0 = cc in let is : e ≡ q.0 = cc in n.0 (subst P (sym is) q.2)

  -- the first place is here
  pub first_here : (i : ℕ) (d : E) → i < length es → P (get_or es i d) → ((k : ℕ) → k < i → HoldsAt P es k → ⊥) → IsFirstBefore P es (length es) i
  first_here i d l h n = record { before = l; place = record { holds = (get_or es i d, slice_get-get_or es i d l, h); first = n } }

  pub holds_here : (i : ℕ) (d : E) → i < length es → P (get_or es i d) → HoldsAt P es i
  holds_here i d l h = (get_or es i d, slice_get-get_or es i d l, h)

  pub not_here : (i : ℕ) (d : E) → (P (get_or es i d) → ⊥) → HoldsAt P es i → ⊥
  not_here i d n (e, at, q) = n (subst P (sym (get_or_from_slice_get es i e d at)) q)

empty : (n q : ℕ) → ◌≡◌ {A = Option ℕ} (get_or (replicate n None) q None) None
empty zero q = refl
empty (suc n) zero = refl
empty (suc n) (suc q) = empty n q

pub no_first : (q : ℕ) → ◌≡◌ {A = Option ℕ} (slice_index_or (replicate 256 None) q None) None
no_first q = empty 256 q

pub firsts_start : {E : Type 0} (P : ℕ → E → Type 0) (es : List E) (table : List (Option ℕ)) → ((q : ℕ) → slice_index_or table q None ≡ None) → AreFirsts P es 0 table
firsts_start P es table h q = subst (λ o. FirstIs (P q) es 0 o) (sym (h q)) (λ k l p. omega (arith, l))

pub firsts_more : {E : Type 0} (P : ℕ → E → Type 0) (es : List E) (i : ℕ) (d : E) (old new : List (Option ℕ)) → i < length es → NotesEntry P old new (get_or es i d) i → AreFirsts P es i old → AreFirsts P es (i + 1) new
firsts_more P es i d old new l n h q = first_noted (P q) es i (get_or es i d) _ _ (slice_get-get_or es i d l) (n q) (h q)

pub keyed_more : {E : Type 0} (P : ℕ × ℕ × ℕ → E → Type 0) (es : List E) (i : ℕ) (d : E) (old new : ℕ × ℕ × ℕ → Option ℕ) → i < length es → NotesKeyed P old new (get_or es i d) i → ((q : ℕ × ℕ × ℕ) → FirstIs (P q) es i (old q)) → (q : ℕ × ℕ × ℕ) → FirstIs (P q) es (i + 1) (new q)
keyed_more P es i d old new l n h q = first_noted (P q) es i (get_or es i d) _ _ (slice_get-get_or es i d l) (n q) (h q)

pub first_to : {E : Type 0} (P : E → Type 0) (es : List E) (i n : ℕ) (o : Option ℕ) → i ≡ n → FirstIs P es i o → FirstIs P es n o
first_to P es i n o e h = subst (λ k. FirstIs P es k o) e h

-- what the code's indexing names past the end
abbrev pub no_entry : Base
no_entry = base.Processor (record { apic = 0; version = 0; flags = 0; signature = 0; features = 0; reserved = [] })
