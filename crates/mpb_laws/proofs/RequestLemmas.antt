-- Requests of a vector over all processors of an id: how a fixed message, a take and every other change count.
use Rattle.std.proofs.Common.{◌≡◌, ◌==◌, ◌≢◌, ℕ, ◌+◌, ◌-◌, ◌/◌, ◌<◌, Bool, true, false, cond, not, ◌&&◌, ◌||◌, List, [], ◌∷◌, ◌++◌, map, filter, refl, sym, ap, ap₂, ◌∙◌, arith, Option, Some, None, slice_get, length, count_by, sum, nat_lt, nat_le, zero, suc, inl, inr, subst}
use Rattle.std.specs.List.{AllByRecursion}
use Rattle.std.proofs.lemmas.List.Sums.{sum_by-cons}
use Rattle.std.proofs.lemmas.Bool.{lt-ltb, le-ltb, ne_eqb, eq-eqb, eqb-true, cases_lt, cases_eq}
use Rattle.mpb_spec.specs.declared.entry.Outcome.{Outcome}
use Rattle.mpb_spec.specs.declared.entry.What.{What}
use Rattle.mpb_spec.specs.declared.entry.What.TheVariants as what
use Rattle.mpb_spec.specs.declared.apic.Delivery.{Delivery}
use Rattle.mpb_spec.specs.declared.apic.Delivery.TheVariants as sends
use Rattle.mpb_spec.specs.declared.apic.Accept.{Accept}
use Rattle.mpb_spec.specs.declared.apic.Accept.TheVariants as accept
use Rattle.mpb_spec.specs.declared.config.Life.{Life}
use Rattle.mpb_spec.specs.declared.config.Life.TheVariants as life
use Rattle.mpb_spec.specs.Numbers.{has, with_number, without, greatest, IsAscending}
use Rattle.mpb_spec.specs.LocalApic.{LocalApic, acceptance, accepted, taken, taken_from, next_vector, above, ppr}
use Rattle.mpb_spec.specs.State.{Processor, runs, processor_of, change_processor}
use Rattle.mpb_spec.specs.Delivery.{delivered_to, received, answer, outcome_at, outcomes_at, unless_absent, outcome_of_accept, init_outcome, start_outcome, startup_outcome}
use Rattle.mpb_spec.specs.Steps.{with_apic}
use Rattle.mpb_spec.specs.Outcomes.{what_taken, taken_by}
use Rattle.mpb_spec.specs.Requests.{is_set, is_taken, sets_at}
use Rattle.mpb_laws.specs.Accounts.{is_requested_by}

-- the set with v has v, and otherwise the same members
has-append : (u : ℕ) (xs ys : List ℕ) → has u (xs ++ ys) ≡ (has u xs || has u ys)
has-append u [] ys = refl
has-append u (x ∷ xs) ys = elim (x == u) as (λ b. (b || has u (xs ++ ys)) ≡ ((b || has u xs) || has u ys)) [ true ↦ refl | false ↦ has-append u xs ys ]

has-with_itself : (v : ℕ) (xs : List ℕ) → has v (with_number v xs) ≡ true
has-with_itself v xs =
    has-append v (filter (λ x. nat_lt x v) xs) (v ∷ filter (λ x. nat_lt v x) xs)
    ∙ ap (λ b. has v (filter (λ x. nat_lt x v) xs) || (b || has v (filter (λ x. nat_lt v x) xs))) (eq-eqb v v refl)
    ∙ or-true (has v (filter (λ x. nat_lt x v) xs)) where
      or-true : (b : Bool) → (b || true) ≡ true
      or-true true = refl
      or-true false = refl

-- what a filter keeps of a member that passes
has-filter : (u : ℕ) (p : ℕ → Bool) (xs : List ℕ) → has u (filter p xs) ≡ (p u && has u xs)
has-filter u p [] = elim (p u) as (λ b. false ≡ (b && false)) [ true ↦ refl | false ↦ refl ]
has-filter u p (x ∷ xs) = go (p x) refl (x == u) refl (has-filter u p xs) where
  go : (a : Bool) → p x ≡ a → (b : Bool) → (x == u) ≡ b → has u (filter p xs) ≡ (p u && has u xs) → has u (cond a (x ∷ filter p xs) (filter p xs)) ≡ (p u && (b || has u xs))
  go true pa true e h = let same : x ≡ u = eqb-true x u e in let pu : p u ≡ true = ap p (sym same) ∙ pa in rw pu (rw e refl)
  go true pa false e h = rw e h
  go false pa true e h = let same : x ≡ u = eqb-true x u e in let pu : p u ≡ false = ap p (sym same) ∙ pa in rw pu (h ∙ ap (λ b. b && has u xs) pu)
  go false pa false e h = h

has-with_other : (u v : ℕ) (xs : List ℕ) → u ≢ v → has u (with_number v xs) ≡ has u xs
has-with_other u v xs ne =
    has-append u (filter (λ x. nat_lt x v) xs) (v ∷ filter (λ x. nat_lt v x) xs)
    ∙ ap₂ (λ a b. a || ((v == u) || b)) (has-filter u (λ x. nat_lt x v) xs) (has-filter u (λ x. nat_lt v x) xs)
    ∙ rw (ne_eqb v u (λ e. ne (sym e))) (elim (cases_lt u v) [
      | inl lt ↦ rw (lt-ltb u v lt, le-ltb v u (omega arith)) (or-false (has u xs))
      | inr le ↦ rw (le-ltb u v le, lt-ltb v u (omega arith)) refl
    ]) where
      or-false : (b : Bool) → (b || false) ≡ b
      or-false true = refl
      or-false false = refl

-- the set without u
has-without : (v u : ℕ) (xs : List ℕ) → has v (without u xs) ≡ (not (v == u) && has v xs)
has-without v u xs = has-filter v (λ x. not (x == u)) xs

-- a number that is read at a place of the list is a member
has-at : (xs : List ℕ) (i u : ℕ) → slice_get xs i ≡ Some u → has u xs ≡ true
has-at [] i u e = cc
has-at (x ∷ xs) zero u e = let same : x ≡ u = cc in ap (λ b. b || has u xs) (eq-eqb x u same)
has-at (x ∷ xs) (suc i) u e = elim (x == u) as (λ b. (b || has u xs) ≡ true) [ true ↦ refl | false ↦ has-at xs i u e ]

-- the vector that is taken next is requested
above-is : (p : ℕ) (r : Option ℕ) (u : ℕ) → above p r ≡ Some u → r ≡ Some u
above-is p None u e = cc
above-is p (Some v) u e = go (nat_lt (p / 16) (v / 16)) e where
  go : (b : Bool) → cond b (Some v) None ≡ Some u → Some v ≡ Some u
  go true e = e
  go false e = cc

next-is-requested : (a : LocalApic) (u : ℕ) → next_vector a ≡ Some u → has u a.irr ≡ true
next-is-requested a u e = has-at a.irr (length a.irr - 1) u (above-is (ppr a) (greatest a.irr) u e)

-- the processors of this id that request the vector
abbrev pub requests : ℕ → ℕ → List Processor → ℕ
requests d v ps = count_by (λ p. (p.id == d) && has v p.apic.irr) ps

abbrev pub hit : ℕ → ℕ → Processor → ℕ
hit d v p = cond {A = ℕ} ((p.id == d) && has v p.apic.irr) 1 0

pub requests-cons : (d v : ℕ) (p : Processor) (ps : List Processor) → requests d v (p ∷ ps) ≡ hit d v p + requests d v ps
requests-cons d v p ps = sum_by-cons (hit d v) p ps

-- a change that keeps ids, and whether the vector is requested, keeps the count
pub record Keeps (v : ℕ) (k : Processor → Processor) : Type 0 where
  pub id : (p : Processor) → (k p).id ≡ p.id
  pub irr : (p : Processor) → has v (k p).apic.irr ≡ has v p.apic.irr

hit-kept : (d v : ℕ) (k : Processor → Processor) (p : Processor) → Keeps v k → hit d v (k p) ≡ hit d v p
hit-kept d v k p keeps = ap₂ (λ (i : ℕ) (b : Bool). cond {A = ℕ} ((i == d) && b) 1 0) (keeps.id p) (keeps.irr p)

pub map-keeps : (d v : ℕ) (k : Processor → Processor) (ps : List Processor) → Keeps v k → requests d v (map k ps) ≡ requests d v ps
map-keeps d v k [] keeps = refl
map-keeps d v k (p ∷ ps) keeps = requests-cons d v (k p) (map k ps) ∙ ap₂ (λ (a b : ℕ). a + b) (hit-kept d v k p keeps) (map-keeps d v k ps keeps) ∙ sym (requests-cons d v p ps)

pub change-keeps : (d v id : ℕ) (k : Processor → Processor) (ps : List Processor) → Keeps v k → requests d v (change_processor id k ps) ≡ requests d v ps
change-keeps d v id k [] keeps = refl
change-keeps d v id k (p ∷ ps) keeps = go (p.id == id) (change-keeps d v id k ps keeps) where
  go : (b : Bool) → requests d v (change_processor id k ps) ≡ requests d v ps → requests d v (cond b (k p ∷ ps) (p ∷ change_processor id k ps)) ≡ requests d v (p ∷ ps)
  go true h = requests-cons d v (k p) ps ∙ ap (λ (a : ℕ). a + requests d v ps) (hit-kept d v k p keeps) ∙ sym (requests-cons d v p ps)
  go false h = requests-cons d v p (change_processor id k ps) ∙ ap (λ (b : ℕ). hit d v p + b) h ∙ sym (requests-cons d v p ps)

-- a take: the vector that is taken is requested no more
one-take : (d v : ℕ) (p : Processor) → cond {A = ℕ} (p.id == d) (cond {A = ℕ} (is_taken v (what_taken (next_vector p.apic))) 1 0) 0 + hit d v (with_apic taken p) ≡ hit d v p
one-take d v p = go (p.id == d) (next_vector p.apic) refl where
  same_one : (u : ℕ) → u ≡ v → has u p.apic.irr ≡ true → cond {A = ℕ} (u == v) 1 0 + cond {A = ℕ} (has v (without u p.apic.irr)) 1 0 ≡ cond {A = ℕ} (has v p.apic.irr) 1 0
  same_one u same h =
      let mine : has v p.apic.irr ≡ true = ap (λ (w : ℕ). has w p.apic.irr) (sym same) ∙ h in
      rw (has-without v u p.apic.irr) (rw (eq-eqb u v same, eq-eqb v u (sym same), mine) refl)

  other_one : (u : ℕ) → u ≢ v → cond {A = ℕ} (u == v) 1 0 + cond {A = ℕ} (has v (without u p.apic.irr)) 1 0 ≡ cond {A = ℕ} (has v p.apic.irr) 1 0
  other_one u ne = rw (has-without v u p.apic.irr) (rw (ne_eqb u v ne, ne_eqb v u (λ e. ne (sym e))) (omega arith))

  go : (i : Bool) (nv : Option ℕ) → next_vector p.apic ≡ nv → cond {A = ℕ} i (cond {A = ℕ} (is_taken v (what_taken nv)) 1 0) 0 + cond {A = ℕ} (i && has v (taken_from p.apic nv).irr) 1 0 ≡ cond {A = ℕ} (i && has v p.apic.irr) 1 0
  go false nv e = refl
  go true None e = omega arith
  go true (Some u) e = elim (cases_eq u v) [ inl same ↦ same_one u same (next-is-requested p.apic u e) | inr ne ↦ other_one u ne ]

pub take-counts : (d v id : ℕ) (ps : List Processor) → cond {A = ℕ} (id == d) (cond {A = ℕ} (is_taken v (taken_by (processor_of id ps))) 1 0) 0 + requests d v (change_processor id (with_apic taken) ps) ≡ requests d v ps
take-counts d v id [] = elim (id == d) as (λ b. cond {A = ℕ} b 0 0 + requests d v [] ≡ requests d v []) [ true ↦ refl | false ↦ refl ]
take-counts d v id (p ∷ ps) = go (p.id == id) refl (take-counts d v id ps) where
  here : p.id ≡ id → cond {A = ℕ} (id == d) (cond {A = ℕ} (is_taken v (what_taken (next_vector p.apic))) 1 0) 0 + hit d v (with_apic taken p) ≡ hit d v p
  here same = subst (λ (i : ℕ). cond {A = ℕ} (i == d) (cond {A = ℕ} (is_taken v (what_taken (next_vector p.apic))) 1 0) 0 + hit d v (with_apic taken p) ≡ hit d v p) same (one-take d v p)

  go : (b : Bool) → (p.id == id) ≡ b
      → cond {A = ℕ} (id == d) (cond {A = ℕ} (is_taken v (taken_by (processor_of id ps))) 1 0) 0 + requests d v (change_processor id (with_apic taken) ps) ≡ requests d v ps
      → cond {A = ℕ} (id == d) (cond {A = ℕ} (is_taken v (taken_by (cond b (Some p) (processor_of id ps)))) 1 0) 0 + requests d v (cond b (with_apic taken p ∷ ps) (p ∷ change_processor id (with_apic taken) ps)) ≡ requests d v (p ∷ ps)
  go true e rest = rw (requests-cons d v (with_apic taken p) ps, requests-cons d v p ps) (omega (arith, here (eqb-true p.id id e)))
  go false e rest = rw (requests-cons d v p (change_processor id (with_apic taken) ps), requests-cons d v p ps) (omega (arith, rest))

-- tests that no outcome of such messages passes
pub record IsNone (f : What → Bool) : Type 0 where
  pub asleep : f what.Asleep ≡ false
  pub nmi : f what.Nmi ≡ false
  pub passed : f what.Passed ≡ false
  pub waiting : f what.Waiting ≡ false
  pub ignored : f what.Ignored ≡ false
  pub started : (page : ℕ) → f (what.Started page) ≡ false

start-none : (f : What → Bool) (warm : Option ℕ) → IsNone f → f (start_outcome warm) ≡ false
start-none f None n = n.ignored
start-none f (Some page) n = n.started page

init-none : (f : What → Bool) (warm : Option ℕ) (version : Bool) (l : Life) → IsNone f → (old : ℕ) → (nat_le 16 old) ≡ version → f (init_outcome warm old l) ≡ false
init-none f warm true life.Asleep n old e = rw e n.waiting
init-none f warm false life.Asleep n old e = rw e (start-none f warm n)
init-none f warm true life.Waiting n old e = rw e n.waiting
init-none f warm false life.Waiting n old e = rw e n.ignored
init-none f warm b (life.Started page) n old e = n.ignored
init-none f warm b life.First n old e = n.ignored

startup-none : (f : What → Bool) (page : ℕ) (l : Life) → IsNone f → f (startup_outcome page l) ≡ false
startup-none f page life.Asleep n = n.ignored
startup-none f page life.Waiting n = n.started page
startup-none f page (life.Started p) n = n.ignored
startup-none f page life.First n = n.ignored

-- a message with no vector
abbrev pub IsPlain : Delivery → Type 0
IsPlain (sends.Fixed v level) = ⊥
IsPlain d = Unit {0}

answer-none : (f : What → Bool) (warm : Option ℕ) (m : Delivery) (p : Processor) → IsNone f → IsPlain m → f (answer warm m p) ≡ false
answer-none f warm (sends.Fixed v level) p n plain = absurd plain
answer-none f warm sends.Nmi p n plain = elim (runs p.life) as (λ b. f (cond b what.Nmi what.Asleep) ≡ false) [ true ↦ n.nmi | false ↦ n.asleep ]
answer-none f warm sends.Pass p n plain = elim (runs p.life) as (λ b. f (cond b what.Passed what.Asleep) ≡ false) [ true ↦ n.passed | false ↦ n.asleep ]
answer-none f warm sends.Init p n plain = init-none f warm (nat_le 16 p.version) p.life n p.version refl
answer-none f warm (sends.Startup page) p n plain = startup-none f page p.life n

-- no answer is a take
set-is-no-take : (v : ℕ) (a : Accept) → is_taken v (outcome_of_accept a) ≡ false
set-is-no-take v accept.Set = refl
set-is-no-take v accept.Merged = refl
set-is-no-take v accept.Illegal = refl

no-takes : (v : ℕ) → IsNone (is_taken v)
no-takes v = record { asleep = refl; nmi = refl; passed = refl; waiting = refl; ignored = refl; started = λ page. refl }

no-sets : IsNone is_set
no-sets = record { asleep = refl; nmi = refl; passed = refl; waiting = refl; ignored = refl; started = λ page. refl }

answer-no-take : (v : ℕ) (warm : Option ℕ) (m : Delivery) (p : Processor) → is_taken v (answer warm m p) ≡ false
answer-no-take v warm (sends.Fixed u level) p = elim (runs p.life) as (λ b. is_taken v (cond b (outcome_of_accept (acceptance u p.apic)) what.Asleep) ≡ false) [ true ↦ set-is-no-take v (acceptance u p.apic) | false ↦ refl ]
answer-no-take v warm sends.Nmi p = answer-none (is_taken v) warm sends.Nmi p (no-takes v) tt
answer-no-take v warm sends.Pass p = answer-none (is_taken v) warm sends.Pass p (no-takes v) tt
answer-no-take v warm sends.Init p = answer-none (is_taken v) warm sends.Init p (no-takes v) tt
answer-no-take v warm (sends.Startup page) p = answer-none (is_taken v) warm (sends.Startup page) p (no-takes v) tt

-- a test that no member passes counts none
count-none : {X Y : Type 0} (g : Y → Bool) (h : X → Y) (xs : List X) → ((x : X) → g (h x) ≡ false) → count_by g (map h xs) ≡ 0
count-none g h [] no' = refl
count-none {Y = Y} g h (x ∷ xs) no' =
    rw (sum_by-cons (λ (y : Y). cond {A = ℕ} (g y) 1 0) (h x) (map h xs))
    (omega (arith, ap (λ b. cond {A = ℕ} b 1 0) (no' x), count-none g h xs no'))

-- the Absent outcome of a message without a target counts none
pub takes-at : (v : ℕ) (warm : Option ℕ) (test : Processor → Bool) (dest : ℕ) (m : Delivery) (ps : List Processor) → count_by (λ (o : Outcome). is_taken v o.what) (outcomes_at warm test dest m ps) ≡ 0
takes-at v warm test dest m ps =
    unless (map (outcome_at warm m) (filter test ps)) (count-none (λ (o : Outcome). is_taken v o.what) (outcome_at warm m) (filter test ps) (answer-no-take v warm m)) where
      unless : (os : List Outcome) → count_by (λ (o : Outcome). is_taken v o.what) os ≡ 0 → count_by (λ (o : Outcome). is_taken v o.what) (unless_absent dest os) ≡ 0
      unless [] h = refl
      unless (o ∷ os) h = h

and-none : (i b : Bool) → b ≡ false → (i && b) ≡ false
and-none true b e = e
and-none false b e = refl

sets-unless : (d dest : ℕ) (os : List Outcome) → sets_at d (unless_absent dest os) ≡ sets_at d os
sets-unless d dest [] = elim (dest == d) as (λ b. sum (cond {A = ℕ} (b && false) 1 0 ∷ []) ≡ 0) [ true ↦ refl | false ↦ refl ]
sets-unless d dest (o ∷ os) = refl

plain-sets : (d : ℕ) (test : Processor → Bool) (dest : ℕ) (warm : Option ℕ) (m : Delivery) (ps : List Processor) → IsPlain m → sets_at d (outcomes_at warm test dest m ps) ≡ 0
plain-sets d test dest warm m ps plain =
    sets-unless d dest (map (outcome_at warm m) (filter test ps))
    ∙ count-none (λ (o : Outcome). (o.at == d) && is_set o.what) (outcome_at warm m) (filter test ps) (λ p. and-none (p.id == d) (is_set (answer warm m p)) (answer-none is_set warm m p no-sets plain))

-- one target of a fixed message: Set exactly where the vector is requested newly
one-target : (d v : ℕ) (level : Bool) (p : Processor) → cond {A = ℕ} ((p.id == d) && is_set (outcome_of_accept (acceptance v p.apic))) 1 0 + cond {A = ℕ} ((p.id == d) && has v p.apic.irr) 1 0 ≡ cond {A = ℕ} ((p.id == d) && has v (accepted v level p.apic).irr) 1 0
one-target d v level p = go (p.id == d) (nat_lt v 16) (has v p.apic.irr) refl where
  go : (i lt h : Bool) → has v p.apic.irr ≡ h
      → cond {A = ℕ} (i && is_set (outcome_of_accept (cond lt accept.Illegal (cond h accept.Merged accept.Set)))) 1 0 + cond {A = ℕ} (i && h) 1 0
      ≡ cond {A = ℕ} (i && has v (cond lt p.apic (record p.apic { irr = with_number v p.apic.irr; tmr = cond level (with_number v p.apic.tmr) (without v p.apic.tmr) })).irr) 1 0
  go false lt h e = refl
  go true true true e = rw e refl
  go true true false e = rw e refl
  go true false true e = rw (has-with_itself v p.apic.irr) refl
  go true false false e = rw (has-with_itself v p.apic.irr) refl

-- each processor after a fixed message: the Set outcomes are the requests that are new
fixed-requests : (d v : ℕ) (test : Processor → Bool) (level : Bool) (warm : Option ℕ) (ps : List Processor)
    → sets_at d (map (outcome_at warm (sends.Fixed v level)) (filter test ps)) + requests d v ps ≡ requests d v (map (delivered_to warm test (sends.Fixed v level)) ps)
fixed-requests d v test level warm [] = refl
fixed-requests d v test level warm (p ∷ ps) =
    let rest = fixed-requests d v test level warm ps in
    rw (sum_by-cons (λ (q : Processor). cond {A = ℕ} ((q.id == d) && has v q.apic.irr) 1 0) p ps, sum_by-cons (λ (q : Processor). cond {A = ℕ} ((q.id == d) && has v q.apic.irr) 1 0) (delivered_to warm test (sends.Fixed v level) p) (map (delivered_to warm test (sends.Fixed v level)) ps))
    (go (test p) (runs p.life) rest) where
      none : (i : Bool) → cond {A = ℕ} (i && false) 1 0 ≡ 0
      none true = refl
      none false = refl

      go : (t r : Bool) → sets_at d (map (outcome_at warm (sends.Fixed v level)) (filter test ps)) + requests d v ps ≡ requests d v (map (delivered_to warm test (sends.Fixed v level)) ps)
          → sets_at d (map (outcome_at warm (sends.Fixed v level)) (cond t (p ∷ filter test ps) (filter test ps))) + (cond {A = ℕ} ((p.id == d) && has v p.apic.irr) 1 0 + requests d v ps)
          ≡ cond {A = ℕ} (((cond t (cond (runs p.life) (record p { apic = accepted v level p.apic }) p) p).id == d) && has v (cond t (cond (runs p.life) (record p { apic = accepted v level p.apic }) p) p).apic.irr) 1 0 + requests d v (map (delivered_to warm test (sends.Fixed v level)) ps)
      go false r h = omega (arith, h)
      go true r h =
          rw (sum_by-cons (λ (o : Outcome). cond {A = ℕ} ((o.at == d) && is_set o.what) 1 0) (outcome_at warm (sends.Fixed v level) p) (map (outcome_at warm (sends.Fixed v level)) (filter test ps)))
          (elim (runs p.life) as (λ r. (cond {A = ℕ} ((p.id == d) && is_set (cond r (outcome_of_accept (acceptance v p.apic)) what.Asleep)) 1 0 + sets_at d (map (outcome_at warm (sends.Fixed v level)) (filter test ps))) + (cond {A = ℕ} ((p.id == d) && has v p.apic.irr) 1 0 + requests d v ps)
          ≡ cond {A = ℕ} (((cond r (record p { apic = accepted v level p.apic }) p).id == d) && has v (cond r (record p { apic = accepted v level p.apic }) p).apic.irr) 1 0 + requests d v (map (delivered_to warm test (sends.Fixed v level)) ps)) [
            | true ↦ omega (arith, one-target d v level p, h)
            | false ↦ omega (arith, none (p.id == d), h)
          ])

-- a message keeps what is requested of other vectors, and of all where it has none
other-accepted : (v u : ℕ) (level lt : Bool) (a : LocalApic) → v ≢ u → has v (cond lt a (record a { irr = with_number u a.irr; tmr = cond level (with_number u a.tmr) (without u a.tmr) })).irr ≡ has v a.irr
other-accepted v u level true a ne = refl
other-accepted v u level false a ne = has-with_other v u a.irr ne

other-received : (warm : Option ℕ) (v u : ℕ) (level : Bool) → v ≢ u → Keeps v (received warm (sends.Fixed u level))
other-received warm v u level ne = record {
  id = λ p. elim (runs p.life) as (λ b. (cond b (record p { apic = accepted u level p.apic }) p).id ≡ p.id) [ true ↦ refl | false ↦ refl ];
  irr = λ p. elim (runs p.life) as (λ b. has v (cond b (record p { apic = accepted u level p.apic }) p).apic.irr ≡ has v p.apic.irr) [ true ↦ other-accepted v u level (nat_lt u 16) p.apic ne | false ↦ refl ];
}

plain-received : (warm : Option ℕ) (v : ℕ) (m : Delivery) → IsPlain m → Keeps v (received warm m)
plain-received warm v (sends.Fixed u level) plain = absurd plain
plain-received warm v sends.Nmi plain = record { id = λ p. refl; irr = λ p. refl }
plain-received warm v sends.Pass plain = record { id = λ p. refl; irr = λ p. refl }
plain-received warm v sends.Init plain = record { id = λ p. refl; irr = λ p. refl }
plain-received warm v (sends.Startup page) plain = record { id = λ p. refl; irr = λ p. refl }

delivered-keeps : (v : ℕ) (test : Processor → Bool) (warm : Option ℕ) (m : Delivery) → Keeps v (received warm m) → Keeps v (delivered_to warm test m)
delivered-keeps v test warm m keeps = record {
  id = λ p. elim (test p) as (λ b. (cond b (received warm m p) p).id ≡ p.id) [ true ↦ keeps.id p | false ↦ refl ];
  irr = λ p. elim (test p) as (λ b. has v (cond b (received warm m p) p).apic.irr ≡ has v p.apic.irr) [ true ↦ keeps.irr p | false ↦ refl ];
}

pub plain-keeps : (d v : ℕ) (test : Processor → Bool) (warm : Option ℕ) (m : Delivery) (ps : List Processor) → IsPlain m → requests d v (map (delivered_to warm test m) ps) ≡ requests d v ps
plain-keeps d v test warm m ps plain = map-keeps d v (delivered_to warm test m) ps (delivered-keeps v test warm m (plain-received warm v m plain))

-- a message of this vector, where it has one
abbrev pub IsOf : ℕ → Delivery → Type 0
IsOf u (sends.Fixed w level) = w ≡ u
IsOf u m = Unit {0}

plain-counts : (d v u : ℕ) (test : Processor → Bool) (dest : ℕ) (warm : Option ℕ) (m : Delivery) (ps : List Processor) → IsPlain m → cond {A = ℕ} (u == v) (sets_at d (outcomes_at warm test dest m ps)) 0 + requests d v ps ≡ requests d v (map (delivered_to warm test m) ps)
plain-counts d v u test dest warm m ps plain =
    let kept = plain-keeps d v test warm m ps plain in
    rw (plain-sets d test dest warm m ps plain) (elim (u == v) as (λ b. cond {A = ℕ} b 0 0 + requests d v ps ≡ requests d v (map (delivered_to warm test m) ps)) [ true ↦ omega (arith, kept) | false ↦ omega (arith, kept) ])

-- the Set outcomes of the vector are its requests that are new
pub delivery-counts : (d v u : ℕ) (test : Processor → Bool) (dest : ℕ) (warm : Option ℕ) (m : Delivery) (ps : List Processor) → IsOf u m
    → cond {A = ℕ} (u == v) (sets_at d (outcomes_at warm test dest m ps)) 0 + requests d v ps ≡ requests d v (map (delivered_to warm test m) ps)
delivery-counts d v u test dest warm (sends.Fixed w level) ps is =
    elim (cases_eq w v) [
      | inl same ↦
          let set = sets-unless d dest (map (outcome_at warm (sends.Fixed w level)) (filter test ps)) in
          let counts = subst (λ (x : ℕ). sets_at d (map (outcome_at warm (sends.Fixed w level)) (filter test ps)) + requests d x ps ≡ requests d x (map (delivered_to warm test (sends.Fixed w level)) ps)) same (fixed-requests d w test level warm ps) in
          rw (eq-eqb u v (sym is ∙ same)) (omega (arith, set, counts))
      | inr ne ↦
          let kept = map-keeps d v (delivered_to warm test (sends.Fixed w level)) ps (delivered-keeps v test warm (sends.Fixed w level) (other-received warm v w level (λ e. ne (sym e)))) in
          rw (ne_eqb u v (λ e. ne (is ∙ e))) (omega (arith, kept))
    ]
delivery-counts d v u test dest warm sends.Nmi ps is = plain-counts d v u test dest warm sends.Nmi ps tt
delivery-counts d v u test dest warm sends.Pass ps is = plain-counts d v u test dest warm sends.Pass ps tt
delivery-counts d v u test dest warm sends.Init ps is = plain-counts d v u test dest warm sends.Init ps tt
delivery-counts d v u test dest warm (sends.Startup page) ps is = plain-counts d v u test dest warm (sends.Startup page) ps tt

-- with distinct ids a processor's requests are those of the processor with that id
none-above : (d v : ℕ) (ps : List Processor) → AllByRecursion (λ y. d < y) (map (λ p. p.id) ps) → requests d v ps ≡ 0
none-above d v [] all = refl
none-above d v (p ∷ ps) all =
    let off : (p.id == d) ≡ false = ne_eqb p.id d (λ (same : p.id ≡ d). absurd (omega (arith, same, all.0))) in
    requests-cons d v p ps ∙ ap₂ (λ (a b : ℕ). a + b) (ap (λ b. cond {A = ℕ} (b && has v p.apic.irr) 1 0) off) (none-above d v ps all.1)

pub requests-of_one : (d v : ℕ) (ps : List Processor) → IsAscending (map (λ p. p.id) ps) → requests d v ps ≡ cond {A = ℕ} (is_requested_by v (processor_of d ps)) 1 0
requests-of_one d v [] up = refl
requests-of_one d v (p ∷ ps) up = requests-cons d v p ps ∙ go (p.id == d) refl (requests-of_one d v ps up.1) where
  go : (b : Bool) → (p.id == d) ≡ b → requests d v ps ≡ cond {A = ℕ} (is_requested_by v (processor_of d ps)) 1 0
      → cond {A = ℕ} (b && has v p.apic.irr) 1 0 + requests d v ps ≡ cond {A = ℕ} (is_requested_by v (cond b (Some p) (processor_of d ps))) 1 0
  go true e rest =
      let same : p.id ≡ d = eqb-true p.id d e in
      let none = none-above d v ps (subst (λ (i : ℕ). AllByRecursion (λ y. i < y) (map (λ (q : Processor). q.id) ps)) same up.0) in
      omega (arith, none)
  go false e rest = omega (arith, rest)
