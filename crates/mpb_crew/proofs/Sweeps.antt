-- What an I/O APIC's own entries tell: whether it has swept, and what it collected.
use Rattle.std.proofs.Common.{◌≡◌, ◌⊎◌, ◌==◌, ◌&&◌, ◌||◌, ℕ, zero, suc, ◌+◌, ◌<◌, Bool, true, false, cond, List, [], ◌∷◌, length, refl, sym, ap, ◌∙◌, arith, Some, slice_get, fold, inl, inr}
use Rattle.std.specs.Int.{bit_at}
use Rattle.std.proofs.lemmas.Bool.{eqb-false}
use Rattle.std.proofs.lemmas.List.Sums.{sum_by-cons}
use Rattle.mpb_spec.specs.declared.agent.Agent.{Agent}
use Rattle.mpb_spec.specs.declared.agent.Agent.TheVariants.{Cpu, Io, Dev}
use Rattle.mpb_spec.specs.declared.agent.Op.{Op}
use Rattle.mpb_spec.specs.declared.agent.Op.TheVariants as op
use Rattle.mpb_spec.specs.declared.config.DevWord.{DevWord}
use Rattle.mpb_spec.specs.declared.entry.Entry.{Entry}
use Rattle.mpb_spec.specs.State.{Place, BoardState}
use Rattle.mpb_spec.specs.Steps.{after}
use Rattle.mpb_spec.specs.Plan.{Plan, first_place, first_places, initial_state_of}
use Rattle.mpb_spec.specs.Configs.{IsConfig}
use Rattle.mpb_spec.specs.May.{IsQuiescent}
use Rattle.mpb_spec.specs.Journal.{IsLegal, after_entry, final_state_of}
use Rattle.mpb_laws.proofs.PartsStay.{places_stay}
use Rattle.mpb_start_laws.proofs.Lists.{read_here}
use Rattle.mpb_start_laws.proofs.Resting.{places_rest}
use Rattle.mpb_robin.specs.Account.{collects, collected_count}
use Rattle.mpb_robin.proofs.Places.{at-other, is-there}
use Rattle.mpb_robin.proofs.Frames.{sweeps, cpu-sweeps, dev-sweeps, collect-sweeps, send-sweeps}
use Rattle.mpb_robin.proofs.StepsKeep.{swept-before}
use Rattle.mpb_spec.specs.Agents.{is_agent, entries_of}
use Rattle.mpb_crew.specs.Workers.{is_sweep, has_swept}

-- ---- whether it has swept

-- the I/O APIC at a place has swept
record HasSwept (a : ℕ) (s : BoardState) : Type 0 where
  place : Place
  at : slice_get s.places a ≡ Some place
  swept : place.swept ≡ true

before : (a : ℕ) (s t : BoardState) → HasSwept a t → sweeps t ≡ sweeps s → HasSwept a s
before a s t h same = let q = swept-before s t a h.place same h.at h.swept in record { place = q.0; at = q.1; swept = q.2 }

its-own : (a b : ℕ) (s : BoardState) → HasSwept a (after (Io b) op.Sweep s) → (t : Bool) → (b == a) ≡ t → ((t && true) ≡ true) ⊎ HasSwept a s
its-own a b s h true w = inl refl
its-own a b s h false w = inr (record {
  place = h.place;
  at = sym (at-other (λ p. record p { swept = true }) b a s.places (λ same. eqb-false b a w (sym same))) ∙ h.at;
  swept = h.swept;
})

step : (a : ℕ) (g : Agent) (o : Op) (s : BoardState) → HasSwept a (after g o s) → ((is_agent g (Io a) && is_sweep o) ≡ true) ⊎ HasSwept a s
step a (Cpu id) o s h = inr (before a s (after (Cpu id) o s) h (cpu-sweeps id o s))
step a (Dev d) o s h = inr (before a s (after (Dev d) o s) h (dev-sweeps d o s))
step a (Io b) (op.Collect pins) s h = inr (before a s (after (Io b) (op.Collect pins) s) h (collect-sweeps b pins s))
step a (Io b) (op.Send pin) s h = inr (before a s (after (Io b) (op.Send pin) s) h (send-sweeps b pin s))
step a (Io b) op.Sweep s h = its-own a b s h (b == a) refl
step a (Io b) o s h = inr h

or-true : (b : Bool) → (b || true) ≡ true
or-true true = refl
or-true false = refl

later : (b : Bool) (x : Entry) (xs : List Entry) → has_swept xs ≡ true → has_swept (cond b (x ∷ xs) xs) ≡ true
later true x xs e = ap (λ t. is_sweep x.op || t) e ∙ or-true (is_sweep x.op)
later false x xs e = e

this : (b : Bool) (x : Entry) (xs : List Entry) → (b && is_sweep x.op) ≡ true → has_swept (cond b (x ∷ xs) xs) ≡ true
this true x xs e = ap (λ t. t || has_swept xs) e
this false x xs e = cc

run : (a : ℕ) (s : BoardState) (xs : List Entry) → HasSwept a (fold after_entry s xs) → (has_swept (entries_of (Io a) xs) ≡ true) ⊎ HasSwept a s
run a s [] h = inr h
run a s (x ∷ xs) h = elim (run a (after_entry s x) xs h) [
  | inl tells ↦ inl (later (is_agent x.agent (Io a)) x (entries_of (Io a) xs) tells)
  | inr now ↦ elim (step a x.agent x.op s now) [ inl tells ↦ inl (this (is_agent x.agent (Io a)) x (entries_of (Io a) xs) tells) | inr past ↦ inr past ]
]

-- at first none has
fresh : (ds : List (List DevWord)) (b : ℕ) (ids : List ℕ) (a : ℕ) (p : Place) → slice_get (first_places ds b ids) a ≡ Some p → p.swept ≡ true → ⊥
fresh ds b [] a p e w = cc
fresh ds b (id ∷ ids) zero p e w = let same : first_place ds b id ≡ p = cc in let off : false ≡ true = ap (λ (q : Place). q.swept) same ∙ w in cc
fresh ds b (id ∷ ids) (suc a) p e w = fresh ds (b + 1) ids a p e w

-- at a place that has swept, the I/O APIC's entries have a sweep
sweep-told : (c : Plan) (journal : List Entry) (a : ℕ) (p : Place) → slice_get (final_state_of c journal).places a ≡ Some p → p.swept ≡ true → has_swept (entries_of (Io a) journal) ≡ true
sweep-told c journal a p at swept = elim (run a (initial_state_of c) journal (record { place = p; at = at; swept = swept })) [
  | inl tells ↦ tells
  | inr first ↦ absurd (fresh c.devices 0 c.ios a first.place first.at first.swept)
]

-- where no agent may step, each I/O APIC has swept
pub all_swept : (c : Plan) (journal : List Entry) (a : ℕ) → IsConfig c → IsLegal c journal → a < length c.ios → IsQuiescent (final_state_of c journal) → has_swept (entries_of (Io a) journal) ≡ true
all_swept c journal a config legal lt quiet =
    let p = is-there a (final_state_of c journal).places (omega (arith, lt, places_stay c journal)) in
    let rest = places_rest c journal config (record { legal = legal; quiescent = quiet }) p.0 (read_here (final_state_of c journal).places a p.0 p.1) in
    sweep-told c journal a p.0 p.1 rest.swept

-- ---- what it collected

not-its : (a pin : ℕ) (g : Agent) (o : Op) → is_agent g (Io a) ≡ false → collects a pin g o ≡ false
not-its a pin (Io b) (op.Collect pins) e = ap (λ t. t && (bit_at pins pin == 1)) e
not-its a pin (Io b) o e = refl
not-its a pin (Cpu id) o e = refl
not-its a pin (Dev d) o e = refl

count-cons : (a pin : ℕ) (x : Entry) (xs : List Entry) → collected_count a pin (x ∷ xs) ≡ cond (collects a pin x.agent x.op) 1 0 + collected_count a pin xs
count-cons a pin x xs = sum_by-cons (λ (y : Entry). cond {A = ℕ} (collects a pin y.agent y.op) 1 0) x xs

-- the collections of an I/O APIC are among its own entries
pub own_collections : (a pin : ℕ) (xs : List Entry) → collected_count a pin (entries_of (Io a) xs) ≡ collected_count a pin xs
own_collections a pin [] = refl
own_collections a pin (x ∷ xs) = go (is_agent x.agent (Io a)) refl (own_collections a pin xs) where
  go : (b : Bool) → is_agent x.agent (Io a) ≡ b → collected_count a pin (entries_of (Io a) xs) ≡ collected_count a pin xs
      → collected_count a pin (cond b (x ∷ entries_of (Io a) xs) (entries_of (Io a) xs)) ≡ collected_count a pin (x ∷ xs)
  go true w rest = omega (arith, count-cons a pin x (entries_of (Io a) xs), count-cons a pin x xs, rest)
  go false w rest =
      let none : cond {A = ℕ} (collects a pin x.agent x.op) 1 0 ≡ 0 = ap (λ (t : Bool). cond {A = ℕ} t 1 0) (not-its a pin x.agent x.op w) in
      omega (arith, count-cons a pin x xs, rest, none)
