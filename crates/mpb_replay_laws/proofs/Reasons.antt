-- An entry is a step, or there is one first reason why it is none; so entries are legal, or one is the first that is bad.
use Rattle.std.proofs.Common.{◌≡◌, ◌≢◌, ◌⊎◌, inl, inr, ℕ, zero, suc, ◌<◌, ◌≤◌, Bool, true, false, List, [], ◌∷◌, ◌++◌, take, length, refl, sym, ap, ◌∙◌, subst, arith, Option, Some, None, slice_get, true≢false}
use Rattle.std.proofs.lemmas.Bool.{cases_lt}
use Rattle.mpb_spec.specs.declared.agent.Agent.{Agent}
use Rattle.mpb_spec.specs.declared.agent.Offer.{Offer}
use Rattle.mpb_spec.specs.declared.agent.Op.{Op}
use Rattle.mpb_spec.specs.declared.entry.Entry.{Entry}
use Rattle.mpb_spec.specs.State.{BoardState}
use Rattle.mpb_spec.specs.Steps.{next_op}
use Rattle.mpb_spec.specs.Outcomes.{outcomes_of}
use Rattle.mpb_spec.specs.Plan.{Plan}
use Rattle.mpb_spec.specs.Journal.{IsStep, IsLegal, final_state_of}
use Rattle.mpb_laws.proofs.JournalLemmas.{goes_on, next_step}
use Rattle.mpb_replay_laws.specs.declared.verdict.BadWhy.{BadWhy}
use Rattle.mpb_replay_laws.specs.declared.verdict.BadWhy.TheVariants.{NoAgent, Waits, Program, Outcome}
use Rattle.mpb_replay_laws.specs.Wrong.{has_agent, has_to_wait, offer_for, IsWrong, IsFirstWrong, IsFirstBad, reason_number}
use Rattle.mpb_replay_laws.proofs.Equality.{same_op, same_outcomes}
use Rattle.mpb_replay_laws.proofs.Offers.{absent_none, other_op, waits_none, wrong_none}

apart : (b : Bool) → b ≡ true → b ≡ false → ⊥
apart b t f = true≢false (sym t ∙ f)

-- ---- each reason as the first that holds

pub no_agent : (c : Plan) (s : BoardState) (x : Entry) → has_agent c x.agent ≡ false → IsFirstWrong NoAgent c s x
no_agent c s x e = record { holds = e; first = λ w lt. absurd (omega (arith, lt)) }

pub waits : (c : Plan) (s : BoardState) (x : Entry) → has_agent c x.agent ≡ true → has_to_wait s x.agent x.op ≡ true → IsFirstWrong Waits c s x
waits c s x agent e = record { holds = e; first = first } where
  first : (w : BadWhy) → reason_number w < 1 → ¬ IsWrong w c s x
  first NoAgent lt h = apart (has_agent c x.agent) agent h
  first Waits lt h = absurd (omega (arith, lt))
  first Program lt h = absurd (omega (arith, lt))
  first Outcome lt h = absurd (omega (arith, lt))

pub program : (c : Plan) (s : BoardState) (x : Entry) → has_agent c x.agent ≡ true → has_to_wait s x.agent x.op ≡ false → next_op s x.agent (offer_for x.agent x.op) ≢ Some x.op → IsFirstWrong Program c s x
program c s x agent ready e = record { holds = other_op s x.agent x.op e; first = first } where
  first : (w : BadWhy) → reason_number w < 2 → ¬ IsWrong w c s x
  first NoAgent lt h = apart (has_agent c x.agent) agent h
  first Waits lt h = apart (has_to_wait s x.agent x.op) h ready
  first Program lt h = absurd (omega (arith, lt))
  first Outcome lt h = absurd (omega (arith, lt))

pub outcome : (c : Plan) (s : BoardState) (x : Entry) → has_agent c x.agent ≡ true → has_to_wait s x.agent x.op ≡ false → next_op s x.agent (offer_for x.agent x.op) ≡ Some x.op → x.outcomes.items ≢ outcomes_of x.agent x.op s → IsFirstWrong Outcome c s x
outcome c s x agent ready may e = record { holds = e; first = first } where
  first : (w : BadWhy) → reason_number w < 3 → ¬ IsWrong w c s x
  first NoAgent lt h = apart (has_agent c x.agent) agent h
  first Waits lt h = apart (has_to_wait s x.agent x.op) h ready
  first Program lt h = h (offer_for x.agent x.op) may
  first Outcome lt h = absurd (omega (arith, lt))

-- ---- what an agent that may step with the offer tells

none-some : (o : Op) (r : Option Op) → r ≡ None → r ≡ Some o → ⊥
none-some o r e f = (let t : None ≡ Some o = sym e ∙ f in cc)

there : (c : Plan) (journal : List Entry) (g : Agent) (f : Offer) (o : Op) → next_op (final_state_of c journal) g f ≡ Some o → has_agent c g ≡ true
there c journal g f o e = go (has_agent c g) refl where
  go : (b : Bool) → has_agent c g ≡ b → b ≡ true
  go true w = refl
  go false w = absurd (none-some o (next_op (final_state_of c journal) g f) (absent_none c journal g w f) e)

ready : (s : BoardState) (g : Agent) (o p : Op) → next_op s g (offer_for g o) ≡ Some p → has_to_wait s g o ≡ false
ready s g o p e = go (has_to_wait s g o) refl where
  go : (b : Bool) → has_to_wait s g o ≡ b → b ≡ false
  go false w = refl
  go true w = absurd (none-some p (next_op s g (offer_for g o)) (waits_none s g o w) e)

-- it makes none, though it is there and needn't wait
pub refused : (c : Plan) (s : BoardState) (x : Entry) → has_agent c x.agent ≡ true → has_to_wait s x.agent x.op ≡ false → next_op s x.agent (offer_for x.agent x.op) ≡ None → IsFirstWrong Program c s x
refused c s x agent ready' none = program c s x agent ready' (λ e. none-some x.op (next_op s x.agent (offer_for x.agent x.op)) none e)

-- it makes another op, or that op with other outcomes
pub other_made : (c : Plan) (journal : List Entry) (x : Entry) (o : Op) → next_op (final_state_of c journal) x.agent (offer_for x.agent x.op) ≡ Some o → o ≢ x.op → IsFirstWrong Program c (final_state_of c journal) x
other_made c journal x o e ne =
    program c (final_state_of c journal) x (there c journal x.agent (offer_for x.agent x.op) o e) (ready (final_state_of c journal) x.agent x.op o e) (λ f. ne (same-op o x.op (next_op (final_state_of c journal) x.agent (offer_for x.agent x.op)) e f)) where
      same-op : (a b : Op) (r : Option Op) → r ≡ Some a → r ≡ Some b → a ≡ b
      same-op a b r e f = cc

pub other_outcomes : (c : Plan) (journal : List Entry) (x : Entry) (o : Op) → next_op (final_state_of c journal) x.agent (offer_for x.agent x.op) ≡ Some o → o ≡ x.op → x.outcomes.items ≢ outcomes_of x.agent x.op (final_state_of c journal) → IsFirstWrong Outcome c (final_state_of c journal) x
other_outcomes c journal x o e same ne =
    outcome c (final_state_of c journal) x (there c journal x.agent (offer_for x.agent x.op) o e) (ready (final_state_of c journal) x.agent x.op o e) (e ∙ ap Some same) ne

-- ---- one of them, or a step

abbrev StepOrWrong : Plan → BoardState → Entry → Type 0
StepOrWrong c s x = IsStep s x ⊎ ((why : BadWhy) × IsFirstWrong why c s x)

some-op : (r : Option Op) (o : Op) → (r ≡ Some o) ⊎ (r ≢ Some o)
some-op None o = inr (λ e. cc)
some-op (Some p) o = elim (same_op p o) [ inl e ↦ inl (ap Some e) | inr ne ↦ inr (λ e. ne (cc)) ]

pub step_or_wrong : (c : Plan) (s : BoardState) (x : Entry) → StepOrWrong c s x
step_or_wrong c s x = agent (has_agent c x.agent) refl where
  made : has_agent c x.agent ≡ true → has_to_wait s x.agent x.op ≡ false → next_op s x.agent (offer_for x.agent x.op) ≡ Some x.op → StepOrWrong c s x
  made there ready may = elim (same_outcomes x.outcomes.items (outcomes_of x.agent x.op s)) [
    | inl e ↦ inl (record { offer = offer_for x.agent x.op; may = may; outcomes = e })
    | inr ne ↦ inr (Outcome, outcome c s x there ready may ne)
  ]

  next : has_agent c x.agent ≡ true → has_to_wait s x.agent x.op ≡ false → StepOrWrong c s x
  next there ready = elim (some-op (next_op s x.agent (offer_for x.agent x.op)) x.op) [ inl may ↦ made there ready may | inr ne ↦ inr (Program, program c s x there ready ne) ]

  wait : has_agent c x.agent ≡ true → (b : Bool) → has_to_wait s x.agent x.op ≡ b → StepOrWrong c s x
  wait there true e = inr (Waits, waits c s x there e)
  wait there false e = next there e

  agent : (b : Bool) → has_agent c x.agent ≡ b → StepOrWrong c s x
  agent false e = inr (NoAgent, no_agent c s x e)
  agent true e = wait e (has_to_wait s x.agent x.op) refl

-- ---- entries

-- the entries from the n-th on
record Splits (entries : List Entry) (n : ℕ) (x : Entry) : Type 0 where
  rest : List Entry
  all : entries ≡ take n entries ++ x ∷ rest

splits : (entries : List Entry) (n : ℕ) (x : Entry) → slice_get entries n ≡ Some x → Splits entries n x
splits [] n x e = cc
splits (y ∷ ys) zero x e = (let same : y ≡ x = cc in record { rest = ys; all = ap (λ (z : Entry). z ∷ ys) same })
splits (y ∷ ys) (suc n) x e = (let h = splits ys n x e in record { rest = h.rest; all = ap (λ (l : List Entry). y ∷ l) h.all })

-- entries are no journal where one of them is bad
pub bad_is_not_legal : (c : Plan) (entries : List Entry) (n : ℕ) (why : BadWhy) → IsFirstBad c entries n why → IsLegal c entries → ⊥
bad_is_not_legal c entries n why bad legal =
    let h = splits entries n bad.entry bad.there in
    let whole : IsLegal c (take n entries ++ bad.entry ∷ h.rest) = subst (λ (l : List Entry). IsLegal c l) h.all legal in
    wrong_none c (take n entries) bad.entry why bad.wrong.holds (next_step c (take n entries) bad.entry h.rest whole)

-- so none before it is bad too
taken-twice : {X : Type 0} (m n : ℕ) (xs : List X) → m ≤ n → take m (take n xs) ≡ take m xs
taken-twice zero n xs le = refl
taken-twice (suc m) zero xs le = absurd (omega (arith, le))
taken-twice (suc m) (suc n) [] le = refl
taken-twice {X = X} (suc m) (suc n) (x ∷ xs) le = ap (λ (l : List X). x ∷ l) (taken-twice m n xs (omega (arith, le)))

read-taken : {X : Type 0} (m n : ℕ) (xs : List X) → m < n → slice_get (take n xs) m ≡ slice_get xs m
read-taken m zero xs lt = absurd (omega (arith, lt))
read-taken m (suc n) [] lt = refl
read-taken zero (suc n) (x ∷ xs) lt = refl
read-taken (suc m) (suc n) (x ∷ xs) lt = read-taken m n xs (omega (arith, lt))

pub none_before_bad : (c : Plan) (entries : List Entry) (m n : ℕ) (v w : BadWhy) → IsFirstBad c entries m v → IsFirstBad c entries n w → m < n → ⊥
none_before_bad c entries m n v w one two lt =
    let same : take m (take n entries) ≡ take m entries = taken-twice m n entries (omega (arith, lt)) in
    bad_is_not_legal c (take n entries) m v (record {
      legal = subst (λ (l : List Entry). IsLegal c l) (sym same) one.legal;
      entry = one.entry;
      there = read-taken m n entries lt ∙ one.there;
      wrong = subst (λ (l : List Entry). IsFirstWrong v c (final_state_of c l) one.entry) (sym same) one.wrong;
    }) two.legal

-- entries are a journal, or one of them is the first that is bad
abbrev LegalOrBad : Plan → List Entry → Type 0
LegalOrBad c entries = IsLegal c entries ⊎ ((n : ℕ) × (why : BadWhy) × IsFirstBad c entries n why)

taken-all : {X : Type 0} (xs ys : List X) → take (length xs) (xs ++ ys) ≡ xs
taken-all [] ys = refl
taken-all {X = X} (x ∷ xs) ys = ap (λ (l : List X). x ∷ l) (taken-all xs ys)

read-next : {X : Type 0} (xs : List X) (y : X) (ys : List X) → slice_get (xs ++ y ∷ ys) (length xs) ≡ Some y
read-next [] y ys = refl
read-next (x ∷ xs) y ys = read-next xs y ys

pub bad_after : (c : Plan) (seen : List Entry) (x : Entry) (rest : List Entry) (why : BadWhy) → IsLegal c seen → IsFirstWrong why c (final_state_of c seen) x → IsFirstBad c (seen ++ x ∷ rest) (length seen) why
bad_after c seen x rest why legal wrong =
    let same : take (length seen) (seen ++ x ∷ rest) ≡ seen = taken-all seen (x ∷ rest) in
    record {
      legal = subst (λ (l : List Entry). IsLegal c l) (sym same) legal;
      entry = x;
      there = read-next seen x rest;
      wrong = subst (λ (l : List Entry). IsFirstWrong why c (final_state_of c l) x) (sym same) wrong;
    }

append-one : {X : Type 0} (xs : List X) (y : X) (ys : List X) → (xs ++ y ∷ []) ++ ys ≡ xs ++ y ∷ ys
append-one [] y ys = refl
append-one {X = X} (x ∷ xs) y ys = ap (λ (l : List X). x ∷ l) (append-one xs y ys)

append-none : {X : Type 0} (xs : List X) → xs ++ [] ≡ xs
append-none [] = refl
append-none {X = X} (x ∷ xs) = ap (λ (l : List X). x ∷ l) (append-none xs)

from-seen : (c : Plan) (seen rest : List Entry) → IsLegal c seen → LegalOrBad c (seen ++ rest)
from-seen c seen [] legal = inl (subst (λ (l : List Entry). IsLegal c l) (sym (append-none seen)) legal)
from-seen c seen (x ∷ rest) legal = go (step_or_wrong c (final_state_of c seen) x) (λ l. from-seen c (seen ++ x ∷ []) rest l) where
  go : StepOrWrong c (final_state_of c seen) x → (IsLegal c (seen ++ x ∷ []) → LegalOrBad c ((seen ++ x ∷ []) ++ rest)) → LegalOrBad c (seen ++ x ∷ rest)
  go (inl step) on = subst (λ (l : List Entry). LegalOrBad c l) (append-one seen x rest) (on (goes_on c seen x legal step))
  go (inr bad) on = inr (length seen, bad.0, bad_after c seen x rest bad.0 legal bad.1)

pub legal_or_bad : (c : Plan) (entries : List Entry) → LegalOrBad c entries
legal_or_bad c entries = from-seen c [] entries tt

-- one entry has one first reason
reasons : (v w : BadWhy) → reason_number v ≡ reason_number w → v ≡ w
reasons NoAgent NoAgent e = refl
reasons Waits Waits e = refl
reasons Program Program e = refl
reasons Outcome Outcome e = refl
reasons NoAgent Waits e = absurd (omega (arith, e))
reasons NoAgent Program e = absurd (omega (arith, e))
reasons NoAgent Outcome e = absurd (omega (arith, e))
reasons Waits NoAgent e = absurd (omega (arith, e))
reasons Waits Program e = absurd (omega (arith, e))
reasons Waits Outcome e = absurd (omega (arith, e))
reasons Program NoAgent e = absurd (omega (arith, e))
reasons Program Waits e = absurd (omega (arith, e))
reasons Program Outcome e = absurd (omega (arith, e))
reasons Outcome NoAgent e = absurd (omega (arith, e))
reasons Outcome Waits e = absurd (omega (arith, e))
reasons Outcome Program e = absurd (omega (arith, e))

one-reason : (c : Plan) (s : BoardState) (x : Entry) (v w : BadWhy) → IsFirstWrong v c s x → IsFirstWrong w c s x → v ≡ w
one-reason c s x v w one two = reasons v w (elim (cases_lt (reason_number v) (reason_number w)) [
  | inl lt ↦ absurd (two.first v lt one.holds)
  | inr le ↦ elim (cases_lt (reason_number w) (reason_number v)) [ inl lt ↦ absurd (one.first w lt two.holds) | inr ge ↦ omega (arith, le, ge) ]
])

same-read : (x y : Entry) (r : Option Entry) → r ≡ Some x → r ≡ Some y → x ≡ y
same-read x y r e f = cc

-- entries have one first bad entry
pub one_bad : (c : Plan) (entries : List Entry) (m n : ℕ) (v w : BadWhy) → IsFirstBad c entries m v → IsFirstBad c entries n w → (m ≡ n) × (v ≡ w)
one_bad c entries m n v w one two = elim (cases_lt m n) [
  | inl lt ↦ absurd (none_before_bad c entries m n v w one two lt)
  | inr le ↦ elim (cases_lt n m) [
    | inl lt ↦ absurd (none_before_bad c entries n m w v two one lt)
    | inr ge ↦
        let same : n ≡ m = omega (arith, le, ge) in
        let there : slice_get entries m ≡ Some two.entry = subst (λ (k : ℕ). slice_get entries k ≡ Some two.entry) same two.there in
        let entry : two.entry ≡ one.entry = same-read two.entry one.entry (slice_get entries m) there one.there in
        let here : IsFirstWrong w c (final_state_of c (take m entries)) two.entry = subst (λ (k : ℕ). IsFirstWrong w c (final_state_of c (take k entries)) two.entry) same two.wrong in
        (sym same, one-reason c (final_state_of c (take m entries)) one.entry v w one.wrong (subst (λ (x : Entry). IsFirstWrong w c (final_state_of c (take m entries)) x) entry here))
  ]
]
