-- One entry, made again on a board.
use Rattle.std.proofs.Common.{◌≡◌, ◌↔◌, ◌+◌, ◌<◌, arith, get_or, take, ℕ, Bool, true, false, List, [], ◌∷◌, ◌++◌, length, refl, sym, ap, ◌∙◌, subst, Option, Some, None, IsTrue, IfNone, IfSome, MatchBool}
use Rattle.std.specs.Bool.{Decides}
use Rattle.std.proofs.lemmas.List.{length-take, take_more}
use Rattle.mpb_spec.specs.declared.agent.Agent.{Agent}
use Rattle.mpb_spec.specs.declared.agent.Offer.{Offer}
use Rattle.mpb_spec.specs.declared.agent.Op.{Op}
use Rattle.mpb_spec.specs.declared.entry.Entry.{Entry}
use Rattle.mpb_spec.specs.State.{BoardState}
use Rattle.mpb_spec.specs.Steps.{next_op}
use Rattle.mpb_spec.specs.Outcomes.{outcomes_of}
use Rattle.mpb_spec.specs.May.{MayStep}
use Rattle.mpb_spec.specs.Plan.{Plan}
use Rattle.mpb_spec.specs.Journal.{IsLegal, final_state_of}
use Rattle.mpb_board.specs.BoardView.{BoardView, state_of, Grows}
use Rattle.mpb_replay_laws.specs.declared.verdict.BadWhy.{BadWhy}
use Rattle.mpb_replay_laws.specs.declared.verdict.BadWhy.TheVariants.{NoAgent, Waits, Program, Outcome as OutcomeWhy}
use Rattle.mpb_spec.proofs.StateLemmas.{got_at}
use Rattle.mpb_replay_laws.specs.Wrong.{offer_for, IsFirstWrong, IsFirstBad}
use Rattle.mpb_replay_laws.proofs.Reasons.{other_made, other_outcomes}
use Rattle.mpb_replay.specs.declared.entries.BadEntry.{BadEntry}
use Rattle.mpb_replay.specs.Compared.{IsCompared, IsMadeOrBad}

pub match_of : (b : Bool) (P : Type 0) → Decides b P → MatchBool b P (P → ⊥)
match_of true P d = d.0 refl
match_of false P d = λ p. (let t = d.1 p in cc)

-- an agent that can't step makes nothing
pub none_made : (s : BoardState) (g : Agent) (f h : Offer) (b : Bool) → IsTrue b ↔ MayStep s g f → b ≡ false → f ≡ h → next_op s g h ≡ None
none_made s g f h b may no' e = subst (λ (k : Offer). next_op s g k ≡ None) e (go (next_op s g f) refl) where
  go : (r : Option Op) → next_op s g f ≡ r → r ≡ None
  go None w = refl
  go (Some o) w = (let t : b ≡ true = may.1 (o, w) in let u : true ≡ false = sym t ∙ no' in cc)

-- an entry is its agent, its op and its outcomes
same-entry : (x y : Entry) → x.agent ≡ y.agent → x.op ≡ y.op → x.outcomes.items ≡ y.outcomes.items → x ≡ y
same-entry x y a o i = λ k. record { agent = a k; op = o k; outcomes = record { items = i k } }

record Facts (old new : BoardView) (x made : Entry) (f : Offer) (number : ℕ) : Type 0 where
  legal : IsLegal old.plan old.journal
  grows : Grows old x.agent f made new
  offer : f ≡ offer_for x.agent x.op
  count : number ≡ length old.journal

next-is : (old new : BoardView) (x made : Entry) (f : Offer) (number : ℕ) → Facts old new x made f number → next_op (state_of old) x.agent (offer_for x.agent x.op) ≡ Some made.op
next-is old new x made f number h = subst (λ (k : Offer). next_op (state_of old) x.agent k ≡ Some made.op) h.offer h.grows.op

outcomes-are : (old new : BoardView) (x made : Entry) (f : Offer) (number : ℕ) → Facts old new x made f number → made.op ≡ x.op → made.outcomes.items ≡ outcomes_of x.agent x.op (state_of old)
outcomes-are old new x made f number h e =
    h.grows.step.outcomes ∙ ap (λ (g : Agent). outcomes_of g made.op (state_of old)) h.grows.agent ∙ ap (λ (o : Op). outcomes_of x.agent o (state_of old)) e

bad-at : (old new : BoardView) (x : Entry) (number : ℕ) (w : BadWhy) (n : Option BadEntry) → IsLegal old.plan old.journal → number ≡ length old.journal → n ≡ Some (record { entry = number; why = w }) → IsFirstWrong w old.plan (state_of old) x → IsMadeOrBad old new x n
bad-at old new x number w n legal count e wrong = subst (λ (r : Option BadEntry). IsMadeOrBad old new x r) (sym e) (legal, count, wrong)

go-on : (old new : BoardView) (x made : Entry) (f : Offer) (number : ℕ) (r : Option BadWhy) (n : Option BadEntry) → Facts old new x made f number → IsCompared x made r
    → IfNone r (n ≡ None) → IfSome r (λ w. n ≡ Some (record { entry = number; why = w })) → IsMadeOrBad old new x n
go-on old new x made f number None n h is none some =
    let same : made ≡ x = same-entry made x h.grows.agent is.0 (sym is.1) in
    subst (λ (r : Option BadEntry). IsMadeOrBad old new x r) (sym none) (h.grows.journal ∙ ap (λ (y : Entry). old.journal ++ y ∷ []) same)
go-on old new x made f number (Some NoAgent) n h is none some = absurd is
go-on old new x made f number (Some Waits) n h is none some = absurd is
go-on old new x made f number (Some Program) n h is none some =
    bad-at old new x number Program n h.legal h.count some (other_made old.plan old.journal x made.op (next-is old new x made f number h) is)
go-on old new x made f number (Some OutcomeWhy) n h is none some =
    bad-at old new x number OutcomeWhy n h.legal h.count some
    (other_outcomes old.plan old.journal x made.op (next-is old new x made f number h) is.0 (λ e. is.1 (e ∙ sym (outcomes-are old new x made f number h is.0))))

pub made_or_bad : (old new : BoardView) (x made : Entry) (f : Offer) (number : ℕ) (r : Option BadWhy) (n : Option BadEntry) → IsLegal old.plan old.journal → Grows old x.agent f made new → f ≡ offer_for x.agent x.op → number ≡ length old.journal
    → IsCompared x made r → IfNone r (n ≡ None) → IfSome r (λ w. n ≡ Some (record { entry = number; why = w })) → IsMadeOrBad old new x n
made_or_bad old new x made f number r n legal grows offer count is none some = go-on old new x made f number r n (record { legal = legal; grows = grows; offer = offer; count = count }) is none some

-- ---- all entries

-- one more entry was made
pub played_more : (entries old new : List Entry) (i : ℕ) (x : Entry) → i < length entries → x ≡ get_or entries i x → old ≡ take i entries → new ≡ old ++ x ∷ [] → new ≡ take (i + 1) entries
played_more entries old new i x lt is seen next = next ∙ ap (λ (l : List Entry). l ++ x ∷ []) seen ∙ ap (λ (y : Entry). take i entries ++ y ∷ []) is ∙ sym (take_more entries i x lt)

-- one is no step
pub bad_in : (c : Plan) (entries seen : List Entry) (i : ℕ) (x : Entry) (b : BadEntry) → i < length entries → x ≡ get_or entries i x → seen ≡ take i entries → IsLegal c seen → b.entry ≡ length seen → IsFirstWrong b.why c (final_state_of c seen) x → IsFirstBad c entries b.entry b.why
bad_in c entries seen i x b lt is same legal count wrong =
    let n : i ≡ b.entry = omega (arith, count, ap (λ (l : List Entry). length l) same, length-take i entries, lt) in
    subst (λ (k : ℕ). IsFirstBad c entries k b.why) n (record {
      legal = subst (λ (l : List Entry). IsLegal c l) same legal;
      entry = x;
      there = got_at i entries x lt ∙ ap Some (sym is);
      wrong = subst (λ (l : List Entry). IsFirstWrong b.why c (final_state_of c l) x) same wrong;
    })
