-- Turns of an I/O APIC's worker: what the counts and the I/O APIC's own entries have to do with one another.
use Rattle.std.proofs.Common.{◌≡◌, ◌==◌, ◌&&◌, ◌||◌, ℕ, suc, ◌+◌, ◌<◌, Bool, true, false, cond, List, [], ◌∷◌, ◌++◌, length, get_or, refl, sym, ap, ap₂, ◌∙◌, subst, arith, Option, None, Some}
use Rattle.std.specs.Int.{bit_at}
use Rattle.std.proofs.lemmas.Bool.{eq-eqb, eqb-true, eqb-false, and_parts}
use Rattle.std.proofs.lemmas.Nat.Bits.{bit_at-zero}
use Rattle.std.proofs.lemmas.List.Sums.{sum_by_push}
use Rattle.std.proofs.lemmas.List.Folds.{list_any-append}
use Rattle.mpb_spec.specs.declared.agent.Agent.{Agent}
use Rattle.mpb_spec.specs.declared.agent.Agent.TheVariants.{Io}
use Rattle.mpb_spec.specs.declared.agent.Offer.{Offer}
use Rattle.mpb_spec.specs.declared.agent.Offer.TheVariants as offer
use Rattle.mpb_spec.specs.declared.agent.Op.{Op}
use Rattle.mpb_spec.specs.declared.agent.Op.TheVariants as op
use Rattle.mpb_spec.specs.declared.entry.Entry.{Entry}
use Rattle.mpb_spec.specs.declared.apic.Message.{Message}
use Rattle.mpb_spec.specs.IoApic.{next_due}
use Rattle.mpb_spec.specs.State.{BoardState, Place, boot_is_through, all_ended}
use Rattle.mpb_spec.specs.Steps.{next_op, op_of_place, send_of}
use Rattle.mpb_spec.specs.Plan.{Plan}
use Rattle.mpb_spec.specs.Configs.{IsConfig}
use Rattle.mpb_latch.specs.Seats.{CollectorSeat}
use Rattle.mpb_spec.specs.Agents.{entries_of}
use Rattle.mpb_bus.specs.Seats.{AgentSeat}
use Rattle.mpb_robin.specs.Account.{collects, collected_count}
use Rattle.mpb_robin.proofs.StepsKeep.{collect-collects}
use Rattle.mpb_crew.specs.declared.answer.Answer.{Answer}
use Rattle.mpb_crew.specs.declared.answer.Answer.TheVariants.{Made, Idle, Quiet}
use Rattle.mpb_crew.specs.Workers.{IsSame, IsAtRest, Took, is_sweep, has_swept, IsCollecting, WasTurn, HasCollected}
use Rattle.mpb_crew.proofs.Sweeps.{all_swept}

-- ---- one entry more

count-push : (a pin : ℕ) (xs : List Entry) (x : Entry) → collected_count a pin (xs ++ x ∷ []) ≡ collected_count a pin xs + cond (collects a pin x.agent x.op) 1 0
count-push a pin xs x = sum_by_push (λ (y : Entry). cond {A = ℕ} (collects a pin y.agent y.op) 1 0) xs x

or-false : (b : Bool) → (b || false) ≡ b
or-false true = refl
or-false false = refl

swept-push : (xs : List Entry) (x : Entry) → has_swept (xs ++ x ∷ []) ≡ (has_swept xs || is_sweep x.op)
swept-push xs x = list_any-append (λ (y : Entry). is_sweep y.op) xs (x ∷ []) ∙ ap (λ b. has_swept xs || b) (or-false (is_sweep x.op))

-- nothing more
stays : (held : ℕ) (old new : AgentSeat) (c : CollectorSeat) → IsSame old new → new.mine ≡ old.mine → IsCollecting held old c → IsCollecting held new c
stays held old new c same mine is = record {
  agent = same.1 ∙ is.agent;
  counts = λ pin lt. is.counts pin lt ∙ ap (λ (xs : List Entry). collected_count c.io pin xs + bit_at held pin) (sym mine);
  swept = λ e. is.swept (ap (λ (xs : List Entry). has_swept xs) (sym mine) ∙ e);
  empty = is.empty;
}

either-swept : (p q : Bool) (d : Bool) → (p || q) ≡ true → (p ≡ true → d ≡ true) → (q ≡ true → d ≡ true) → d ≡ true
either-swept true q d e f g = f refl
either-swept false q d e f g = g e

-- an entry that collects nothing
plain : (held : ℕ) (old new : AgentSeat) (c : CollectorSeat) (x : Entry) → IsSame old new → new.mine ≡ old.mine ++ x ∷ [] → ((pin : ℕ) → collects c.io pin x.agent x.op ≡ false) → (is_sweep x.op ≡ true → c.dry ≡ true) → IsCollecting held old c → IsCollecting held new c
plain held old new c x same mine off dry is = record {
  agent = same.1 ∙ is.agent;
  counts = λ pin lt.
      let more = ap (λ (xs : List Entry). collected_count c.io pin xs) mine in
      let none : cond {A = ℕ} (collects c.io pin x.agent x.op) 1 0 ≡ 0 = ap (λ (t : Bool). cond {A = ℕ} t 1 0) (off pin) in
      omega (arith, is.counts pin lt, more, count-push c.io pin old.mine x, none);
  swept = λ e. either-swept (has_swept old.mine) (is_sweep x.op) c.dry (sym (ap (λ (xs : List Entry). has_swept xs) mine ∙ swept-push old.mine x) ∙ e) is.swept dry;
  empty = is.empty;
}

-- the collection of the pins that were held
own : (held : ℕ) (old new : AgentSeat) (c : CollectorSeat) (x : Entry) → IsSame old new → new.mine ≡ old.mine ++ x ∷ [] → x.agent ≡ Io c.io → x.op ≡ op.Collect held → IsCollecting held old c → IsCollecting 0 new c
own held old new c x same mine agent made is = record {
  agent = same.1 ∙ is.agent;
  counts = λ pin lt.
      let more = ap (λ (xs : List Entry). collected_count c.io pin xs) mine in
      let tests : collects c.io pin x.agent x.op ≡ (bit_at held pin == 1) = ap (λ (g : Agent). collects c.io pin g x.op) agent ∙ (ap (λ (o : Op). collects c.io pin (Io c.io) o) made ∙ ap (λ b. b && (bit_at held pin == 1)) (eq-eqb c.io c.io refl)) in
      let one : cond {A = ℕ} (collects c.io pin x.agent x.op) 1 0 ≡ bit_at held pin = ap (λ (t : Bool). cond {A = ℕ} t 1 0) tests ∙ bit-of (bit_at held pin) (bit-small held pin) in
      omega (arith, is.counts pin lt, more, count-push c.io pin old.mine x, one, bit_at-zero pin);
  swept = λ e. either-swept (has_swept old.mine) (is_sweep x.op) c.dry (sym (ap (λ (xs : List Entry). has_swept xs) mine ∙ swept-push old.mine x) ∙ e) is.swept (λ w. (let off : false ≡ true = sym (ap is_sweep made) ∙ w in cc));
  empty = λ d. refl;
} where
  bit-of : (n : ℕ) → n < 2 → cond {A = ℕ} (n == 1) 1 0 ≡ n
  bit-of n lt = go (n == 1) refl where
    go : (b : Bool) → (n == 1) ≡ b → cond {A = ℕ} b 1 0 ≡ n
    go true w = sym (eqb-true n 1 w)
    go false w = let ne = eqb-false n 1 w in omega (arith, lt, ne)

  bit-small : (m pin : ℕ) → bit_at m pin < 2
  bit-small m pin = Rattle.std.proofs.lemmas.Nat.Bits.bit_at-lt m pin

-- ---- turns

-- what an op of an I/O APIC's is
io-op : (s : BoardState) (g : Agent) (a : ℕ) (f : Offer) (o : Op) → g ≡ Io a → next_op s g f ≡ Some o → op_of_place (boot_is_through s) (all_ended s) f (Rattle.std.proofs.Common.slice_get s.places a) ≡ Some o
io-op s g a f o e w = ap (λ (h : Agent). next_op s h f) (sym e) ∙ w

next-sends : (t v : Bool) (p : Option Place) (o : Op) → op_of_place t v offer.Next p ≡ Some o → (pin : ℕ) × (o ≡ op.Send pin)
next-sends t v None o e = cc
next-sends t v (Some p) o e = go (next_due p.chip) e where
  go : (m : Option Message) → send_of m ≡ Some o → (pin : ℕ) × (o ≡ op.Send pin)
  go None e = cc
  go (Some m) e = let same : op.Send m.pin ≡ o = cc in (m.pin, sym same)

sweep-sweeps : (t v : Bool) (p : Option Place) (o : Op) → op_of_place t v offer.Sweep p ≡ Some o → o ≡ op.Sweep
sweep-sweeps t v None o e = cc
sweep-sweeps t v (Some p) o e = go (Rattle.std.proofs.Common.not p.swept && v) e where
  go : (b : Bool) → cond b (Some op.Sweep) None ≡ Some o → o ≡ op.Sweep
  go true e = let same : op.Sweep ≡ o = cc in sym same
  go false e = cc

pub sent : (old new : AgentSeat) (c : CollectorSeat) (t : Answer) → Took old offer.Next t new → IsCollecting 0 old c → WasTurn 0 old t new c
sent old new c Made took is =
    let x = took.tells.0 in
    let s = took.tells.3.0 in
    let sends = next-sends (boot_is_through s) (all_ended s) (Rattle.std.proofs.Common.slice_get s.places c.io) x.op (io-op s old.agent c.io offer.Next x.op is.agent took.tells.3.1) in
    let off : (pin : ℕ) → collects c.io pin x.agent x.op ≡ false = λ pin. ap (λ (g : Agent). collects c.io pin g x.op) (took.tells.2 ∙ is.agent) ∙ ap (λ (o : Op). collects c.io pin (Io c.io) o) sends.1 in
    record {
      same = took.same;
      account = plain 0 old new c x took.same took.tells.1 off (λ w. (let no : false ≡ true = sym (ap is_sweep sends.1) ∙ w in cc)) is;
      rests = tt;
    }
sent old new c Idle took is = record { same = took.same; account = stays 0 old new c took.same took.tells is; rests = tt }
sent old new c Quiet took is = record { same = took.same; account = stays 0 old new c took.same took.tells.0 is; rests = took.tells.1 }

pub swept : (old new : AgentSeat) (c : CollectorSeat) (t : Answer) → Took old offer.Sweep t new → c.dry ≡ true → IsCollecting 0 old c → WasTurn 0 old t new c
swept old new c Made took dry is =
    let x = took.tells.0 in
    let s = took.tells.3.0 in
    let sweeps = sweep-sweeps (boot_is_through s) (all_ended s) (Rattle.std.proofs.Common.slice_get s.places c.io) x.op (io-op s old.agent c.io offer.Sweep x.op is.agent took.tells.3.1) in
    let off : (pin : ℕ) → collects c.io pin x.agent x.op ≡ false = λ pin. ap (λ (g : Agent). collects c.io pin g x.op) (took.tells.2 ∙ is.agent) ∙ ap (λ (o : Op). collects c.io pin (Io c.io) o) sweeps in
    record {
      same = took.same;
      account = plain 0 old new c x took.same took.tells.1 off (λ w. dry) is;
      rests = tt;
    }
swept old new c Idle took dry is = record { same = took.same; account = stays 0 old new c took.same took.tells is; rests = tt }
swept old new c Quiet took dry is = record { same = took.same; account = stays 0 old new c took.same took.tells.0 is; rests = took.tells.1 }

-- the pins that are held after an answer
abbrev pub held_after : Answer → ℕ → ℕ
held_after Made held = 0
held_after t held = held

pub collected : (held : ℕ) (old new : AgentSeat) (c : CollectorSeat) (t : Answer) → Took old (offer.Collect held) t new → IsCollecting held old c → WasTurn (held_after t held) old t new c
collected held old new c Made took is =
    let x = took.tells.0 in
    let s = took.tells.3.0 in
    let made = collect-collects (boot_is_through s) (all_ended s) held (Rattle.std.proofs.Common.slice_get s.places c.io) x.op (io-op s old.agent c.io (offer.Collect held) x.op is.agent took.tells.3.1) in
    record {
      same = took.same;
      account = own held old new c x took.same took.tells.1 (took.tells.2 ∙ is.agent) made is;
      rests = tt;
    }
collected held old new c Idle took is = record { same = took.same; account = stays held old new c took.same took.tells is; rests = tt }
collected held old new c Quiet took is = record { same = took.same; account = stays held old new c took.same took.tells.0 is; rests = took.tells.1 }

-- ---- the latch

-- after a look, whatever it found
looked : (held : ℕ) (b : AgentSeat) (old new : CollectorSeat) → new.io ≡ old.io → new.counts ≡ old.counts → new.dry ≡ old.dry → IsCollecting held b old → IsCollecting held b new
looked held b old new io counts dry is = record {
  agent = is.agent ∙ ap Io (sym io);
  counts = λ pin lt. ap (λ (l : List ℕ). get_or l pin 0) counts ∙ (is.counts pin lt ∙ ap (λ (a : ℕ). collected_count a pin b.mine + bit_at held pin) (sym io));
  swept = λ e. dry ∙ is.swept e;
  empty = λ e. is.empty (sym dry ∙ e);
}

dry-empty : (d f : Bool) (n : ℕ) → (d || (f && (n == 0))) ≡ true → (d ≡ true → n ≡ 0) → n ≡ 0
dry-empty true f n e g = g refl
dry-empty false f n e g = eqb-true n 0 (and_parts f (n == 0) e).1

or-true : (b : Bool) → (b || true) ≡ true
or-true true = refl
or-true false = refl

-- a collection that found nothing, after a look that found all devices ended
pub dries : (mid new : CollectorSeat) (pins : ℕ) → new.dry ≡ (mid.dry || (mid.full && (pins == 0))) → mid.full ≡ true → (pins == 0) ≡ true → new.dry ≡ true
dries mid new pins dry full none = dry ∙ (ap₂ (λ (f z : Bool). mid.dry || (f && z)) full none ∙ or-true mid.dry)

-- after a look and a collection of the pins that are held from then on
pub taken : (b : AgentSeat) (old mid new : CollectorSeat) (ended : Bool) (pins : ℕ) → mid ≡ record old { looks = old.looks + 1; full = ended }
    → new.io ≡ mid.io → new.dry ≡ (mid.dry || (mid.full && (pins == 0))) → ((pin : ℕ) → pin < 24 → get_or new.counts pin 0 ≡ get_or mid.counts pin 0 + bit_at pins pin)
    → (mid.dry ≡ true → pins ≡ 0) → IsCollecting 0 b old → IsCollecting pins b new
taken b old mid new ended pins look io dry counts none is =
    let now : IsCollecting 0 b mid = looked 0 b old mid (ap (λ (c : CollectorSeat). c.io) look) (ap (λ (c : CollectorSeat). c.counts) look) (ap (λ (c : CollectorSeat). c.dry) look) is in
    record {
      agent = now.agent ∙ ap Io (sym io);
      counts = λ pin lt.
          let at : collected_count mid.io pin b.mine ≡ collected_count new.io pin b.mine = ap (λ (a : ℕ). collected_count a pin b.mine) (sym io) in
          omega (arith, counts pin lt, now.counts pin lt, bit_at-zero pin, at);
      swept = λ e. dry ∙ ap (λ (d : Bool). d || (mid.full && (pins == 0))) (now.swept e);
      empty = λ e. dry-empty mid.dry mid.full pins (sym dry ∙ e) none;
    }

-- ---- the end

pub at_rest : (held : ℕ) (b : AgentSeat) (c : CollectorSeat) → IsConfig b.plan → c.io < length b.plan.ios → IsAtRest b → IsCollecting held b c → HasCollected b c
at_rest held b c config there rest is =
    let mine : b.mine ≡ entries_of (Io c.io) b.seen = rest.own ∙ ap (λ (g : Agent). entries_of g b.seen) is.agent in
    let dry : c.dry ≡ true = is.swept (ap (λ (xs : List Entry). has_swept xs) mine ∙ all_swept b.plan b.seen c.io config rest.legal there rest.quiet) in
    record {
      agent = is.agent;
      dry = dry;
      counts = λ pin lt. is.counts pin lt ∙ (ap (λ (n : ℕ). collected_count c.io pin b.mine + bit_at n pin) (is.empty dry) ∙ (let z = bit_at-zero pin in omega arith));
    }

-- after a turn at which no agent may step
pub rests_after : (held : ℕ) (old now new : AgentSeat) (first last : CollectorSeat) → IsConfig old.plan → first.io < length old.plan.ios → IsSame old now → last.io ≡ first.io → WasTurn held now Quiet new last
    → IsSame old new × IsAtRest new × HasCollected new last
rests_after held old now new first last config there same io was =
    let both : IsSame old new = (was.same.0 ∙ same.0, was.same.1 ∙ same.1, was.same.2 ∙ same.2) in (
      both,
      was.rests,
      at_rest held new last (subst IsConfig (sym both.2) config) (subst (λ (p : Plan). last.io < length p.ios) (sym both.2) (omega (arith, io, there))) was.rests was.account,
    )
