-- Turns of processors and of I/O APICs keep what holds of a run.
use Rattle.std.proofs.Common.{◌≡◌, ◌≢◌, ◌==◌, ◌&&◌, ℕ, zero, suc, ◌+◌, ◌*◌, ◌^◌, ◌<◌, ◌≤◌, Bool, true, false, cond, true≢false, List, [], ◌∷◌, ◌++◌, length, map, get_or, set, slice_get, count_by, refl, sym, ap, ◌∙◌, subst, arith, Option, None, Some, is_some, length-set, eq-eqb, ne_eqb}
use mathlib.Core.Logic.{dite}
use native.Mathlib.Decide.{ℕ_discrete}
use Rattle.std.specs.Int.{bit_at}
use Rattle.std.specs.Option.{option_map}
use Rattle.std.proofs.lemmas.Bool.{eqb-true}
use Rattle.std.proofs.lemmas.Nat.Bits.{bit_at-lt, bit_at-zero}
use Rattle.std.proofs.lemmas.List.{get_or-set_other, set-get_or}
use Rattle.std.proofs.lemmas.List.Sums.{sum_by_push}
use Rattle.mpb_spec.specs.declared.agent.Agent.{Agent}
use Rattle.mpb_spec.specs.declared.agent.Agent.TheVariants.{Cpu, Io}
use Rattle.mpb_spec.specs.declared.agent.Offer.{Offer}
use Rattle.mpb_spec.specs.declared.agent.Offer.TheVariants.{Next, Collect, Sweep}
use Rattle.mpb_spec.specs.declared.agent.Op.{Op}
use Rattle.mpb_spec.specs.declared.agent.Op.TheVariants as op
use Rattle.mpb_spec.specs.declared.apic.Message.{Message}
use Rattle.mpb_spec.specs.declared.entry.Entry.{Entry}
use Rattle.mpb_spec.specs.IoApic.{next_due}
use Rattle.mpb_spec.specs.State.{Place, Device, BoardState, change_at, boot_is_through, all_ended}
use Rattle.mpb_spec.specs.Steps.{next_op, op_of_place, send_of, after, all_left}
use Rattle.mpb_spec.specs.May.{MayStep}
use Rattle.mpb_spec.specs.Journal.{IsLegal}
use Rattle.mpb_laws.proofs.JournalLemmas.{goes_on, state_after}
use Rattle.mpb_spec.specs.Pulses.{with_pins}
use Rattle.mpb_spec.specs.PlainLatch.{PlainState, pins_at, collected}
use Rattle.mpb_spec.proofs.Logs.{add_at, length-add}
use Rattle.mpb_robin.specs.RoundRobin.{Run, state_in, entry_of, with_op, with_op_of, with_step, with_taken, with_counted, with_collected, send_or_sweep, turn}
use Rattle.mpb_robin.specs.Account.{collects, collected_count}
use Rattle.mpb_robin.specs.Rest.{IsRun, IsRunAt, is_over}
use Rattle.mpb_robin.proofs.Places.{length-change, at-other, or-same, or-other, at-map, by-option}
use Rattle.mpb_robin.proofs.Frames.{cpu-devices, io-devices, sweeps, cpu-sweeps, collect-sweeps, send-sweeps, Through, cpu-through, io-through}

-- the state after an op made
pub state-with_op : (g : Agent) (o : Op) (r : Run) → state_in (with_op g o r) ≡ after g o (state_in r)
state-with_op g o r = state_after r.plan r.journal (entry_of g o (state_in r))

-- what holds at the state after an op holds of the run
pub at-state : (g : Agent) (o : Op) (r q : Run) → state_in q ≡ state_in (with_op g o r) → IsRunAt q (after g o (state_in r)) → IsRun q
at-state g o r q e h = subst (λ (s : BoardState). IsRunAt q s) (sym (e ∙ state-with_op g o r)) h

pub legal-with_op : (g : Agent) (f : Offer) (o : Op) (r : Run) → IsLegal r.plan r.journal → next_op (state_in r) g f ≡ Some o → IsLegal r.plan (r.journal ++ entry_of g o (state_in r) ∷ [])
legal-with_op g f o r legal may = goes_on r.plan r.journal (entry_of g o (state_in r)) legal (record { offer = f; may = may; outcomes = refl })

-- the collections after an op
pub collected-more : (a pin : ℕ) (g : Agent) (o : Op) (r : Run) → collected_count a pin (r.journal ++ entry_of g o (state_in r) ∷ []) ≡ collected_count a pin r.journal + cond (collects a pin g o) 1 0
collected-more a pin g o r = sum_by_push (λ (x : Entry). cond (collects a pin x.agent x.op) 1 0) r.journal (entry_of g o (state_in r))

pub collected-same : (a pin : ℕ) (g : Agent) (o : Op) (r : Run) → collects a pin g o ≡ false → collected_count a pin (r.journal ++ entry_of g o (state_in r) ∷ []) ≡ collected_count a pin r.journal
collected-same a pin g o r e = collected-more a pin g o r ∙ ap (λ b. collected_count a pin r.journal + cond b 1 0) e ∙ omega arith

-- a place that has swept had swept before
pub swept-before : (s t : BoardState) (a : ℕ) (p : Place) → sweeps t ≡ sweeps s → slice_get t.places a ≡ Some p → p.swept ≡ true → (q : Place) × (slice_get s.places a ≡ Some q) × (q.swept ≡ true)
swept-before s t a p same e w =
    let there : slice_get (sweeps t) a ≡ Some p.swept = at-map (λ (x : Place). x.swept) a t.places ∙ ap (λ o. option_map (λ (x : Place). x.swept) o) e in
    let here : option_map (λ (x : Place). x.swept) (slice_get s.places a) ≡ Some true = sym (at-map (λ (x : Place). x.swept) a s.places) ∙ sym (ap (λ bs. slice_get bs a) same) ∙ there ∙ ap (λ b. Some b) w in
    by-option (λ (x : Place). x.swept) (slice_get s.places a) true here

-- a step that collects nothing, of an agent that is no device, and no sweep
pub kept : (r : Run) (g : Agent) (f : Offer) (o : Op) → IsRun r → next_op (state_in r) g f ≡ Some o
    → (after g o (state_in r)).devices ≡ (state_in r).devices → sweeps (after g o (state_in r)) ≡ sweeps (state_in r)
    → (Through (state_in r) → Through (after g o (state_in r))) → ((a pin : ℕ) → collects a pin g o ≡ false) → IsRunAt (with_op g o r) (after g o (state_in r))
kept r g f o ok may devs same through off = record {
  config = ok.config;
  small = ok.small;
  legal = legal-with_op g f o r ok.legal may;
  words = ok.words;
  counts = ok.counts;
  made = ok.made;
  logs = ok.logs;
  total = ok.total;
  ended = subst (λ (ds : List Device). r.latch.ended ≡ count_by is_over ds) (sym devs) ok.ended;
  each = λ d v e. ok.each d v (sym (ap (λ ds. slice_get ds d) devs) ∙ e);
  begun = λ d v e ne. through (ok.begun d v (sym (ap (λ ds. slice_get ds d) devs) ∙ e) ne);
  latched = λ a ne. through (ok.latched a ne);
  narrow = ok.narrow;
  swept = λ a p e w. (let h = swept-before (state_in r) (after g o (state_in r)) a p same e w in ok.swept a h.0 h.1 h.2);
  balance = λ a pin l m. ok.balance a pin l m ∙ ap (λ n. n + bit_at (pins_at a r.latch) pin) (sym (collected-same a pin g o r (off a pin)));
  counted = λ a pin l m. ok.counted a pin l m ∙ sym (collected-same a pin g o r (off a pin));
  wide = ok.wide;
  first = ok.first;
}

-- ---- processors

pub cpu_keeps : (r : Run) (id : ℕ) → IsRun r → IsRun (turn (Cpu id) r)
cpu_keeps r id ok = go (next_op (state_in r) (Cpu id) Next) refl where
  go : (x : Option Op) → next_op (state_in r) (Cpu id) Next ≡ x → IsRun (with_op_of (Cpu id) x r)
  go None w = ok
  go (Some o) w = at-state (Cpu id) o r (with_op (Cpu id) o r) refl (kept r (Cpu id) Next o ok w (cpu-devices id o (state_in r)) (cpu-sweeps id o (state_in r)) (cpu-through id o (state_in r)) (λ a pin. refl))

-- ---- I/O APICs

-- what each offer comes to
next-sends : (t v : Bool) (p : Option Place) (o : Op) → op_of_place t v Next p ≡ Some o → (pin : ℕ) × (o ≡ op.Send pin)
next-sends t v None o e = cc
next-sends t v (Some p) o e = go (next_due p.chip) e where
  go : (m : Option Message) → send_of m ≡ Some o → (pin : ℕ) × (o ≡ op.Send pin)
  go None e = cc
  go (Some m) e = let same : op.Send m.pin ≡ o = cc in (m.pin, sym same)

sweep-sweeps : (t v : Bool) (p : Option Place) (o : Op) → op_of_place t v Sweep p ≡ Some o → o ≡ op.Sweep
sweep-sweeps t v None o e = cc
sweep-sweeps t v (Some p) o e = go (Rattle.std.proofs.Common.not p.swept && v) e where
  go : (b : Bool) → cond b (Some op.Sweep) None ≡ Some o → o ≡ op.Sweep
  go true e = let same : op.Sweep ≡ o = cc in sym same
  go false e = cc

pub collect-collects : (t v : Bool) (pins : ℕ) (p : Option Place) (o : Op) → op_of_place t v (Collect pins) p ≡ Some o → o ≡ op.Collect pins
collect-collects t v pins None o e = cc
collect-collects t v pins (Some p) o e = go (t && (Rattle.std.proofs.Common.not p.swept && (Rattle.std.proofs.Common.nat_lt 0 pins && (Rattle.std.proofs.Common.nat_lt pins (2 ^ 24) && all_left pins p.left)))) e where
  go : (b : Bool) → cond b (Some (op.Collect pins)) None ≡ Some o → o ≡ op.Collect pins
  go true e = let same : op.Collect pins ≡ o = cc in sym same
  go false e = cc

send_keeps : (r : Run) (a pin : ℕ) → IsRun r → next_op (state_in r) (Io a) Next ≡ Some (op.Send pin) → IsRun (with_op (Io a) (op.Send pin) r)
send_keeps r a pin ok w = at-state (Io a) (op.Send pin) r (with_op (Io a) (op.Send pin) r) refl (kept r (Io a) Next (op.Send pin) ok w (io-devices a (op.Send pin) (state_in r)) (send-sweeps a pin (state_in r)) (io-through a (op.Send pin) (state_in r)) (λ b q. refl))

-- after a sweep, whose latch word is empty and all devices have ended
sweep_keeps : (r : Run) (a : ℕ) → IsRun r → pins_at a r.latch ≡ 0 → r.latch.ended ≡ r.latch.devices → next_op (state_in r) (Io a) Sweep ≡ Some op.Sweep → IsRun (with_op (Io a) op.Sweep r)
sweep_keeps r a ok none all w = at-state (Io a) op.Sweep r (with_op (Io a) op.Sweep r) refl (record {
  config = ok.config;
  small = ok.small;
  legal = legal-with_op (Io a) Sweep op.Sweep r ok.legal w;
  words = ok.words;
  counts = ok.counts;
  made = ok.made;
  logs = ok.logs;
  total = ok.total;
  ended = ok.ended;
  each = ok.each;
  begun = ok.begun;
  latched = ok.latched;
  narrow = ok.narrow;
  swept = λ b p e h. dite (ℕ_discrete b a) (λ same. (all, ap (λ i. pins_at i r.latch) same ∙ none)) (λ ne. ok.swept b p (sym (at-other (λ (q : Place). record q { swept = true }) a b (state_in r).places ne) ∙ e) h);
  balance = λ b pin l m. ok.balance b pin l m ∙ ap (λ n. n + bit_at (pins_at b r.latch) pin) (sym (collected-same b pin (Io a) op.Sweep r refl));
  counted = λ b pin l m. ok.counted b pin l m ∙ sym (collected-same b pin (Io a) op.Sweep r refl);
  wide = ok.wide;
  first = ok.first;
})

send_or_sweep_keeps : (r : Run) (a : ℕ) → IsRun r → pins_at a r.latch ≡ 0 → IsRun (send_or_sweep a r)
send_or_sweep_keeps r a ok none = go (next_op (state_in r) (Io a) Next) refl where
  swept : (x : Option Op) → next_op (state_in r) (Io a) Sweep ≡ x → r.latch.ended ≡ r.latch.devices → IsRun (with_op_of (Io a) x r)
  swept None w all = ok
  swept (Some o) w all =
      let is : o ≡ op.Sweep = sweep-sweeps (boot_is_through (state_in r)) (all_ended (state_in r)) (slice_get (state_in r).places a) o w in
      subst (λ (x : Op). IsRun (with_op (Io a) x r)) (sym is) (sweep_keeps r a ok none all (w ∙ ap (λ x. Some x) is))

  over : (b : Bool) → (r.latch.ended == r.latch.devices) ≡ b → IsRun (cond b (with_step (Io a) Sweep r) r)
  over true w = swept (next_op (state_in r) (Io a) Sweep) refl (eqb-true r.latch.ended r.latch.devices w)
  over false w = ok

  go : (x : Option Op) → next_op (state_in r) (Io a) Next ≡ x → IsRun (cond (is_some x) (with_op_of (Io a) x r) (cond (r.latch.ended == r.latch.devices) (with_step (Io a) Sweep r) r))
  go None w = over (r.latch.ended == r.latch.devices) refl
  go (Some o) w =
      let is = next-sends (boot_is_through (state_in r)) (all_ended (state_in r)) (slice_get (state_in r).places a) o w in
      subst (λ (x : Op). IsRun (with_op (Io a) x r)) (sym is.1) (send_keeps r a is.0 ok (w ∙ ap (λ x. Some x) is.1))

-- an empty latch word is taken without a change
pub taken-none : (a : ℕ) (r : Run) → pins_at a r.latch ≡ 0 → with_taken a r ≡ r
taken-none a r e = ap (λ (pins : List ℕ). record r { latch = record r.latch { pins = pins } }) (ap (λ n. set r.latch.pins a n) (sym e) ∙ set-get_or r.latch.pins a 0)

-- the bits of a word that is a bit each
bit-as-test : (n pin : ℕ) → cond (bit_at n pin == 1) 1 0 ≡ bit_at n pin
bit-as-test n pin = go (bit_at n pin) (bit_at-lt n pin) where
  go : (b : ℕ) → b < 2 → cond (b == 1) 1 0 ≡ b
  go zero l = refl
  go (suc zero) l = refl
  go (suc (suc b)) l = absurd (omega arith)

-- the pins of an I/O APIC after one is taken
pins-taken : (a b : ℕ) (latch : PlainState) → b ≢ a → pins_at b (collected a latch) ≡ pins_at b latch
pins-taken a b latch ne = get_or-set_other latch.pins a b 0 0 ne

none-at : (xs : List ℕ) (a : ℕ) → get_or (set xs a 0) a 0 ≡ 0
none-at [] a = refl
none-at (x ∷ xs) zero = refl
none-at (x ∷ xs) (suc a) = none-at xs a

pins-none : (a : ℕ) (latch : PlainState) → pins_at a (collected a latch) ≡ 0
pins-none a latch = none-at latch.pins a

module _ (may_collect : (r : Run) (a : ℕ) → IsRun r → a < length r.plan.ios → pins_at a r.latch ≢ 0 → MayStep (state_in r) (Io a) (Collect (pins_at a r.latch))) where
  -- after a collection
  collected_keeps : (r : Run) (a : ℕ) → IsRun r → a < length r.plan.ios → next_op (state_in r) (Io a) (Collect (pins_at a r.latch)) ≡ Some (op.Collect (pins_at a r.latch))
      → IsRun (with_counted a (pins_at a r.latch) (with_op (Io a) (op.Collect (pins_at a r.latch)) (with_taken a r)))
  collected_keeps r a ok here w =
      let pins : ℕ = pins_at a r.latch in
      let s : BoardState = state_in r in
      at-state (Io a) (op.Collect pins) r (with_counted a pins (with_op (Io a) (op.Collect pins) (with_taken a r))) refl (record {
        config = ok.config;
        small = ok.small;
        legal = legal-with_op (Io a) (Collect pins) (op.Collect pins) r ok.legal w;
        words = length-set r.latch.pins a 0 ∙ ok.words;
        counts = length-change (with_pins pins) a r.counts ∙ ok.counts;
        made = ok.made;
        logs = ok.logs;
        total = ok.total;
        ended = ok.ended;
        each = ok.each;
        begun = ok.begun;
        latched = λ b ne. dite (ℕ_discrete b a) (λ e. absurd (ne (ap (λ i. pins_at i (collected a r.latch)) e ∙ pins-none a r.latch))) (λ other. ok.latched b (λ z. ne (pins-taken a b r.latch other ∙ z)));
        narrow = λ b. dite (ℕ_discrete b a) (λ e. subst (λ n. n < 2 ^ 24) (sym (ap (λ i. pins_at i (collected a r.latch)) e ∙ pins-none a r.latch)) (omega arith)) (λ other. subst (λ n. n < 2 ^ 24) (sym (pins-taken a b r.latch other)) (ok.narrow b));
        swept = λ b p e h. (let was = swept-before s (after (Io a) (op.Collect pins) s) b p (collect-sweeps a pins s) e h in let both = ok.swept b was.0 was.1 was.2 in (both.0, dite (ℕ_discrete b a) (λ same. ap (λ i. pins_at i (collected a r.latch)) same ∙ pins-none a r.latch) (λ other. pins-taken a b r.latch other ∙ both.1)));
        balance = λ b pin l m. dite (ℕ_discrete b a)
            (λ e. (let here : collected_count b pin (r.journal ++ entry_of (Io a) (op.Collect pins) s ∷ []) ≡ collected_count b pin r.journal + bit_at pins pin = collected-more b pin (Io a) (op.Collect pins) r ∙ ap (λ k. collected_count b pin r.journal + k) (ap (λ t. cond (t && (bit_at pins pin == 1)) 1 0) (eq-eqb a b (sym e)) ∙ bit-as-test pins pin) in
            let none : bit_at (pins_at b (collected a r.latch)) pin ≡ 0 = ap (λ n. bit_at n pin) (ap (λ i. pins_at i (collected a r.latch)) e ∙ pins-none a r.latch) ∙ bit_at-zero pin in
            let word : bit_at (pins_at b r.latch) pin ≡ bit_at pins pin = ap (λ i. bit_at (pins_at i r.latch) pin) e in
            let was = ok.balance b pin l m in omega arith))
            (λ other. ok.balance b pin l m ∙ (let here : collected_count b pin (r.journal ++ entry_of (Io a) (op.Collect pins) s ∷ []) ≡ collected_count b pin r.journal = collected-same b pin (Io a) (op.Collect pins) r (ap (λ t. t && (bit_at pins pin == 1)) (ne_eqb a b (λ e. other (sym e)))) in
            let word : bit_at (pins_at b (collected a r.latch)) pin ≡ bit_at (pins_at b r.latch) pin = ap (λ n. bit_at n pin) (pins-taken a b r.latch other) in omega arith));
        counted = λ b pin l m. dite (ℕ_discrete b a)
            (λ e. (let here : collected_count b pin (r.journal ++ entry_of (Io a) (op.Collect pins) s ∷ []) ≡ collected_count b pin r.journal + bit_at pins pin = collected-more b pin (Io a) (op.Collect pins) r ∙ ap (λ k. collected_count b pin r.journal + k) (ap (λ t. cond (t && (bit_at pins pin == 1)) 1 0) (eq-eqb a b (sym e)) ∙ bit-as-test pins pin) in
            let row : get_or (change_at a (with_pins pins) r.counts) b [] ≡ with_pins pins (get_or r.counts b []) = ap (λ i. get_or (change_at a (with_pins pins) r.counts) i []) e ∙ or-same (with_pins pins) a r.counts [] (let n = ok.counts in omega arith) ∙ ap (λ i. with_pins pins (get_or r.counts i [])) (sym e) in
            let at : get_or (with_pins pins (get_or r.counts b [])) pin 0 ≡ get_or (get_or r.counts b []) pin 0 + bit_at pins (0 + pin) = add_at pins 0 (get_or r.counts b []) pin (let n = ok.wide b l in omega arith) in
            let same : bit_at pins (0 + pin) ≡ bit_at pins pin = ap (bit_at pins) (omega arith) in
            let was = ok.counted b pin l m in
            ap (λ xs. get_or xs pin 0) row ∙ at ∙ omega arith))
            (λ other. ap (λ xs. get_or xs pin 0) (or-other (with_pins pins) a b r.counts [] other) ∙ ok.counted b pin l m ∙ sym (collected-same b pin (Io a) (op.Collect pins) r (ap (λ t. t && (bit_at pins pin == 1)) (ne_eqb a b (λ e. other (sym e))))));
        wide = λ b l. dite (ℕ_discrete b a)
            (λ e. (let row : get_or (change_at a (with_pins pins) r.counts) b [] ≡ with_pins pins (get_or r.counts b []) = ap (λ i. get_or (change_at a (with_pins pins) r.counts) i []) e ∙ or-same (with_pins pins) a r.counts [] (let n = ok.counts in omega arith) ∙ ap (λ i. with_pins pins (get_or r.counts i [])) (sym e) in
            ap (λ xs. length xs) row ∙ length-add pins 0 (get_or r.counts b []) ∙ ok.wide b l))
            (λ other. ap (λ xs. length xs) (or-other (with_pins pins) a b r.counts [] other) ∙ ok.wide b l);
        first = ok.first;
      })

  with_collected_keeps : (r : Run) (a : ℕ) → IsRun r → a < length r.plan.ios → pins_at a r.latch ≢ 0 → IsRun (with_collected a (pins_at a r.latch) (with_taken a r))
  with_collected_keeps r a ok here ne =
      let may = may_collect r a ok here ne in
      let is : may.0 ≡ op.Collect (pins_at a r.latch) = collect-collects (boot_is_through (state_in r)) (all_ended (state_in r)) (pins_at a r.latch) (slice_get (state_in r).places a) may.0 may.1 in
      let w : next_op (state_in r) (Io a) (Collect (pins_at a r.latch)) ≡ Some (op.Collect (pins_at a r.latch)) = may.1 ∙ ap (λ x. Some x) is in
      subst (λ (x : Option Op). IsRun (with_counted a (pins_at a r.latch) (with_op_of (Io a) x (with_taken a r)))) (sym w) (collected_keeps r a ok here w)

  pub io_keeps : (r : Run) (a : ℕ) → IsRun r → a < length r.plan.ios → IsRun (turn (Io a) r)
  io_keeps r a ok here = go (pins_at a r.latch == 0) refl where
    go : (b : Bool) → (pins_at a r.latch == 0) ≡ b → IsRun (cond b (send_or_sweep a (with_taken a r)) (with_collected a (pins_at a r.latch) (with_taken a r)))
    go true w = let none = eqb-true (pins_at a r.latch) 0 w in subst (λ (q : Run). IsRun (send_or_sweep a q)) (sym (taken-none a r none)) (send_or_sweep_keeps r a ok none)
    go false w = with_collected_keeps r a ok here (λ e. true≢false (sym (eq-eqb (pins_at a r.latch) 0 e) ∙ w))
