-- At every pin of every I/O APIC, what is left and what was collected are together what the devices plan.
use Rattle.std.proofs.Common.{◌≡◌, ◌==◌, ℕ, zero, suc, ◌+◌, ◌-◌, ◌/◌, ◌%◌, ◌^◌, ◌<◌, Bool, true, false, not, cond, ◌&&◌, List, [], ◌∷◌, length, map, get_or, refl, sym, ap, ◌∙◌, arith, Option, Some, None, slice_get, fold, nat_lt}
use Rattle.std.specs.Int.{bit_at}
use Rattle.std.specs.List.{range_with_len}
use Rattle.std.proofs.lemmas.Bool.{and_parts, ltb-true, eqb-true, eqb-false}
use Rattle.std.proofs.lemmas.Nat.Bits.{bit_at_lowest, bit_at-suc}
use Rattle.std.proofs.lemmas.List.Sums.{sum_by-cons}
use Rattle.mpb_spec.specs.declared.agent.Agent.{Agent}
use Rattle.mpb_spec.specs.declared.agent.Agent.TheVariants.{Cpu, Io, Dev}
use Rattle.mpb_spec.specs.declared.agent.Offer.{Offer}
use Rattle.mpb_spec.specs.declared.agent.Offer.TheVariants as offer
use Rattle.mpb_spec.specs.declared.agent.Op.{Op}
use Rattle.mpb_spec.specs.declared.agent.Op.TheVariants as op
use Rattle.mpb_spec.specs.declared.apic.Message.{Message}
use Rattle.mpb_spec.specs.declared.apic.Aim.{Aim}
use Rattle.mpb_spec.specs.declared.apic.Delivery.{Delivery}
use Rattle.mpb_spec.specs.declared.config.DevWord.{DevWord}
use Rattle.mpb_spec.specs.declared.entry.Entry.{Entry}
use Rattle.mpb_spec.specs.IoApic.{next_due, written, change_pin, with_line, with_sent, with_eoi}
use Rattle.mpb_spec.specs.State.{Place, BoardState, processor_of, change_at, boot_is_through, all_ended}
use Rattle.mpb_spec.specs.Steps.{next_op, after, op_of_place, send_of, all_left, left_after, with_chip, with_pins_of, ended_at_places, level_end, collected, sent_message, deliver_kind, due_at, was_accepted, send_outcomes}
use Rattle.mpb_spec.specs.Plan.{Plan, initial_state_of, first_places}
use Rattle.mpb_spec.proofs.Planned.{planned_by}
use Rattle.mpb_spec.specs.Journal.{AreSteps, IsLegal, after_entry, final_state_of}
use Rattle.mpb_spec.proofs.StateLemmas.{got_within}
use Rattle.mpb_laws.proofs.PartsStay.{places_stay}
use Rattle.mpb_robin.specs.Account.{collects, collected_count}

-- what is left at a place, none where there is none
abbrev left_of : Option Place → List ℕ
left_of None = []
left_of (Some p) = p.left

abbrev left_at : ℕ → List Place → List ℕ
left_at a ps = left_of (slice_get ps a)

-- a change that keeps what is left
changed : (h : Place → Place) (a b : ℕ) (ps : List Place) → ((p : Place) → (h p).left ≡ p.left) → left_at a (change_at b h ps) ≡ left_at a ps
changed h a b [] keeps = refl
changed h zero zero (p ∷ ps) keeps = keeps p
changed h (suc a) zero (p ∷ ps) keeps = refl
changed h zero (suc b) (p ∷ ps) keeps = refl
changed h (suc a) (suc b) (p ∷ ps) keeps = changed h a b ps keeps

mapped : (h : Place → Place) (a : ℕ) (ps : List Place) → ((p : Place) → (h p).left ≡ p.left) → left_at a (map h ps) ≡ left_at a ps
mapped h a [] keeps = refl
mapped h zero (p ∷ ps) keeps = keeps p
mapped h (suc a) (p ∷ ps) keeps = mapped h a ps keeps

-- a collection at the place, and at another
here : (pins a : ℕ) (ps : List Place) → left_at a (change_at a (collected pins) ps) ≡ left_after pins (left_at a ps)
here pins a [] = refl
here pins zero (p ∷ ps) = refl
here pins (suc a) (p ∷ ps) = here pins a ps

there : (h : Place → Place) (a b : ℕ) (ps : List Place) → ¬ (b ≡ a) → left_at a (change_at b h ps) ≡ left_at a ps
there h a b [] ne = refl
there h zero zero (p ∷ ps) ne = absurd (ne refl)
there h (suc a) zero (p ∷ ps) ne = refl
there h zero (suc b) (p ∷ ps) ne = refl
there h (suc a) (suc b) (p ∷ ps) ne = there h a b ps (λ e. ne (ap suc e))

-- no other step changes what is left
abbrev is_collect : Agent → Op → Bool
is_collect (Io b) (op.Collect pins) = true
is_collect g o = false

ends-keep : (a : ℕ) (v : Option ℕ) (ps : List Place) → left_at a (ended_at_places v ps) ≡ left_at a ps
ends-keep a None ps = refl
ends-keep a (Some v) ps = mapped (with_chip (with_pins_of (map (with_eoi v)))) a ps (λ p. refl)

kind-keeps : (aim : Aim) (k : Option Delivery) (s : BoardState) → (deliver_kind aim k s).places ≡ s.places
kind-keeps aim None s = refl
kind-keeps aim (Some m) s = refl

sends-keep : (a b : ℕ) (m : Option Message) (s : BoardState) → left_at a (sent_message b m s).places ≡ left_at a s.places
sends-keep a b None s = refl
sends-keep a b (Some m) s = changed (with_chip (with_pins_of (change_pin m.pin (with_sent (was_accepted (send_outcomes (Some m) s)))))) a b s.places (λ p. refl)

others-keep : (a : ℕ) (g : Agent) (o : Op) (s : BoardState) → is_collect g o ≡ false → left_at a (after g o s).places ≡ left_at a s.places
others-keep a (Cpu id) (op.IoSel b r) s off = changed (with_chip (λ c. record c { index = r })) a b s.places (λ p. refl)
others-keep a (Cpu id) (op.IoWin b v) s off = changed (with_chip (written v)) a b s.places (λ p. refl)
others-keep a (Cpu id) op.Eoi s off = ends-keep a (level_end (processor_of id s.processors)) s.places
others-keep a (Cpu id) o s off = refl
others-keep a (Dev n) (op.High b pin) s off = changed (with_chip (with_pins_of (change_pin pin (with_line true)))) a b s.places (λ p. refl)
others-keep a (Dev n) (op.Low b pin) s off = changed (with_chip (with_pins_of (change_pin pin (with_line false)))) a b s.places (λ p. refl)
others-keep a (Dev n) o s off = refl
others-keep a (Io b) (op.Collect pins) s off = cc
others-keep a (Io b) (op.Send pin) s off = sends-keep a b (due_at b s) s
others-keep a (Io b) op.Sweep s off = changed (λ p. record p { swept = true }) a b s.places (λ p. refl)
others-keep a (Io b) o s off = refl

-- a collection takes one from each pin that it names
one_of : ℕ → ℕ → ℕ
one_of pins pin = cond (bit_at pins pin == 1) 1 0

spent : (pins pin : ℕ) (l : List ℕ) → all_left pins l ≡ true → pin < length l → get_or (left_after pins l) pin 0 + one_of pins pin ≡ get_or l pin 0
unfolding one_of
spent pins pin [] all lt = absurd (omega (arith, lt))
spent pins zero (n ∷ ns) all lt =
    let parts = and_parts (cond (pins % 2 == 1) (nat_lt 0 n) true) (all_left (pins / 2) ns) all in
    rw (bit_at_lowest pins) (go (pins % 2 == 1) refl parts.0) where
      go : (b : Bool) → (pins % 2 == 1) ≡ b → cond b (nat_lt 0 n) true ≡ true → (n - pins % 2) + cond b 1 0 ≡ n
      go true e more = let one : pins % 2 ≡ 1 = eqb-true (pins % 2) 1 e in omega (arith, one, ltb-true 0 n more)
      go false e more = omega (arith, eqb-false (pins % 2) 1 e)
spent pins (suc pin) (n ∷ ns) all lt =
    let parts = and_parts (cond (pins % 2 == 1) (nat_lt 0 n) true) (all_left (pins / 2) ns) all in
    let rest : get_or (left_after (pins / 2) ns) pin 0 + one_of (pins / 2) pin ≡ get_or ns pin 0 = spent (pins / 2) pin ns parts.1 (omega (arith, lt)) in
    rw (bit_at-suc pins pin) rest

length-after : (pins : ℕ) (l : List ℕ) → length (left_after pins l) ≡ length l
length-after pins [] = refl
length-after pins (n ∷ ns) = ap suc (length-after (pins / 2) ns)

-- a collection is made only where all pins that it names are left
send_no_collect : (m : Option Message) (pins : ℕ) → ¬ (send_of m ≡ Some (op.Collect pins))
send_no_collect None pins e = cc
send_no_collect (Some m) pins e = cc

collect-is : (t v : Bool) (f : Offer) (p : Place) (pins : ℕ) → op_of_place t v f (Some p) ≡ Some (op.Collect pins) → all_left pins p.left ≡ true
collect-is t v offer.Next p pins e = absurd (send_no_collect (next_due p.chip) pins e)
collect-is t v (offer.Collect m) p pins e = go t p.swept (nat_lt 0 m) (nat_lt m (2 ^ 24)) (all_left m p.left) refl e where
  go : (t w x y z : Bool) → all_left m p.left ≡ z → cond (t && (not w && (x && (y && z)))) (Some (op.Collect m)) None ≡ Some (op.Collect pins) → all_left pins p.left ≡ true
  go true false true true true is e = let same : m ≡ pins = cc in rw (← same) is
  go true false true true false is e = cc
  go true false true false z is e = cc
  go true false false y z is e = cc
  go true true x y z is e = cc
  go false w x y z is e = cc
collect-is t v offer.Sweep p pins e = absurd (go p.swept v e) where
  go : (w v : Bool) → ¬ (cond (not w && v) (Some op.Sweep) None ≡ Some (op.Collect pins))
  go true v e = cc
  go false true e = cc
  go false false e = cc

collect-left : (t v : Bool) (f : Offer) (r : Option Place) (pins : ℕ) → op_of_place t v f r ≡ Some (op.Collect pins) → all_left pins (left_of r) ≡ true
collect-left t v f None pins e = cc
collect-left t v f (Some p) pins e = collect-is t v f p pins e

-- one step, at one pin
record Balanced (a pin : ℕ) (ps qs : List Place) (n : ℕ) : Type 0 where
  long : length (left_at a qs) ≡ length (left_at a ps)
  left : pin < length (left_at a ps) → get_or (left_at a qs) pin 0 + n ≡ get_or (left_at a ps) pin 0

kept : (a pin : ℕ) (ps qs : List Place) → left_at a qs ≡ left_at a ps → Balanced a pin ps qs 0
kept a pin ps qs same = record { long = ap (λ (l : List ℕ). length l) same; left = λ lt. omega (arith, ap (λ (l : List ℕ). get_or l pin 0) same) }

abbrev count_of : ℕ → ℕ → Agent → Op → ℕ
count_of a pin g o = cond (collects a pin g o) 1 0

collection : (a pin b pins : ℕ) (s : BoardState) (f : Offer) → next_op s (Io b) f ≡ Some (op.Collect pins) → (here? : Bool) → (b == a) ≡ here? → Balanced a pin s.places (change_at b (collected pins) s.places) (cond (here? && (bit_at pins pin == 1)) 1 0)
unfolding one_of
collection a pin b pins s f may true e =
    let same : b ≡ a = eqb-true b a e in
    let all : all_left pins (left_at a s.places) ≡ true = rw (← same) (collect-left (boot_is_through s) (all_ended s) f (slice_get s.places b) pins may) in
    let is : left_at a (change_at b (collected pins) s.places) ≡ left_after pins (left_at a s.places) = rw same (here pins a s.places) in
    record {
      long = ap (λ (l : List ℕ). length l) is ∙ length-after pins (left_at a s.places);
      left = λ lt. rw is (spent pins pin (left_at a s.places) all lt);
    }
collection a pin b pins s f may false e = kept a pin s.places (change_at b (collected pins) s.places) (there (collected pins) a b s.places (eqb-false b a e))

step : (a pin : ℕ) (s : BoardState) (g : Agent) (o : Op) (f : Offer) → next_op s g f ≡ Some o → Balanced a pin s.places (after g o s).places (count_of a pin g o)
step a pin s (Io b) (op.Collect pins) f may = collection a pin b pins s f may (b == a) refl
step a pin s (Cpu id) o f may = kept a pin s.places (after (Cpu id) o s).places (others-keep a (Cpu id) o s refl)
step a pin s (Dev d) o f may = kept a pin s.places (after (Dev d) o s).places (others-keep a (Dev d) o s refl)
step a pin s (Io b) o f may = kept a pin s.places (after (Io b) o s).places (others-keep a (Io b) o s refl)

steps : (a pin : ℕ) (s : BoardState) (xs : List Entry) → AreSteps s xs → Balanced a pin s.places (fold after_entry s xs).places (collected_count a pin xs)
steps a pin s [] are = record { long = refl; left = λ lt. omega arith }
steps a pin s (x ∷ xs) are =
    let one = step a pin s x.agent x.op are.0.offer are.0.may in
    let rest = steps a pin (after_entry s x) xs are.1 in
    let count = sum_by-cons (λ (y : Entry). cond {A = ℕ} (collects a pin y.agent y.op) 1 0) x xs in
    record {
      long = rest.long ∙ one.long;
      left = λ lt. omega (arith, one.left lt, rest.left (omega (arith, one.long, lt)), count);
    }

-- at first
zero_more : (n : ℕ) → 0 + n ≡ n
zero_more n = omega arith

ranged : (f : ℕ → ℕ) (k n i : ℕ) → i < n → get_or (map f (range_with_len k n)) i 0 ≡ f (k + i)
ranged f k zero i lt = absurd (omega (arith, lt))
ranged f k (suc n) zero lt = ap f (omega arith)
ranged f k (suc n) (suc i) lt = ranged f (k + 1) n i (omega (arith, lt)) ∙ ap f (omega arith)

length-ranged : (f : ℕ → ℕ) (k n : ℕ) → length (map f (range_with_len k n)) ≡ n
length-ranged f k zero = refl
length-ranged f k (suc n) = ap suc (length-ranged f (k + 1) n)

first-left : (ds : List (List DevWord)) (b a : ℕ) (ids : List ℕ) → a < length ids → left_at a (first_places ds b ids) ≡ map (planned_by ds (b + a)) (range_with_len 0 24)
first-left ds b a [] lt = absurd (omega (arith, lt))
first-left ds b zero (id ∷ ids) lt = ap (λ k. map (planned_by ds k) (range_with_len 0 24)) (omega arith)
first-left ds b (suc a) (id ∷ ids) lt = first-left ds (b + 1) a ids (omega (arith, lt)) ∙ ap (λ k. map (planned_by ds k) (range_with_len 0 24)) (omega arith)

-- what is left at an I/O APIC: 24 pins, and at each the planned pulses but for the collections
pub record IsLeft (c : Plan) (journal : List Entry) (a : ℕ) (p : Place) : Type 0 where
  pub long : length p.left ≡ 24
  pub left : (pin : ℕ) → pin < 24 → get_or p.left pin 0 + collected_count a pin journal ≡ planned_by c.devices a pin

pub is_left : (c : Plan) (journal : List Entry) (a : ℕ) (p : Place) → IsLegal c journal → slice_get (final_state_of c journal).places a ≡ Some p → IsLeft c journal a p
is_left c journal a p legal at =
    let within : a < length c.ios = omega (arith, got_within a (final_state_of c journal).places p at, places_stay c journal) in
    let first : left_at a (first_places c.devices 0 c.ios) ≡ map (planned_by c.devices a) (range_with_len 0 24) = first-left c.devices 0 a c.ios within ∙ ap (λ k. map (planned_by c.devices k) (range_with_len 0 24)) (zero_more a) in
    let long : length (left_at a (first_places c.devices 0 c.ios)) ≡ 24 = ap (λ (l : List ℕ). length l) first ∙ length-ranged (planned_by c.devices a) 0 24 in
    let last : left_at a (final_state_of c journal).places ≡ p.left = ap left_of at in
    record {
      long = ap (λ (l : List ℕ). length l) (sym last) ∙ (steps a 0 (initial_state_of c) journal legal).long ∙ long;
      left = λ pin lt.
          let h = (steps a pin (initial_state_of c) journal legal).left (omega (arith, long, lt)) in
          let f : get_or (left_at a (first_places c.devices 0 c.ios)) pin 0 ≡ planned_by c.devices a pin = ap (λ (l : List ℕ). get_or l pin 0) first ∙ ranged (planned_by c.devices a) 0 24 pin lt ∙ ap (planned_by c.devices a) (zero_more pin) in
          omega (arith, h, f, ap (λ (l : List ℕ). get_or l pin 0) last);
    }

pub left_is : (c : Plan) (journal : List Entry) (a pin : ℕ) (p : Place) → IsLegal c journal → slice_get (final_state_of c journal).places a ≡ Some p → pin < 24 → get_or p.left pin 0 + collected_count a pin journal ≡ planned_by c.devices a pin
left_is c journal a pin p legal at lt = (is_left c journal a p legal at).left pin lt
