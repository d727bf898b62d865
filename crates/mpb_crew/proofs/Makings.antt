-- A device's worker: its words in order, pulses on the latch and steps on the board.
use Rattle.std.proofs.Common.{◌≡◌, ℕ, zero, suc, ◌+◌, ◌<◌, ◌≤◌, false, List, [], ◌∷◌, ◌++◌, length, take, drop, filter_map, slice_get, get_or, refl, sym, ap, ◌∙◌, subst, arith, Option, Some}
use Rattle.std.proofs.lemmas.List.{length-append, take_all}
use Rattle.std.proofs.lemmas.List.Elements.{filter_map-append}
use Rattle.mpb_spec.specs.declared.agent.Agent.{Agent}
use Rattle.mpb_spec.specs.declared.agent.Agent.TheVariants.{Dev}
use Rattle.mpb_spec.specs.declared.agent.Op.{Op}
use Rattle.mpb_spec.specs.declared.config.DevWord.{DevWord}
use Rattle.mpb_spec.specs.declared.config.DevWord.TheVariants as word
use Rattle.mpb_spec.specs.declared.entry.Entry.{Entry}
use Rattle.mpb_spec.specs.Plan.{Plan, op_of_word, device_program}
use Rattle.mpb_spec.specs.Configs.{IsConfig}
use Rattle.mpb_spec.specs.declared.pulse.Pulse.{Pulse}
use Rattle.mpb_spec.specs.declared.pulse.Hit.{Hit}
use Rattle.mpb_latch.specs.Seats.{DeviceSeat, fresh_device_seat}
use Rattle.mpb_spec.specs.Agents.{entries_of}
use Rattle.mpb_bus.specs.Seats.{AgentSeat}
use Rattle.mpb_spec.specs.Pulses.{pulse_of, pulses_in}
use Rattle.mpb_robin.proofs.Acts.{take-more, take-drop, drop-at, at-length}
use Rattle.mpb_spec.specs.declared.agent.Offer.TheVariants as offer
use Rattle.mpb_crew.specs.declared.answer.Answer.TheVariants.{Made, Idle, Quiet}
use Rattle.mpb_crew.specs.Workers.{IsSame, IsAtRest, IsDevice, IsMaking, Took}
use Rattle.mpb_crew.proofs.Positions.{busy}

-- ---- what is left

-- a device with an op left is never at rest
pub never_rests : (d : ℕ) (words : List DevWord) (b : AgentSeat) → IsConfig b.plan → IsDevice d words b → length b.mine < length (device_program words) → IsAtRest b → ⊥
never_rests d words b config is left rest =
    let mine : b.mine ≡ entries_of (Dev d) b.seen = rest.own ∙ ap (λ (g : Agent). entries_of g b.seen) is.agent in
    let long : length b.mine ≡ length (entries_of (Dev d) b.seen) = ap (λ (xs : List Entry). length xs) mine in
    let program : length (device_program words) ≡ length (device_program (get_or b.plan.devices d [])) = ap (λ (ws : List DevWord). length (device_program ws)) is.words_are in
    busy b.plan b.seen d config rest.legal is.there (omega (arith, left, long, program)) rest.quiet

first-part : {Y : Type 0} (f : DevWord → Option Y) (words : List DevWord) (n : ℕ) → length (filter_map f (take n words)) ≤ length (filter_map f words)
first-part f words n =
    let split = ap (λ (ws : List DevWord). length (filter_map f ws)) (take-drop words n) in
    let both = ap (λ ys. length ys) (filter_map-append f (take n words) (drop n words)) in
    omega (arith, split, both, length-append (filter_map f (take n words)) (filter_map f (drop n words)))

-- the End is left until it is made
pub op_left : (words : List DevWord) (n : ℕ) (b : AgentSeat) (s : DeviceSeat) → IsMaking words n b s → length b.mine < length (device_program words)
op_left words n b s is = omega (arith, is.ops, first-part op_of_word words n, length-append (filter_map op_of_word words) (Rattle.mpb_spec.specs.declared.agent.Op.TheVariants.End ∷ []))

-- at first its Begin and its End are left
pub first_left : (words : List DevWord) (b : AgentSeat) → b.mine ≡ [] → length b.mine + 1 < length (device_program words)
first_left words b none =
    let long : length b.mine ≡ 0 = ap (λ (xs : List Entry). length xs) none in
    omega (arith, long, length-append (filter_map op_of_word words) (Rattle.mpb_spec.specs.declared.agent.Op.TheVariants.End ∷ []))

-- ---- one word more

one-more : {Y : Type 0} (f : DevWord → Option Y) (words : List DevWord) (n : ℕ) (w : DevWord) → slice_get words n ≡ Some w → length (filter_map f (take (n + 1) words)) ≡ length (filter_map f (take n words)) + length (filter_map f (w ∷ []))
one-more f words n w e =
    let next : n + 1 ≡ suc n = omega arith in
    let taken : take (n + 1) words ≡ take n words ++ w ∷ [] = ap (λ k. take k words) next ∙ take-more words n w e in
    let both = ap (λ (ws : List DevWord). length (filter_map f ws)) taken in
    let split = ap (λ ys. length ys) (filter_map-append f (take n words) (w ∷ [])) in
    omega (arith, both, split, length-append (filter_map f (take n words)) (filter_map f (w ∷ [])))

-- at a word that is a step the End is left beside it
pub step_left : (words : List DevWord) (n : ℕ) (w : DevWord) (b : AgentSeat) (s : DeviceSeat) → slice_get words n ≡ Some w → length (filter_map op_of_word (w ∷ [])) ≡ 1 → IsMaking words n b s
    → length b.mine + 1 < length (device_program words)
step_left words n w b s e one is =
    omega (arith, is.ops, one, one-more op_of_word words n w e, first-part op_of_word words (n + 1), length-append (filter_map op_of_word words) (Rattle.mpb_spec.specs.declared.agent.Op.TheVariants.End ∷ []))

-- the pulse of a word stands in the plan behind those of the words before
pulse-at : (words : List DevWord) (n : ℕ) (w : DevWord) (p : Pulse) → slice_get words n ≡ Some w → pulse_of w ≡ Some p → slice_get (pulses_in words) (length (filter_map pulse_of (take n words))) ≡ Some p
pulse-at words n w p e f =
    let cut : words ≡ take n words ++ w ∷ drop (suc n) words = take-drop words n ∙ ap (λ ys. take n words ++ ys) (drop-at words n w e) in
    let split : pulses_in words ≡ pulses_in (take n words) ++ p ∷ pulses_in (drop (suc n) words) =
    ap pulses_in cut ∙ (filter_map-append pulse_of (take n words) (w ∷ drop (suc n) words) ∙ ap (λ x. pulses_in (take n words) ++ Rattle.std.specs.List.cons_option x (pulses_in (drop (suc n) words))) f) in
    ap (λ xs. slice_get xs (length (pulses_in (take n words)))) split ∙ at-length (pulses_in (take n words)) p (pulses_in (drop (suc n) words))

pub next_pulse : (words : List DevWord) (n io pin : ℕ) (b : AgentSeat) (s : DeviceSeat) → slice_get words n ≡ Some (word.Pulse io pin) → IsMaking words n b s → slice_get s.plan (length s.log) ≡ Some (record { io = io; pin = pin })
next_pulse words n io pin b s e is =
    ap (λ (ps : List Pulse). slice_get ps (length s.log)) is.plan ∙ (ap (λ k. slice_get (pulses_in words) k) is.pulses ∙ pulse-at words n (word.Pulse io pin) (record { io = io; pin = pin }) e refl)

-- after a pulse
pub pulsed : (words : List DevWord) (n io pin : ℕ) (b : AgentSeat) (s t : DeviceSeat) (hit : Hit) → slice_get words n ≡ Some (word.Pulse io pin)
    → t ≡ record s { log = s.log ++ (record { io = io; pin = pin }, hit) ∷ [] } → IsMaking words n b s → IsMaking words (n + 1) b t
pulsed words n io pin b s t hit e now is = record {
  plan = ap (λ (u : DeviceSeat). u.plan) now ∙ is.plan;
  going = ap (λ (u : DeviceSeat). u.ended) now ∙ is.going;
  pulses =
      let long = ap (λ (u : DeviceSeat). length u.log) now in
      let p : Pulse = record { io = io; pin = pin } in
      omega (arith, long, is.pulses, length-append s.log ((p, hit) ∷ []), one-more pulse_of words n (word.Pulse io pin) e);
  ops = omega (arith, is.ops, one-more op_of_word words n (word.Pulse io pin) e);
}

-- after a step, of a word that is no pulse
stepped : (words : List DevWord) (n : ℕ) (w : DevWord) (b c : AgentSeat) (s : DeviceSeat) → slice_get words n ≡ Some w → length (filter_map pulse_of (w ∷ [])) ≡ 0 → length (filter_map op_of_word (w ∷ [])) ≡ 1
    → length c.mine ≡ length b.mine + 1 → IsMaking words n b s → IsMaking words (n + 1) c s
stepped words n w b c s e none one more is = record {
  plan = is.plan;
  going = is.going;
  pulses = omega (arith, is.pulses, one-more pulse_of words n w e, none);
  ops = omega (arith, is.ops, one-more op_of_word words n w e, one, more);
}

pub raised : (words : List DevWord) (n io pin : ℕ) (b c : AgentSeat) (s : DeviceSeat) → slice_get words n ≡ Some (word.High io pin) → length c.mine ≡ length b.mine + 1 → IsMaking words n b s → IsMaking words (n + 1) c s
raised words n io pin b c s e more is = stepped words n (word.High io pin) b c s e refl refl more is

pub lowered : (words : List DevWord) (n io pin : ℕ) (b c : AgentSeat) (s : DeviceSeat) → slice_get words n ≡ Some (word.Low io pin) → length c.mine ≡ length b.mine + 1 → IsMaking words n b s → IsMaking words (n + 1) c s
lowered words n io pin b c s e more is = stepped words n (word.Low io pin) b c s e refl refl more is

-- ---- the first and the last

pub begun : (words : List DevWord) (b : AgentSeat) (s : DeviceSeat) (latch : Rattle.atomic_table.specs.Seated.TableId) → length b.mine ≡ 1 → s ≡ fresh_device_seat latch (pulses_in words) → IsMaking words 0 b s
begun words b s latch one fresh = record {
  plan = ap (λ (u : DeviceSeat). u.plan) fresh;
  going = ap (λ (u : DeviceSeat). u.ended) fresh;
  pulses = ap (λ (u : DeviceSeat). length u.log) fresh;
  ops = one;
}

-- all pulses are made
pub all_pulsed : (words : List DevWord) (b : AgentSeat) (s : DeviceSeat) → IsMaking words (length words) b s → length s.log ≡ length s.plan
all_pulsed words b s is =
    is.pulses ∙ (ap (λ (ws : List DevWord). length (filter_map pulse_of ws)) (take_all (length words) words (omega arith)) ∙ sym (ap (λ (ps : List Pulse). length ps) is.plan))

-- a device's seat stays one on a seat of the same agent
pub still_device : (d : ℕ) (words : List DevWord) (b c : AgentSeat) → IsSame b c → IsDevice d words b → IsDevice d words c
still_device d words b c same is = record {
  agent = same.1 ∙ is.agent;
  there = subst (λ (p : Plan). d < length p.devices) (sym same.2) is.there;
  words_are = is.words_are ∙ ap (λ (p : Plan). get_or p.devices d []) (sym same.2);
}

-- the worker goes on where the bus alone moved, or the latch alone
pub ended_on : (words : List DevWord) (n : ℕ) (b : AgentSeat) (s : DeviceSeat) → IsMaking words n b s → s.ended ≡ false
ended_on words n b s is = is.going

-- nor is one that has made nothing since
pub never_rests_after : (d : ℕ) (words : List DevWord) (old now new : AgentSeat) → IsConfig old.plan → IsDevice d words old → length old.mine < length (device_program words)
    → IsSame old now → now.mine ≡ old.mine → Took now offer.Next Quiet new → ⊥
never_rests_after d words old now new config is left same mine took =
    let both : IsSame old new = (took.same.0 ∙ same.0, took.same.1 ∙ same.1, took.same.2 ∙ same.2) in
    let long : length new.mine ≡ length old.mine = ap (λ (xs : List Entry). length xs) (took.tells.0 ∙ mine) in
    never_rests d words new (subst IsConfig (sym both.2) config) (still_device d words old new both is) (omega (arith, left, long)) took.tells.1

-- what is read at a place is there
pub word_at : (words : List DevWord) (n : ℕ) (w d : DevWord) → n < length words → get_or words n d ≡ w → slice_get words n ≡ Some w
word_at [] n w d lt e = absurd (omega arith)
word_at (v ∷ words) zero w d lt e = ap (λ u. Some u) e
word_at (v ∷ words) (suc n) w d lt e = word_at words n w d (omega arith) e

-- what an offer to a seat that has made nothing since comes to: nothing, or the op
pub idle_after : (old now new : AgentSeat) → IsSame old now → now.mine ≡ old.mine → Took now offer.Next Idle new → IsSame old new × (new.mine ≡ old.mine)
idle_after old now new same mine took = ((took.same.0 ∙ same.0, took.same.1 ∙ same.1, took.same.2 ∙ same.2), took.tells ∙ mine)

pub made_after : (old now new : AgentSeat) → IsSame old now → now.mine ≡ old.mine → Took now offer.Next Made new → IsSame old new × (length new.mine ≡ length old.mine + 1)
made_after old now new same mine took =
    let long : length new.mine ≡ length now.mine + 1 = ap (λ (xs : List Entry). length xs) took.tells.1 ∙ length-append now.mine (took.tells.0 ∷ []) in
    let none : length now.mine ≡ length old.mine = ap (λ (xs : List Entry). length xs) mine in
    ((took.same.0 ∙ same.0, took.same.1 ∙ same.1, took.same.2 ∙ same.2), omega (arith, long, none))
