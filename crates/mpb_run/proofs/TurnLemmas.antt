-- Steps that are asked for first, and turns of devices by their next act.
use Rattle.std.proofs.Common.{◌≡◌, ◌≤◌, ◌<◌, ◌+◌, ◌^◌, ℕ, zero, suc, true, false, List, [], ◌∷◌, ◌++◌, length, map, take, get_or, slice_get, sum_by, refl, sym, ap, arith, Option, None, Some, is_some}
use Rattle.std.specs.Int.{bit_at}
use Rattle.std.specs.List.{filter_map}
use Rattle.std.proofs.lemmas.List.{length-append, length-map}
use Rattle.mpb_spec.specs.declared.config.DevWord.{DevWord}
use Rattle.mpb_spec.specs.declared.config.DevWord.TheVariants as word
use Rattle.mpb_spec.specs.Plan.{Plan, plan_size}
use Rattle.mpb_spec.specs.declared.pulse.Pulse.{Pulse}
use Rattle.mpb_spec.specs.declared.pulse.Hit.{Hit}
use Rattle.mpb_spec.specs.PlainLatch.{pins_at}
use Rattle.mpb_laws.proofs.PartsStay.{devices_stay}
use Rattle.mpb_robin.specs.declared.act.Act.{Act}
use Rattle.mpb_robin.specs.declared.act.Act.TheVariants as act
use Rattle.mpb_robin.specs.RoundRobin.{acts_of, next_act}
use Rattle.mpb_robin.specs.Rest.{IsRun, pulse_of_act}
use Rattle.mpb_robin.proofs.Places.{is-there}
use Rattle.mpb_robin.proofs.Collects.{low_counts}
use Rattle.mpb_robin.proofs.DevicesKeep.{word_in, all_not_over}
use Rattle.mpb_spec.specs.declared.agent.Agent.{Agent}
use Rattle.mpb_spec.specs.declared.agent.Offer.{Offer}
use Rattle.mpb_spec.specs.declared.agent.Op.{Op}
use Rattle.mpb_spec.specs.State.{BoardState}
use Rattle.mpb_spec.specs.Steps.{next_op}
use Rattle.mpb_spec.specs.May.{MayStep}
use Rattle.mpb_robin.specs.RoundRobin.{Run, state_in, with_step, with_op_of, with_made, send_or_sweep, act_turn}
use Rattle.mpb_spec.specs.declared.agent.Agent.TheVariants.{Io, Dev}
use Rattle.mpb_spec.specs.declared.agent.Offer.TheVariants.{Next, Sweep}
use Rattle.std.proofs.lemmas.Bool.{eq-eqb, ne_eqb}
use Rattle.std.proofs.Common.{◌==◌, Bool, cond, subst, ◌∙◌}

pub may_step : (s : BoardState) (g : Agent) (f : Offer) → is_some (next_op s g f) ≡ true → MayStep s g f
may_step s g f e = go (next_op s g f) refl e where
  go : (x : Option Op) → next_op s g f ≡ x → is_some x ≡ true → MayStep s g f
  go (Some o) w e = (o, w)
  go None w e = cc

pub no_step : (r : Run) (g : Agent) (f : Offer) → is_some (next_op (state_in r) g f) ≡ false → r ≡ with_step g f r
no_step r g f e = go (next_op (state_in r) g f) e where
  go : (x : Option Op) → is_some x ≡ false → r ≡ with_op_of g x r
  go (Some o) e = cc
  go None e = refl

-- an I/O APIC that sent
pub sends : (r s : Run) (a : ℕ) → s ≡ with_step (Io a) Next r → true ≡ is_some (next_op (state_in r) (Io a) Next) → s ≡ send_or_sweep a r
sends r s a e m = e ∙ ap (λ b. cond b (with_step (Io a) Next r) (cond (r.latch.ended == r.latch.devices) (with_step (Io a) Sweep r) r)) m

-- one with nothing to send, which leaves the run as it is
nothing_sent : (r s : Run) (a : ℕ) → s ≡ with_step (Io a) Next r → false ≡ is_some (next_op (state_in r) (Io a) Next) → s ≡ r
nothing_sent r s a e m = e ∙ sym (no_step r (Io a) Next (sym m))

rests_at : (r : Run) (a : ℕ) (over : Bool) → false ≡ is_some (next_op (state_in r) (Io a) Next) → (r.latch.ended == r.latch.devices) ≡ over → cond over (with_step (Io a) Sweep r) r ≡ send_or_sweep a r
rests_at r a over m e =
    ap (λ b. cond b (with_step (Io a) Sweep r) r) (sym e)
    ∙ ap (λ b. cond b (with_step (Io a) Next r) (cond (r.latch.ended == r.latch.devices) (with_step (Io a) Sweep r) r)) m

-- it sweeps where all devices have ended
pub sweeps : (r s t : Run) (a : ℕ) → s ≡ with_step (Io a) Next r → false ≡ is_some (next_op (state_in r) (Io a) Next) → s.latch.ended ≡ s.latch.devices → t ≡ with_step (Io a) Sweep s → t ≡ send_or_sweep a r
sweeps r s t a e m over sweep =
    let same = nothing_sent r s a e m in
    let there : r.latch.ended ≡ r.latch.devices = subst (λ (q : Run). q.latch.ended ≡ q.latch.devices) same over in
    sweep ∙ (ap (with_step (Io a) Sweep) same ∙ rests_at r a true m (eq-eqb r.latch.ended r.latch.devices there))

-- and waits where one has not
pub waits : (r s : Run) (a : ℕ) → s ≡ with_step (Io a) Next r → false ≡ is_some (next_op (state_in r) (Io a) Next) → ¬ (s.latch.ended ≡ s.latch.devices) → s ≡ send_or_sweep a r
waits r s a e m on =
    let same = nothing_sent r s a e m in
    let there : ¬ (r.latch.ended ≡ r.latch.devices) = subst (λ (q : Run). ¬ (q.latch.ended ≡ q.latch.devices)) same on in
    same ∙ rests_at r a false m (ne_eqb r.latch.ended r.latch.devices there)

-- a device that can't begin leaves the run as it is
pub stays : (r s : Run) (d : ℕ) → s ≡ with_step (Dev d) Next r → false ≡ is_some (next_op (state_in r) (Dev d) Next) → s ≡ act_turn d (Some act.Begin) r
stays r s d e m =
    (e ∙ sym (no_step r (Dev d) Next (sym m)))
    ∙ ap (λ b. cond b (with_made d (with_step (Dev d) Next r)) r) m

pub begins : (r s t : Run) (d : ℕ) → s ≡ with_step (Dev d) Next r → true ≡ is_some (next_op (state_in r) (Dev d) Next) → t ≡ with_made d s → t ≡ act_turn d (Some act.Begin) r
begins r s t d e m made =
    made ∙ (ap (with_made d) e ∙ ap (λ b. cond b (with_made d (with_step (Dev d) Next r)) r) m)

pub counts_stay : (r : Run) (g : Agent) (f : Offer) → (with_step g f r).counts ≡ r.counts
counts_stay r g f = go (next_op (state_in r) g f) where
  go : (x : Option Op) → (with_op_of g x r).counts ≡ r.counts
  go (Some o) = refl
  go None = refl

pub low : (r : Run) (a pin : ℕ) → IsRun r → a < length r.plan.ios → pin < 24 → get_or (get_or r.counts a []) pin 0 + bit_at (pins_at a r.latch) pin < 2 ^ 32
low r a pin ok l m = low_counts r a pin ok l m

-- a device's acts are few
words-few : (c : Plan) (d : ℕ) → length (get_or c.devices d []) ≤ plan_size c
words-few c d = go d c.devices (omega arith) where
  go : (k : ℕ) (ds : List (List DevWord)) → sum_by (λ ws. length ws + 2) ds ≤ plan_size c → length (get_or ds k []) ≤ plan_size c
  go k [] l = omega arith
  go zero (ws ∷ ds) l = let e = Rattle.std.proofs.lemmas.List.Sums.sum_by-cons (λ (ws : List DevWord). length ws + 2) ws ds in omega arith
  go (suc k) (ws ∷ ds) l = let e = Rattle.std.proofs.lemmas.List.Sums.sum_by-cons (λ (ws : List DevWord). length ws + 2) ws ds in go k ds (omega arith)

acts-few : (ws : List DevWord) → length (acts_of ws) ≡ length ws + 2
acts-few ws = let e = length-append (map act.Word ws) (act.End ∷ []) in let m = length-map ws act.Word in omega arith

pub made_low : (r : Run) (d : ℕ) → IsRun r → d < length r.plan.devices → get_or r.made d 0 + 1 < 2 ^ 64
made_low r d ok l =
    let v = is-there d (state_in r).devices (let e = devices_stay r.plan r.journal in omega arith) in
    let w = (ok.each d v.0 v.1).within in
    let f = words-few r.plan d in
    let a = acts-few (get_or r.plan.devices d []) in
    let s = ok.small in
    omega arith

pub pulse_in : (r : Run) (d a pin : ℕ) → IsRun r → Some (act.Word (word.Pulse a pin)) ≡ next_act d r → (a < length r.plan.ios) × (pin < 24)
pulse_in r d a pin ok next = word_in r d a pin ok (sym next)

-- of so many acts, of which the first is no pulse, fewer are pulses
pulses-few : (acts : List Act) (k : ℕ) → length (filter_map pulse_of_act (take k acts)) ≤ k
pulses-few [] zero = omega arith
pulses-few [] (suc k) = omega arith
pulses-few (x ∷ acts) zero = omega arith
pulses-few (act.Begin ∷ acts) (suc k) = (let h = pulses-few acts k in omega arith)
pulses-few (act.Word (word.Pulse a pin) ∷ acts) (suc k) = (let h = pulses-few acts k in omega arith)
pulses-few (act.Word (word.High a pin) ∷ acts) (suc k) = (let h = pulses-few acts k in omega arith)
pulses-few (act.Word (word.Low a pin) ∷ acts) (suc k) = (let h = pulses-few acts k in omega arith)
pulses-few (act.End ∷ acts) (suc k) = (let h = pulses-few acts k in omega arith)

word-place : (ws : List DevWord) (k : ℕ) (w : DevWord) → slice_get (map act.Word ws ++ act.End ∷ []) k ≡ Some (act.Word w) → k < length ws
word-place [] zero w e = cc
word-place [] (suc k) w e = cc
word-place (v ∷ ws) zero w e = omega arith
word-place (v ∷ ws) (suc k) w e = (let h = word-place ws k w e in omega arith)

less-before : (ws : List DevWord) (n : ℕ) (w : DevWord) → slice_get (acts_of ws) n ≡ Some (act.Word w) → length (filter_map pulse_of_act (take n (acts_of ws))) < length ws
less-before ws zero w e = cc
less-before ws (suc k) w e = (let l = word-place ws k w e in let h = pulses-few (map act.Word ws ++ act.End ∷ []) k in omega arith)

-- a device that pulses next has a log that is shorter than its words
pub log_in : (r : Run) (d a pin : ℕ) → IsRun r → d < length r.plan.devices → Some (act.Word (word.Pulse a pin)) ≡ next_act d r → length (get_or r.logs d []) < length (get_or r.plan.devices d [])
log_in r d a pin ok l next =
    let v = is-there d (state_in r).devices (let e = devices_stay r.plan r.journal in omega arith) in
    let log = get_or r.logs d [] in
    let less = less-before (get_or r.plan.devices d []) (get_or r.made d 0) (word.Pulse a pin) (sym next) in
    let same = ap (λ (ps : List Pulse). length ps) (ok.each d v.0 v.1).pulses in
    omega (arith, length-map log (λ (x : Pulse × Hit). x.0))

pub ends_below : (r : Run) (d : ℕ) → IsRun r → d < length r.plan.devices → Some act.End ≡ next_act d r → r.latch.ended < r.latch.devices
ends_below r d ok l next =
    let v = is-there d (state_in r).devices (let e = devices_stay r.plan r.journal in omega arith) in
    all_not_over r d v.0 act.End ok v.1 (sym next)
