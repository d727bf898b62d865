-- Turns of devices keep what holds of a run.
use Rattle.std.proofs.Common.{◌≡◌, ◌≢◌, ◌&&◌, ◌⊎◌, inl, inr, ⊎_elim, ℕ, zero, suc, ◌+◌, ◌^◌, ◌<◌, ◌≤◌, Bool, true, false, cond, List, [], ◌∷◌, ◌++◌, length, map, take, get_or, slice_get, sum_by, count_by, bit_or, refl, sym, ap, ◌∙◌, subst, arith, Option, None, Some, is_some, length-set}
use mathlib.Core.Logic.{dite}
use native.Mathlib.Decide.{ℕ_discrete}
use Rattle.std.specs.Int.{bit_at}
use Rattle.std.specs.Option.{option_map}
use Rattle.std.proofs.lemmas.Bool.{leb-true, le-leb, lt-leb}
use Rattle.std.proofs.lemmas.Nat.{or_lt, pow_below}
use Rattle.std.proofs.lemmas.List.{map-append, length-append, length-map, get_or-set_other, get_or-set_same}
use Rattle.std.proofs.lemmas.List.Sums.{sum_by_push, sum_by-le-sum_by, count_by-le-length}
use Rattle.mpb_spec.specs.declared.agent.Agent.TheVariants.{Dev}
use Rattle.mpb_spec.specs.declared.agent.Offer.TheVariants.{Next}
use Rattle.mpb_spec.specs.declared.agent.Op.{Op}
use Rattle.mpb_spec.specs.declared.agent.Op.TheVariants as op
use Rattle.mpb_spec.specs.declared.config.DevWord.{DevWord}
use Rattle.mpb_spec.specs.declared.config.DevWord.TheVariants as word
use Rattle.mpb_spec.specs.State.{Place, Device, BoardState, change_at, boot_is_through}
use Rattle.mpb_spec.specs.Steps.{next_op, op_of_device, unless_early, after}
use Rattle.mpb_spec.specs.Configs.{IsWordOn}
use Rattle.mpb_laws.proofs.PartsStay.{devices_stay}
use Rattle.mpb_spec.specs.declared.pulse.Pulse.{Pulse}
use Rattle.mpb_spec.specs.declared.pulse.Hit.{Hit}
use Rattle.mpb_spec.specs.Pulses.{new_hits, new_hits_in, hit_of, is_on, is_new, hits, starts}
use Rattle.mpb_spec.specs.PlainLatch.{PlainState, pins_at, pulsed}
use Rattle.mpb_spec.specs.Lists.{one_if}
use Rattle.mpb_spec.proofs.Logs.{mark, on_gives, news-le-hits, starts-le-push, starts-push_first, new_at_zero}
use Rattle.mpb_spec.proofs.PinWords.{pins_pulsed}
use Rattle.mpb_robin.specs.declared.act.Act.{Act}
use Rattle.mpb_robin.specs.declared.act.Act.TheVariants as act
use Rattle.mpb_robin.specs.RoundRobin.{Run, state_in, entry_of, with_op, with_op_of, with_step, with_made, with_pulse, with_end, acts_of, next_act, act_turn, turn}
use Rattle.mpb_robin.specs.Rest.{IsRun, IsRunAt, IsDeviceRun, is_over, op_of_act, pulse_of_act}
use Rattle.mpb_robin.proofs.Places.{length-change, at-same, at-other, or-same, or-other, sum-change, inside, is-there, or-get, by-option}
use Rattle.mpb_robin.proofs.Acts.{ops, pulses, op-at, ops-more, pulses-more, last-op, op-left, begun-before, take-more}
use Rattle.mpb_robin.proofs.Frames.{one_on, dev-devices, dev-sweeps, Through, dev-through}
use Rattle.mpb_robin.proofs.StepsKeep.{at-state, legal-with_op, collected-same, swept-before}

-- where a member fails a test, not all pass it
pub count-below : {X : Type 0} (f : X → Bool) (n : ℕ) (xs : List X) (x : X) → slice_get xs n ≡ Some x → f x ≡ false → count_by f xs < length xs
count-below f n [] x e w = cc
count-below f zero (y ∷ xs) x e w =
    let same : y ≡ x = cc in
    let c : count_by f (y ∷ xs) ≡ cond {A = ℕ} (f y) 1 0 + count_by f xs = Rattle.std.proofs.lemmas.List.Sums.sum_by-cons (λ z. cond (f z) 1 0) y xs in
    let z : cond {A = ℕ} (f y) 1 0 ≡ 0 = ap (λ b. cond {A = ℕ} b 1 0) (ap f same ∙ w) in
    omega (arith, count_by-le-length f xs)
count-below f (suc n) (y ∷ xs) x e w =
    let c : count_by f (y ∷ xs) ≡ cond {A = ℕ} (f y) 1 0 + count_by f xs = Rattle.std.proofs.lemmas.List.Sums.sum_by-cons (λ z. cond (f z) 1 0) y xs in
    let le : cond {A = ℕ} (f y) 1 0 ≤ 1 = one-most (f y) in
    let h = count-below f n xs x e w in
    omega arith
  where
    one-most : (b : Bool) → cond b 1 0 ≤ 1
    one-most true = omega arith
    one-most false = omega arith

-- ---- a device with a next act

module _ (r : Run) (d : ℕ) (v : Device) (a : Act) (ok : IsRun r) (at : slice_get (state_in r).devices d ≡ Some v) (next : next_act d r ≡ Some a) where
  abbrev words : List DevWord
  words = get_or r.plan.devices d []

  abbrev acts : List Act
  acts = acts_of words

  abbrev n : ℕ
  n = get_or r.made d 0

  abbrev log : List (Pulse × Hit)
  log = get_or r.logs d []

  pub mine : IsDeviceRun acts n log v
  mine = ok.each d v at

  -- there is such a device
  pub there : d < length r.plan.devices
  there = let l = inside d (state_in r).devices v at in let e = devices_stay r.plan r.journal in omega arith

  -- it is before its end
  pub not-over : is_over v ≡ false
  not-over = lt-leb (length v.program) v.position (let e = ap (λ (xs : List Op). length xs) mine.program in let p = mine.position in let l = op-left words n a next in omega arith)

  -- so not all devices have ended
  pub all_not_over : r.latch.ended < r.latch.devices
  all_not_over = let c = count-below is_over d (state_in r).devices v at not-over in let e = ok.ended in let t = ok.total in let l = devices_stay r.plan r.journal in omega arith

  -- and no I/O APIC has swept
  pub none-swept : (b : ℕ) (p : Place) → slice_get (state_in r).places b ≡ Some p → p.swept ≡ true → ⊥
  none-swept b p e w = let h = (ok.swept b p e w).0 in let l = all_not_over in absurd (omega arith)

  -- behind its Begin the boot program is through
  pub through-later : 0 < n → Through (state_in r)
  through-later l = ok.begun d v at (λ z. absurd (let p = mine.position in let b = begun-before words n l in omega arith))

  -- the op of its act is its next op
  pub next-op : (o : Op) → op_of_act a ≡ Some o → next_op (state_in r) (Dev d) Next ≡ unless_early (boot_is_through (state_in r)) (Some o)
  next-op o e =
      let there' : slice_get v.program v.position ≡ Some o = ap (λ xs. slice_get xs v.position) mine.program ∙ ap (λ k. slice_get (ops acts) k) mine.position ∙ op-at acts n a o next e in
      ap (λ x. op_of_device (boot_is_through (state_in r)) x) at ∙ ap (λ x. unless_early (boot_is_through (state_in r)) x) there'

  -- where it may begin, the boot program is through
  pub through-begin : op_of_act a ≡ Some op.Begin → (o : Op) → next_op (state_in r) (Dev d) Next ≡ Some o → (o ≡ op.Begin) × Through (state_in r)
  through-begin e o w = go (boot_is_through (state_in r)) refl (sym (next-op op.Begin e) ∙ w) where
    go : (b : Bool) → boot_is_through (state_in r) ≡ b → unless_early b (Some op.Begin) ≡ Some o → (o ≡ op.Begin) × Through (state_in r)
    go true t h = let same : op.Begin ≡ o = cc in (sym same, t)
    go false t h = cc

  -- ---- a step

  module _ (o : Op) (op-is : op_of_act a ≡ Some o) (no-pulse : pulse_of_act a ≡ None) (may : next_op (state_in r) (Dev d) Next ≡ Some o) (through : Through (state_in r)) where
    abbrev s : BoardState
    s = state_in r

    abbrev t : BoardState
    t = after (Dev d) o s

    devs : t.devices ≡ change_at d one_on s.devices
    devs = dev-devices d o s

    ops-one : ops (a ∷ []) ≡ o ∷ []
    ops-one = ap (λ x. Rattle.std.specs.List.cons_option x []) op-is

    pulses-none : pulses (a ∷ []) ≡ []
    pulses-none = ap (λ x. Rattle.std.specs.List.cons_option x []) no-pulse

    -- the device itself after the step
    mine-after : IsDeviceRun acts (suc n) log (one_on v)
    mine-after = record {
      program = mine.program;
      within = inside n acts a next;
      position = (let m : length (ops (take (suc n) acts)) ≡ length (ops (take n acts)) + length (ops (a ∷ [])) = ap (λ xs. length xs) (ops-more acts n a next) ∙ length-append (ops (take n acts)) (ops (a ∷ [])) in let one : length (ops (a ∷ [])) ≡ 1 = ap (λ xs. length xs) ops-one in let p = mine.position in omega arith);
      pulses = mine.pulses ∙ sym (pulses-more acts n a next ∙ ap (λ xs. pulses (take n acts) ++ xs) pulses-none ∙ Rattle.std.proofs.lemmas.List.append-nil (pulses (take n acts)));
    }

    -- which device stands at a place afterwards
    at-after : (e : ℕ) (u : Device) → slice_get t.devices e ≡ Some u → ((e ≡ d) × (u ≡ one_on v)) ⊎ ((e ≢ d) × (slice_get s.devices e ≡ Some u))
    at-after e u w = dite (ℕ_discrete e d)
        (λ same. inl (same, (let h : Some (one_on v) ≡ Some u = sym (ap (λ x. option_map one_on x) at) ∙ sym (at-same one_on d s.devices) ∙ sym (ap (λ ds. slice_get ds d) devs) ∙ ap (λ k. slice_get t.devices k) (sym same) ∙ w in let g : one_on v ≡ u = cc in sym g)))
        (λ other. inr (other, sym (at-other one_on d e s.devices other) ∙ sym (ap (λ ds. slice_get ds e) devs) ∙ w))

    each-after : (e : ℕ) (u : Device) → slice_get t.devices e ≡ Some u → IsDeviceRun (acts_of (get_or r.plan.devices e [])) (get_or (change_at d suc r.made) e 0) (get_or r.logs e []) u
    each-after e u w = ⊎_elim
        (λ h. subst (λ (q : ℕ × Device). IsDeviceRun (acts_of (get_or r.plan.devices q.0 [])) (get_or (change_at d suc r.made) q.0 0) (get_or r.logs q.0 []) q.1) (λ i. (sym h.0 i, sym h.1 i))
        (subst (λ k. IsDeviceRun acts k log (one_on v)) (sym (or-same suc d r.made 0 (let l = there in let m = ok.made in omega arith))) mine-after))
        (λ h. subst (λ k. IsDeviceRun (acts_of (get_or r.plan.devices e [])) k (get_or r.logs e []) u) (sym (or-other suc d e r.made 0 h.0)) (ok.each e u h.1))
        (at-after e u w)

    -- how many are at their end: one more where the act is the end
    over-after : (is_over (one_on v) ≡ true → a ≡ act.End) × (a ≡ act.End → is_over (one_on v) ≡ true)
    over-after =
        let e = ap (λ (xs : List Op). length xs) mine.program in
        let p = mine-after.position in (
          λ yes'. (let l = leb-true (length v.program) (suc v.position) yes' in ⊎_elim (λ h. h.0) (λ h. absurd (omega arith)) (last-op words n a next)),
          λ is-end. le-leb (length v.program) (suc v.position) (⊎_elim (λ h. (let k = h.1 in omega arith)) (λ h. absurd (end-last is-end h)) (last-op words n a next)),
        )
      where
        end-last : a ≡ act.End → length (ops (take (suc n) acts)) < length (ops acts) → ⊥
        end-last is-end l = Rattle.mpb_robin.proofs.Acts.end-is-last words n (next ∙ ap (λ x. Some x) is-end) l

    count-after : count_by is_over t.devices ≡ count_by is_over s.devices + cond (is_over (one_on v)) 1 0
    count-after =
        let f : Device → ℕ = λ u. cond (is_over u) 1 0 in
        let h = sum-change f one_on d s.devices v at in
        let z : f v ≡ 0 = ap (λ b. cond {A = ℕ} b 1 0) not-over in
        let e : count_by is_over t.devices ≡ sum_by f (change_at d one_on s.devices) = ap (λ ds. sum_by f ds) devs in
        omega arith

    pub stepped : (ended : ℕ) → ended ≡ r.latch.ended + cond (is_over (one_on v)) 1 0 → IsRunAt (record r { journal = r.journal ++ entry_of (Dev d) o s ∷ []; made = change_at d suc r.made; latch = record r.latch { ended = ended } }) t
    stepped ended is = record {
      config = ok.config;
      small = ok.small;
      legal = legal-with_op (Dev d) Next o r ok.legal may;
      words = ok.words;
      counts = ok.counts;
      made = length-change suc d r.made ∙ ok.made;
      logs = ok.logs;
      total = ok.total;
      ended = is ∙ (let c = count-after in let e = ok.ended in omega arith);
      each = each-after;
      begun = λ e u w ne. dev-through d o s through;
      latched = λ b ne. dev-through d o s through;
      narrow = ok.narrow;
      swept = λ b p e w. absurd (let h = swept-before s t b p (dev-sweeps d o s) e w in none-swept b h.0 h.1 h.2);
      balance = λ b pin l m. ok.balance b pin l m ∙ ap (λ k. k + bit_at (pins_at b r.latch) pin) (sym (collected-same b pin (Dev d) o r refl));
      counted = λ b pin l m. ok.counted b pin l m ∙ sym (collected-same b pin (Dev d) o r refl);
      wide = ok.wide;
      first = ok.first;
    }

    -- the run after it
    pub stepped-run : (ended : ℕ) → ended ≡ r.latch.ended + cond {A = ℕ} (is_over (one_on v)) 1 0 → IsRun (record r { journal = r.journal ++ entry_of (Dev d) o (state_in r) ∷ []; made = change_at d suc r.made; latch = record r.latch { ended = ended } })
    stepped-run ended is = at-state (Dev d) o r (record r { journal = r.journal ++ entry_of (Dev d) o (state_in r) ∷ []; made = change_at d suc r.made; latch = record r.latch { ended = ended } }) refl (stepped ended is)

    -- the end is on the latch too, no other act is
    pub ends-one : a ≡ act.End → ◌≡◌ {A = ℕ} (r.latch.ended + 1) (r.latch.ended + cond (is_over (one_on v)) 1 0)
    ends-one e = ap (λ b. r.latch.ended + cond {A = ℕ} b 1 0) (sym (over-after.1 e))

    pub ends-none : a ≢ act.End → ◌≡◌ {A = ℕ} r.latch.ended (r.latch.ended + cond (is_over (one_on v)) 1 0)
    ends-none ne = go (is_over (one_on v)) refl where
      go : (b : Bool) → is_over (one_on v) ≡ b → ◌≡◌ {A = ℕ} r.latch.ended (r.latch.ended + cond b 1 0)
      go true w = absurd (ne (over-after.0 w))
      go false w = omega arith

  -- ---- a pulse

  module _ (p : Pulse) (is-pulse : a ≡ act.Word (word.Pulse p.io p.pin)) (io-in : p.io < length r.plan.ios) (pin-in : p.pin < 24) where
    abbrev x : Pulse × Hit
    x = (p, hit_of (bit_at (pins_at p.io r.latch) p.pin))

    abbrev logs' : List (List (Pulse × Hit))
    logs' = change_at d (λ l. l ++ x ∷ []) r.logs

    abbrev latch' : PlainState
    latch' = pulsed p r.latch

    pulse-later : 0 < n
    pulse-later = later n next where
      later : (k : ℕ) → slice_get acts k ≡ Some a → 0 < k
      later zero e = absurd (not-begin (sym (let same : act.Begin ≡ a = cc in same) ∙ refl) is-pulse)
        where
          not-begin : a ≡ act.Begin → a ≡ act.Word (word.Pulse p.io p.pin) → ⊥
          not-begin f g = let h : act.Begin ≡ act.Word (word.Pulse p.io p.pin) = sym f ∙ g in cc
      later (suc k) e = omega arith

    log-at : slice_get r.logs d ≡ Some log
    log-at = let h = is-there d r.logs (let l = there in let m = ok.logs in omega arith) in h.1 ∙ ap (λ y. Some y) (sym (or-get d r.logs h.0 [] h.1))

    -- the bits
    fresh : (b : ℕ) → b < 2 → one_if (is_new (hit_of b)) + b ≡ 1
    fresh zero l = refl
    fresh (suc zero) l = refl
    fresh (suc (suc b)) l = absurd (omega arith)

    bits : (io pin : ℕ) → bit_at (pins_at io latch') pin ≡ bit_at (pins_at io r.latch) pin + one_if (is_on io pin p && is_new (hit_of (bit_at (pins_at p.io r.latch) p.pin)))
    bits io pin = pins_pulsed r.latch.pins p io pin (let w = ok.words in omega arith) ∙ go (is_on io pin p) refl where
      go : (b : Bool) → is_on io pin p ≡ b → cond b 1 (bit_at (pins_at io r.latch) pin) ≡ bit_at (pins_at io r.latch) pin + one_if (b && is_new (hit_of (bit_at (pins_at p.io r.latch) p.pin)))
      go true w =
          let place = on_gives p io pin w in
          let f = fresh (bit_at (pins_at p.io r.latch) p.pin) (Rattle.std.proofs.lemmas.Nat.Bits.bit_at-lt (pins_at p.io r.latch) p.pin) in
          let same : bit_at (pins_at io r.latch) pin ≡ bit_at (pins_at p.io r.latch) p.pin = ap (λ (q : ℕ × ℕ). bit_at (pins_at q.0 r.latch) q.1) (λ i. (place.0 i, place.1 i)) in
          omega arith
      go false w = omega arith

    narrow-after : (b : ℕ) → pins_at b latch' < 2 ^ 24
    narrow-after b = dite (ℕ_discrete b p.io)
        (λ e. subst (λ k. k < 2 ^ 24) (sym (ap (λ i. pins_at i latch') e ∙ get_or-set_same r.latch.pins p.io (bit_or (pins_at p.io r.latch) (2 ^ p.pin)) 0 (let w = ok.words in omega arith))) (or_lt 24 (pins_at p.io r.latch) (2 ^ p.pin) (ok.narrow p.io) (pow_below p.pin 24 pin-in)))
        (λ other. subst (λ k. k < 2 ^ 24) (sym (get_or-set_other r.latch.pins p.io b (bit_or (pins_at p.io r.latch) (2 ^ p.pin)) 0 other)) (ok.narrow b))

    -- the hits
    news-after : (io pin : ℕ) → new_hits io pin logs' ≡ new_hits io pin r.logs + one_if (is_on io pin p && is_new x.1)
    news-after io pin =
        let h = sum-change (new_hits_in io pin) (λ l. l ++ x ∷ []) d r.logs log log-at in
        let m = sum_by_push (mark io pin) log x in
        omega arith

    hits-after : (io pin : ℕ) → sum_by (hits io pin) logs' ≡ sum_by (hits io pin) r.logs + one_if (is_on io pin p)
    hits-after io pin =
        let h = sum-change (hits io pin) (λ l. l ++ x ∷ []) d r.logs log log-at in
        let m = sum_by_push (λ (y : Pulse × Hit). one_if (is_on io pin y.0)) log x in
        omega arith

    first-after : (io pin : ℕ) → 0 < sum_by (hits io pin) logs' → 0 < sum_by (starts io pin) logs'
    first-after io pin some = dite (ℕ_discrete (sum_by (hits io pin) r.logs) 0) (λ z. none z (is_on io pin p) refl) before where
      moved : sum_by (starts io pin) logs' + starts io pin log ≡ sum_by (starts io pin) r.logs + starts io pin (log ++ x ∷ [])
      moved = sum-change (starts io pin) (λ l. l ++ x ∷ []) d r.logs log log-at

      before : sum_by (hits io pin) r.logs ≢ 0 → 0 < sum_by (starts io pin) logs'
      before any = let was = ok.first io pin (omega arith) in let more = starts-le-push io pin log x in let m = moved in omega arith

      none : sum_by (hits io pin) r.logs ≡ 0 → (b : Bool) → is_on io pin p ≡ b → 0 < sum_by (starts io pin) logs'
      none z false w = absurd (let h = hits-after io pin in let t = ap one_if w in omega arith)
      none z true w =
          let place = on_gives p io pin w in
          let le = sum_by-le-sum_by (new_hits_in io pin) (hits io pin) r.logs (news-le-hits io pin) in
          let was = ok.balance io pin (let l = io-in in omega (arith, place.0)) (let l = pin-in in omega (arith, place.1)) in
          let bit : bit_at (pins_at io r.latch) pin ≡ 0 = omega arith in
          let bit' : bit_at (pins_at p.io r.latch) p.pin ≡ 0 = ap (λ (q : ℕ × ℕ). bit_at (pins_at q.0 r.latch) q.1) (λ i. (sym place.0 i, sym place.1 i)) ∙ bit in
          let at-log = Rattle.mpb_robin.proofs.Places.sum-at (hits io pin) d r.logs log log-at in
          let one = starts-push_first io pin log x (omega arith) w (new_at_zero (bit_at (pins_at p.io r.latch) p.pin) bit') in
          let le-starts = Rattle.mpb_robin.proofs.Places.sum-at (starts io pin) d r.logs log log-at in
          let m = moved in
          omega arith

    -- the device itself
    ops-same : ops (a ∷ []) ≡ []
    ops-same = ap (λ y. ops (y ∷ [])) is-pulse

    pulse-one : pulses (a ∷ []) ≡ p ∷ []
    pulse-one = ap (λ y. pulses (y ∷ [])) is-pulse

    mine-pulsed : IsDeviceRun acts (suc n) (log ++ x ∷ []) v
    mine-pulsed = record {
      program = mine.program;
      within = inside n acts a next;
      position = mine.position ∙ sym (ap (λ xs. length xs) (ops-more acts n a next ∙ ap (λ xs. ops (take n acts) ++ xs) ops-same ∙ Rattle.std.proofs.lemmas.List.append-nil (ops (take n acts))));
      pulses = map-append (λ (y : Pulse × Hit). y.0) log (x ∷ []) ∙ ap (λ xs. xs ++ p ∷ []) mine.pulses ∙ sym (pulses-more acts n a next ∙ ap (λ xs. pulses (take n acts) ++ xs) pulse-one);
    }

    each-pulsed : (e : ℕ) (u : Device) → slice_get (state_in r).devices e ≡ Some u → IsDeviceRun (acts_of (get_or r.plan.devices e [])) (get_or (change_at d suc r.made) e 0) (get_or logs' e []) u
    each-pulsed e u w = dite (ℕ_discrete e d) same other where
      same : e ≡ d → IsDeviceRun (acts_of (get_or r.plan.devices e [])) (get_or (change_at d suc r.made) e 0) (get_or logs' e []) u
      same is =
          let h : Some v ≡ Some u = sym at ∙ ap (λ k. slice_get (state_in r).devices k) (sym is) ∙ w in
          let g : v ≡ u = cc in
          subst (λ (q : ℕ × Device). IsDeviceRun (acts_of (get_or r.plan.devices q.0 [])) (get_or (change_at d suc r.made) q.0 0) (get_or logs' q.0 []) q.1) (λ i. (sym is i, g i))
          (subst (λ (q : ℕ × List (Pulse × Hit)). IsDeviceRun acts q.0 q.1 v)
          (λ i. (sym (or-same suc d r.made 0 (let l = there in let m = ok.made in omega arith)) i, sym (or-same (λ l. l ++ x ∷ []) d r.logs [] (let l = there in let m = ok.logs in omega arith)) i))
          mine-pulsed)

      other : e ≢ d → IsDeviceRun (acts_of (get_or r.plan.devices e [])) (get_or (change_at d suc r.made) e 0) (get_or logs' e []) u
      other ne = subst (λ (q : ℕ × List (Pulse × Hit)). IsDeviceRun (acts_of (get_or r.plan.devices e [])) q.0 q.1 u)
          (λ i. (sym (or-other suc d e r.made 0 ne) i, sym (or-other (λ l. l ++ x ∷ []) d e r.logs [] ne) i))
          (ok.each e u w)

    pub pulsed-run : IsRun (with_made d (with_pulse d p r))
    pulsed-run = record {
      config = ok.config;
      small = ok.small;
      legal = ok.legal;
      words = length-set r.latch.pins p.io (bit_or (pins_at p.io r.latch) (2 ^ p.pin)) ∙ ok.words;
      counts = ok.counts;
      made = length-change suc d r.made ∙ ok.made;
      logs = length-change (λ l. l ++ x ∷ []) d r.logs ∙ ok.logs;
      total = ok.total;
      ended = ok.ended;
      each = each-pulsed;
      begun = ok.begun;
      latched = λ b ne. through-later pulse-later;
      narrow = narrow-after;
      swept = λ b q e w. absurd (none-swept b q e w);
      balance = λ b pin l m. (let h = news-after b pin in let k = bits b pin in let was = ok.balance b pin l m in omega arith);
      counted = ok.counted;
      wide = ok.wide;
      first = first-after;
    }

-- ---- turns

-- the words of a device name pins that there are
pub word_in : (r : Run) (d : ℕ) (a pin : ℕ) → IsRun r → next_act d r ≡ Some (act.Word (word.Pulse a pin)) → (a < length r.plan.ios) × (pin < 24)
word_in r d a pin ok next = words-in (get_or r.plan.devices d []) (get_or r.made d 0) (all-at r.plan.devices d ok.config.words) next where
  all-at : (ds : List (List DevWord)) (k : ℕ) → Rattle.std.specs.List.AllByRecursion (Rattle.std.specs.List.AllByRecursion (IsWordOn (length r.plan.ios))) ds → Rattle.std.specs.List.AllByRecursion (IsWordOn (length r.plan.ios)) (get_or ds k [])
  all-at [] k h = tt
  all-at (ws ∷ ds) zero h = h.0
  all-at (ws ∷ ds) (suc k) h = all-at ds k h.1

  in-words : (ws : List DevWord) (k : ℕ) → Rattle.std.specs.List.AllByRecursion (IsWordOn (length r.plan.ios)) ws → slice_get (map act.Word ws ++ act.End ∷ []) k ≡ Some (act.Word (word.Pulse a pin)) → (a < length r.plan.ios) × (pin < 24)
  in-words [] zero h e = cc
  in-words [] (suc k) h e = cc
  in-words (w ∷ ws) zero h e = let same : w ≡ word.Pulse a pin = cc in subst (IsWordOn (length r.plan.ios)) same h.0
  in-words (w ∷ ws) (suc k) h e = in-words ws k h.1 e

  words-in : (ws : List DevWord) (k : ℕ) → Rattle.std.specs.List.AllByRecursion (IsWordOn (length r.plan.ios)) ws → slice_get (acts_of ws) k ≡ Some (act.Word (word.Pulse a pin)) → (a < length r.plan.ios) × (pin < 24)
  words-in ws zero h e = cc
  words-in ws (suc k) h e = in-words ws k h e

-- a later act than the first
later : (r : Run) (d : ℕ) (a : Act) → next_act d r ≡ Some a → a ≢ act.Begin → 0 < get_or r.made d 0
later r d a next ne = go (get_or r.made d 0) next where
  go : (k : ℕ) → slice_get (acts_of (get_or r.plan.devices d [])) k ≡ Some a → 0 < k
  go zero e = let same : act.Begin ≡ a = cc in absurd (ne (sym same))
  go (suc k) e = omega arith

word-begin : (w : DevWord) → act.Word w ≢ act.Begin
word-begin w e = cc

end-begin : act.End ≢ act.Begin
end-begin e = cc

word-end : (w : DevWord) → act.Word w ≢ act.End
word-end w e = cc

begin-end : act.Begin ≢ act.End
begin-end e = cc

-- an op that doesn't begin never waits
high-goes : (b : Bool) (a pin : ℕ) → unless_early b (Some (op.High a pin)) ≡ Some (op.High a pin)
high-goes b a pin = refl

pub dev_keeps : (r : Run) (d : ℕ) → IsRun r → d < length r.plan.devices → IsRun (turn (Dev d) r)
dev_keeps r d ok here = go (next_act d r) refl where
  found : (v : Device) × (slice_get (state_in r).devices d ≡ Some v)
  found = is-there d (state_in r).devices (let l = devices_stay r.plan r.journal in omega arith)

  begins : (x : Option Op) → next_op (state_in r) (Dev d) Next ≡ x → next_act d r ≡ Some act.Begin → IsRun (cond (is_some x) (with_made d (with_op_of (Dev d) x r)) r)
  begins None w next = ok
  begins (Some o) w next =
      let h = through-begin r d found.0 act.Begin ok found.1 next refl o w in
      let b = op-begin o h.0 in
      subst (λ (y : Op). IsRun (with_made d (with_op (Dev d) y r))) (sym h.0)
      (stepped-run r d found.0 act.Begin ok found.1 next op.Begin refl refl (w ∙ ap (λ y. Some y) h.0) h.1 r.latch.ended (ends-none r d found.0 act.Begin ok found.1 next op.Begin refl refl (w ∙ ap (λ y. Some y) h.0) h.1 begin-end))
    where
      op-begin : (o : Op) → o ≡ op.Begin → o ≡ op.Begin
      op-begin o e = e

  steps : (a : Act) (o : Op) → next_act d r ≡ Some a → op_of_act a ≡ Some o → pulse_of_act a ≡ None → a ≢ act.Begin → a ≢ act.End → unless_early (boot_is_through (state_in r)) (Some o) ≡ Some o → IsRun (with_made d (with_step (Dev d) Next r))
  steps a o next is no-pulse not-begin not-end goes =
      let t = through-later r d found.0 a ok found.1 next (later r d a next not-begin) in
      let w : next_op (state_in r) (Dev d) Next ≡ Some o = next-op r d found.0 a ok found.1 next o is ∙ goes in
      subst (λ (x : Option Op). IsRun (with_made d (with_op_of (Dev d) x r))) (sym w)
      (stepped-run r d found.0 a ok found.1 next o is no-pulse w t r.latch.ended (ends-none r d found.0 a ok found.1 next o is no-pulse w t not-end))

  ends : next_act d r ≡ Some act.End → IsRun (with_made d (with_end (with_step (Dev d) Next r)))
  ends next =
      let t = through-later r d found.0 act.End ok found.1 next (later r d act.End next end-begin) in
      let w : next_op (state_in r) (Dev d) Next ≡ Some op.End = next-op r d found.0 act.End ok found.1 next op.End refl in
      subst (λ (x : Option Op). IsRun (with_made d (with_end (with_op_of (Dev d) x r)))) (sym w)
      (stepped-run r d found.0 act.End ok found.1 next op.End refl refl w t (r.latch.ended + 1) (ends-one r d found.0 act.End ok found.1 next op.End refl refl w t refl))

  go : (x : Option Act) → next_act d r ≡ x → IsRun (act_turn d x r)
  go None next = ok
  go (Some act.Begin) next = begins (next_op (state_in r) (Dev d) Next) refl next
  go (Some (act.Word (word.Pulse a pin))) next =
      let p : Pulse = record { io = a; pin = pin } in
      let l = word_in r d a pin ok next in
      pulsed-run r d found.0 (act.Word (word.Pulse a pin)) ok found.1 next p refl l.0 l.1
  go (Some (act.Word (word.High a pin))) next = steps (act.Word (word.High a pin)) (op.High a pin) next refl refl (word-begin (word.High a pin)) (word-end (word.High a pin)) refl
  go (Some (act.Word (word.Low a pin))) next = steps (act.Word (word.Low a pin)) (op.Low a pin) next refl refl (word-begin (word.Low a pin)) (word-end (word.Low a pin)) refl
  go (Some act.End) next = ends next
