-- A pulse keeps the rule.
use Rattle.std.proofs.Common.{◌≡◌, ◌≢◌, ℕ, ◌+◌, ◌*◌, ◌^◌, ◌%◌, ◌<◌, ◌≤◌, Bool, true, false, true≢false, ◌&&◌, List, [], ◌∷◌, ◌++◌, length, set, get_or, sum_by, All, bit_or, refl, sym, ap, ◌∙◌, subst, arith, length-set}
use mathlib.Core.Option.{some}
use mathlib.Core.Logic.{dite}
use native.Mathlib.Decide.{ℕ_discrete}
use lib.ListN.{get_elem?}
use Rattle.std.proofs.lemmas.Nat.{or_lt, pow_below}
use Rattle.std.proofs.Math.Nat.{mod-le}
use Rattle.std.proofs.lemmas.List.Elements.{All-cons, All-nil}
use Rattle.std.proofs.lemmas.List.{get_or-set_other, get_or-set_same}
use Rattle.std.proofs.lemmas.List.Sums.{sum_by_push, sum_by-le-sum_by}
use Rattle.std.specs.Int.{bit_at}
use Rattle.atomic_table.specs.Table.{State}
use Rattle.mpb_spec.specs.declared.pulse.Pulse.{Pulse}
use Rattle.mpb_spec.specs.declared.pulse.Hit.{Hit}
use Rattle.mpb_latch.specs.declared.view.DeviceView.{DeviceView}
use Rattle.mpb_latch.specs.declared.view.CollectorView.{CollectorView}
use Rattle.mpb_latch.specs.declared.view.SeatView.{SeatView}
use Rattle.mpb_spec.specs.Pulses.{is_on, is_new, planned_in, new_hits_in, hit_of, hits, starts}
use Rattle.mpb_spec.specs.Lists.{one_if}
use Rattle.mpb_latch.specs.Rule.{Plans, no_pulse, device, next_of, after_pulse, after_end, over_devices, over_collectors, count_at, DeviceFits, CollectorFits, IsBalanced}
use Rattle.mpb_spec.proofs.Lists.{each_set, ones_le, All_map}
use Rattle.mpb_latch.proofs.Sums.{device_step, device_at, device_leaves_collectors}
use Rattle.mpb_spec.proofs.Logs.{mark, on_gives, follows_next, news-le-hits, starts-le-push, starts-push_first, off_io, bit_step, new_at_zero}

not_true : (b : Bool) → ¬ (b ≡ true) → b ≡ false
not_true true n = absurd (n refl)
not_true false n = refl

pub over-le : (f g : DeviceView → ℕ) (views : List SeatView) → ((d : DeviceView) → f d ≤ g d) → over_devices f views ≤ over_devices g views
over-le f g views h = sum_by-le-sum_by (λ (v : SeatView). sum_by f v.devices) (λ (v : SeatView). sum_by g v.devices) views (λ v. sum_by-le-sum_by f g v.devices h)

module _ (ios : ℕ) (plans : Plans) (s : State (Unit {0}) SeatView) (id : ℕ) (d : DeviceView) (ok : IsBalanced ios plans s) (at : get_elem? s.views id ≡ some (device d)) where
  -- while a device goes on, no collector is full
  pub not_full : d.ended ≡ false → ¬ (get_or s.words 0 0 ≡ length plans)
  not_full going full =
      let d' = after_end d in
      let e = device_step s.views id (λ (x : DeviceView). one_if x.ended) d d' at in
      let n = device_step s.views id (λ (x : DeviceView). 1) d d' at in
      let le = over-le (λ (x : DeviceView). one_if x.ended) (λ (x : DeviceView). 1) (set s.views id (device d')) (λ x. ones_le x.ended) in
      let g = ap one_if going in
      let c = ok.ended in
      let t = ok.devices in
      omega arith

  -- a device that has not made all its pulses has not ended
  pub still_goes : length d.log < length d.plan → d.ended ≡ false
  still_goes more = not_true d.ended (λ e. absurd (let f = ((ok.each_device id (device d) at) 0 d (omega arith)).1 e in omega arith))

  module _ (p : Pulse) (next : next_of d ≡ p) (io_in : p.io < ios) (pin_in : p.pin < 24) (going : d.ended ≡ false) where
    abbrev n : ℕ
    n = get_or s.words (p.io + 1) 0

    abbrev new : ℕ
    new = bit_or n (1 * 2 ^ p.pin % 2 ^ 64)

    abbrev words' : List ℕ
    words' = set s.words (p.io + 1) new

    abbrev views' : List SeatView
    views' = set s.views id (device (after_pulse n d))

    abbrev pub after : State (Unit {0}) SeatView
    after = record { words = words'; homes = s.homes; views = views' }

    word_same : (i : ℕ) → i ≢ p.io + 1 → get_or words' i 0 ≡ get_or s.words i 0
    word_same i ne = get_or-set_other s.words (p.io + 1) i new 0 ne

    word_here : get_or words' (p.io + 1) 0 ≡ new
    word_here = get_or-set_same s.words (p.io + 1) new 0 (let w = ok.wide in omega arith)

    -- what the pulse adds to the new_hits_in of a pin
    abbrev adds : ℕ → ℕ → ℕ
    adds io pin = one_if (is_on io pin p && is_new (hit_of (bit_at n p.pin)))

    bits : (io pin : ℕ) → bit_at (get_or words' (io + 1) 0) pin ≡ bit_at (get_or s.words (io + 1) 0) pin + adds io pin
    bits io pin = dite (ℕ_discrete io p.io)
        (λ e. subst (λ k. bit_at (get_or words' (k + 1) 0) pin ≡ bit_at (get_or s.words (k + 1) 0) pin + adds k pin) (sym e) (ap (λ w. bit_at w pin) word_here ∙ bit_step n pin p pin_in))
        (λ ne. ap (λ w. bit_at w pin) (word_same (io + 1) (λ e. ne (omega arith))) ∙ sym (ap (λ b. bit_at (get_or s.words (io + 1) 0) pin + one_if (b && is_new (hit_of (bit_at n p.pin)))) (off_io p io pin ne) ∙ omega arith))

    abbrev x : Pulse × Hit
    x = (next_of d, hit_of (bit_at n (next_of d).pin))

    x_is : x ≡ (p, hit_of (bit_at n p.pin))
    x_is = ap (λ (q : Pulse). (q, hit_of (bit_at n q.pin))) next

    balance : (io pin : ℕ) → io < ios → pin < 24 → over_devices (λ x. new_hits_in io pin x.log) views' ≡ over_collectors (count_at io pin) views' + bit_at (get_or words' (io + 1) 0) pin
    balance io pin io_l pin_l =
        let e = device_step s.views id (λ (y : DeviceView). new_hits_in io pin y.log) d (after_pulse n d) at in
        let c = device_leaves_collectors s.views id (count_at io pin) d (after_pulse n d) at in
        let m = sum_by_push (mark io pin) d.log x in
        let a = ap (mark io pin) x_is in
        let b = bits io pin in
        let was = ok.balance io pin io_l pin_l in
        omega arith

    hits_push : (io pin : ℕ) → hits io pin (d.log ++ x ∷ []) ≡ hits io pin d.log + one_if (is_on io pin p)
    hits_push io pin = sum_by_push (λ (y : Pulse × Hit). one_if (is_on io pin y.0)) d.log x ∙ ap (λ (y : Pulse × Hit). hits io pin d.log + one_if (is_on io pin y.0)) x_is

    started : (io pin : ℕ) → 0 < over_devices (λ x. hits io pin x.log) views' → 0 < over_devices (λ x. starts io pin x.log) views'
    started io pin some_hit = dite (ℕ_discrete (over_devices (λ y. hits io pin y.log) s.views) 0) none before
      where
        stepped : over_devices (λ x. starts io pin x.log) views' + starts io pin d.log ≡ over_devices (λ x. starts io pin x.log) s.views + starts io pin (d.log ++ x ∷ [])
        stepped = device_step s.views id (λ (y : DeviceView). starts io pin y.log) d (after_pulse n d) at

        before : over_devices (λ y. hits io pin y.log) s.views ≢ 0 → 0 < over_devices (λ x. starts io pin x.log) views'
        before any = let was = ok.started io pin (omega arith) in let more = starts-le-push io pin d.log x in let e = stepped in omega arith

        by_on : over_devices (λ y. hits io pin y.log) s.views ≡ 0 → (b : Bool) → is_on io pin p ≡ b → 0 < over_devices (λ x. starts io pin x.log) views'
        by_on zero_hits false e =
            let h = device_step s.views id (λ (y : DeviceView). hits io pin y.log) d (after_pulse n d) at in
            let g = hits_push io pin in
            let t = ap one_if e in
            absurd (omega arith)
        by_on zero_hits true e =
            let place = on_gives p io pin e in
            let le = over-le (λ y. new_hits_in io pin y.log) (λ y. hits io pin y.log) s.views (λ y. news-le-hits io pin y.log) in
            let was = ok.balance io pin (omega (arith, place.0)) (omega (arith, place.1)) in
            let bit : bit_at (get_or s.words (io + 1) 0) pin ≡ 0 = omega arith in
            let bit' : bit_at n p.pin ≡ 0 = subst (λ (q : ℕ × ℕ). bit_at (get_or s.words (q.0 + 1) 0) q.1 ≡ 0) (λ i. (place.0 i, place.1 i)) bit in
            let mine = device_at s.views id (λ (y : DeviceView). hits io pin y.log) d at in
            let on : is_on io pin x.0 ≡ true = ap (λ (y : Pulse × Hit). is_on io pin y.0) x_is ∙ e in
            let new : is_new x.1 ≡ true = ap (λ (y : Pulse × Hit). is_new y.1) x_is ∙ new_at_zero (bit_at n p.pin) bit' in
            let one = starts-push_first io pin d.log x (omega arith) on new in
            let st = device_at s.views id (λ (y : DeviceView). starts io pin y.log) d at in
            let e' = stepped in
            omega arith

        none : over_devices (λ y. hits io pin y.log) s.views ≡ 0 → 0 < over_devices (λ x. starts io pin x.log) views'
        none z = by_on z (is_on io pin p) refl

    narrow : (io : ℕ) → io < ios → get_or words' (io + 1) 0 < 2 ^ 24
    narrow io l = dite (ℕ_discrete io p.io)
        (λ e. subst (λ k. get_or words' (k + 1) 0 < 2 ^ 24) (sym e) (subst (λ k. k < 2 ^ 24) (sym word_here) (or_lt 24 n (1 * 2 ^ p.pin % 2 ^ 64) (ok.narrow p.io io_in) (let b = pow_below p.pin 24 pin_in in let m = mod-le (1 * 2 ^ p.pin) (2 ^ 64) in omega arith))))
        (λ ne. subst (λ k. k < 2 ^ 24) (sym (word_same (io + 1) (λ e. ne (omega arith)))) (ok.narrow io l))

    module _ (more : length d.log < length d.plan) where
      dev_fits : DeviceFits (after_pulse n d)
      dev_fits =
          let was = (ok.each_device id (device d) at) 0 d (omega arith) in
          (follows_next d.log d.plan x no_pulse was.0 more refl, λ e. absurd (true≢false (sym e ∙ going)))

      col_fits : (c : CollectorView) → CollectorFits plans s.words c → CollectorFits plans words' c
      col_fits c f =
          let zeroth = word_same 0 (λ e. absurd (omega arith)) in
          (f.0, f.1, (λ full. zeroth ∙ f.2 full), λ dry. absurd (not_full going (f.2 (f.3 dry).0)))

      pub pulses : IsBalanced ios plans after
      pulses = record {
        wide = length-set s.words (p.io + 1) new ∙ ok.wide;
        short = ok.short;
        devices = (let e = device_step s.views id (λ (y : DeviceView). 1) d (after_pulse n d) at in let t = ok.devices in omega arith);
        collectors = device_leaves_collectors s.views id (λ (y : CollectorView). 1) d (after_pulse n d) at ∙ ok.collectors;
        ended = word_same 0 (λ e. absurd (omega arith)) ∙ (let e = device_step s.views id (λ (y : DeviceView). one_if y.ended) d (after_pulse n d) at in let t = ok.ended in omega arith);
        narrow = narrow;
        balance = balance;
        planned_all = λ io pin. (let e = device_step s.views id (λ (y : DeviceView). planned_in io pin y.plan) d (after_pulse n d) at in let t = ok.planned_all io pin in omega arith);
        started = started;
        each_device = each_set (λ (v : SeatView). All DeviceFits v.devices) s.views id (device (after_pulse n d)) ok.each_device (All-cons DeviceFits (after_pulse n d) [] dev_fits (All-nil DeviceFits));
        each_collector = each_set (λ (v : SeatView). All (CollectorFits plans words') v.collectors) s.views id (device (after_pulse n d)) (λ j v e. All_map (CollectorFits plans s.words) (CollectorFits plans words') v.collectors col_fits (ok.each_collector j v e)) (All-nil (CollectorFits plans words'));
      }
