-- The end of a device, a collection and a look keep the rule.
use Rattle.std.proofs.Common.{◌≡◌, ◌≢◌, ℕ, ◌+◌, ◌^◌, ◌%◌, ◌<◌, ◌≤◌, Bool, true, false, ◌&&◌, ◌||◌, eqb, cond, List, [], length, set, get_or, sum_by, All, refl, sym, ap, ◌∙◌, subst, arith, length-set, eq-eqb, ne_eqb, mod-eq_of_lt}
use mathlib.Core.Option.{some}
use mathlib.Core.Logic.{dite}
use native.Mathlib.Decide.{ℕ_discrete}
use lib.ListN.{get_elem?}
use Rattle.std.proofs.lemmas.List.{get_or-set_other, get_or-set_same, set-get_or}
use Rattle.std.proofs.lemmas.List.Elements.{All-cons, All-nil}
use Rattle.std.proofs.lemmas.Nat.Bits.{bit_at-zero}
use Rattle.std.proofs.lemmas.Bool.Decides.{nat_tests}
use Rattle.std.specs.Int.{bit_at}
use Rattle.atomic_table.specs.Table.{State}
use Rattle.mpb_latch.specs.declared.view.DeviceView.{DeviceView}
use Rattle.mpb_latch.specs.declared.view.CollectorView.{CollectorView}
use Rattle.mpb_latch.specs.declared.view.SeatView.{SeatView}
use Rattle.mpb_spec.specs.Pulses.{planned_in, new_hits_in, with_pins_from, hits, starts}
use Rattle.mpb_spec.specs.Lists.{one_if}
use Rattle.mpb_latch.specs.Rule.{Plans, device, collector, after_end, after_collect, after_look, count_at, DeviceFits, CollectorFits, IsBalanced}
use Rattle.mpb_spec.proofs.Lists.{set_at, each_set, All_map, ones_le}
use Rattle.mpb_latch.proofs.Sums.{device_step, device_leaves_collectors, collector_step, collector_at, collector_leaves_devices, over-le_all}
use Rattle.mpb_spec.proofs.Logs.{news-le-hits, hits-le-planned, add_at, length-add}
use Rattle.mpb_latch.proofs.Pulses.{not_full, over-le}

module _ (ios : ℕ) (plans : Plans) (s : State (Unit {0}) SeatView) (id : ℕ) (ok : IsBalanced ios plans s) where
  module _ (d : DeviceView) (at : get_elem? s.views id ≡ some (device d)) (going : d.ended ≡ false) (done : length d.log ≡ length d.plan) where
    abbrev ended' : ℕ
    ended' = (get_or s.words 0 0 + 1) % 2 ^ 64

    abbrev words' : List ℕ
    words' = set s.words 0 ended'

    abbrev views' : List SeatView
    views' = set s.views id (device (after_end d))

    word_same : (io : ℕ) → get_or words' (io + 1) 0 ≡ get_or s.words (io + 1) 0
    word_same io = get_or-set_other s.words 0 (io + 1) ended' 0 (λ e. absurd (omega arith))

    col_fits : (c : CollectorView) → CollectorFits plans s.words c → CollectorFits plans words' c
    col_fits c f = (f.0, f.1, (λ full. absurd (not_full ios plans s id d ok at going (f.2 full))), λ dry. absurd (not_full ios plans s id d ok at going (f.2 (f.3 dry).0)))

    pub ends : IsBalanced ios plans record { words = words'; homes = s.homes; views = views' }
    ends =
        let few = over-le (λ (y : DeviceView). one_if y.ended) (λ (y : DeviceView). 1) views' (λ y. ones_le y.ended) in
        let same = device_step s.views id (λ (y : DeviceView). 1) d (after_end d) at in
        let e = device_step s.views id (λ (y : DeviceView). one_if y.ended) d (after_end d) at in
        let g = ap one_if going in
        let t = ok.ended in
        let n = ok.devices in
        let short = ok.short in
        let here : get_or words' 0 0 ≡ ended' = get_or-set_same s.words 0 ended' 0 (let w = ok.wide in omega arith) in
        let plain : ended' ≡ get_or s.words 0 0 + 1 = mod-eq_of_lt (omega arith) in
        record {
          wide = length-set s.words 0 ended' ∙ ok.wide;
          short = ok.short;
          devices = (let m = device_step s.views id (λ (y : DeviceView). 1) d (after_end d) at in omega arith);
          collectors = device_leaves_collectors s.views id (λ (y : CollectorView). 1) d (after_end d) at ∙ ok.collectors;
          ended = here ∙ plain ∙ omega arith;
          narrow = λ io l. subst (λ k. k < 2 ^ 24) (sym (word_same io)) (ok.narrow io l);
          balance = λ io pin l m. (let a = device_step s.views id (λ (y : DeviceView). new_hits_in io pin y.log) d (after_end d) at in let b = device_leaves_collectors s.views id (count_at io pin) d (after_end d) at in let w = ap (λ k. bit_at k pin) (word_same io) in let was = ok.balance io pin l m in omega arith);
          planned_all = λ io pin. (let a = device_step s.views id (λ (y : DeviceView). planned_in io pin y.plan) d (after_end d) at in let was = ok.planned_all io pin in omega arith);
          started = λ io pin h. (let a = device_step s.views id (λ (y : DeviceView). starts io pin y.log) d (after_end d) at in let b = device_step s.views id (λ (y : DeviceView). hits io pin y.log) d (after_end d) at in let was = ok.started io pin (omega arith) in omega arith);
          each_device = each_set (λ (v : SeatView). All DeviceFits v.devices) s.views id (device (after_end d)) ok.each_device (All-cons DeviceFits (after_end d) [] (((ok.each_device id (device d) at) 0 d (omega arith)).0, λ _. done) (All-nil DeviceFits));
          each_collector = each_set (λ (v : SeatView). All (CollectorFits plans words') v.collectors) s.views id (device (after_end d)) (λ j v e. All_map (CollectorFits plans s.words) (CollectorFits plans words') v.collectors col_fits (ok.each_collector j v e)) (All-nil (CollectorFits plans words'));
        }

  module _ (c : CollectorView) (at : get_elem? s.views id ≡ some (collector c)) where
    pub mine : CollectorFits plans s.words c
    mine = (ok.each_collector id (collector c) at) 0 c (omega arith)

    dry_full : (a b : Bool) (n : ℕ) → (a ≡ true → b ≡ true) → (a || (b && eqb n 0)) ≡ true → b ≡ true
    dry_full true b n h e = h refl
    dry_full false true n h e = refl
    dry_full false false n h e = e

    module _ (io_in : c.io < ios) where
      abbrev n : ℕ
      n = get_or s.words (c.io + 1) 0

      abbrev taken : List ℕ
      taken = set s.words (c.io + 1) 0

      abbrev c' : CollectorView
      c' = after_collect n c

      abbrev counted : List SeatView
      counted = set s.views id (collector c')

      other_word : (i : ℕ) → i ≢ c.io + 1 → get_or taken i 0 ≡ get_or s.words i 0
      other_word i ne = get_or-set_other s.words (c.io + 1) i 0 0 ne

      own_word : get_or taken (c.io + 1) 0 ≡ 0
      own_word = get_or-set_same s.words (c.io + 1) 0 0 (let w = ok.wide in omega arith)

      -- a word of 0 stays 0
      stays_zero : (i : ℕ) → get_or s.words i 0 ≡ 0 → get_or taken i 0 ≡ 0
      stays_zero i z = dite (ℕ_discrete i (c.io + 1)) (λ e. ap (λ k. get_or taken k 0) e ∙ own_word) (λ ne. other_word i ne ∙ z)

      fits : (x : CollectorView) → CollectorFits plans s.words x → CollectorFits plans taken x
      fits x f = (f.0, f.1, (λ full. other_word 0 (λ e. absurd (omega arith)) ∙ f.2 full), λ dry. ((f.3 dry).0, stays_zero (x.io + 1) (f.3 dry).1))

      fits' : CollectorFits plans taken c'
      fits' = (
        mine.0,
        length-add n 0 c.counts ∙ mine.1,
        (λ full. other_word 0 (λ e. absurd (omega arith)) ∙ mine.2 full),
        λ dry. (dry_full c.dry c.full n (λ e. (mine.3 e).0) dry, own_word),
      )

      count_here : (pin : ℕ) → pin < 24 → get_or (with_pins_from n 0 c.counts) pin 0 ≡ get_or c.counts pin 0 + bit_at n pin
      count_here pin l = add_at n 0 c.counts pin (let m = mine.1 in omega arith) ∙ ap (λ (j : ℕ). get_or c.counts pin 0 + bit_at n j) (omega arith)

      counts_step : (io pin : ℕ) → pin < 24 → count_at io pin c' + bit_at (get_or taken (io + 1) 0) pin ≡ count_at io pin c + bit_at (get_or s.words (io + 1) 0) pin
      counts_step io pin l = dite (ℕ_discrete io c.io)
          (λ e. subst (λ k. count_at k pin c' + bit_at (get_or taken (k + 1) 0) pin ≡ count_at k pin c + bit_at (get_or s.words (k + 1) 0) pin) (sym e)
          (let on = eq-eqb c.io c.io refl in
          let a = ap (λ b. cond b (get_or (with_pins_from n 0 c.counts) pin 0) 0) on in
          let b = ap (λ b. cond b (get_or c.counts pin 0) 0) on in
          let z = ap (λ k. bit_at k pin) own_word ∙ bit_at-zero pin in
          let h = count_here pin l in
          omega arith))
          (λ ne. let off : eqb c.io io ≡ false = ne_eqb c.io io (λ e. ne (sym e)) in
          let a = ap (λ b. cond b (get_or (with_pins_from n 0 c.counts) pin 0) 0) off in
          let b = ap (λ b. cond b (get_or c.counts pin 0) 0) off in
          let w = ap (λ k. bit_at k pin) (other_word (io + 1) (λ e. ne (omega arith))) in
          omega arith)

      pub collects : IsBalanced ios plans record { words = taken; homes = s.homes; views = counted }
      collects = record {
        wide = length-set s.words (c.io + 1) 0 ∙ ok.wide;
        short = ok.short;
        devices = collector_leaves_devices s.views id (λ (y : DeviceView). 1) c c' at ∙ ok.devices;
        collectors = (let e = collector_step s.views id (λ (y : CollectorView). 1) c c' at in let t = ok.collectors in omega arith);
        ended = other_word 0 (λ e. absurd (omega arith)) ∙ ok.ended ∙ sym (collector_leaves_devices s.views id (λ (y : DeviceView). one_if y.ended) c c' at);
        narrow = λ io l. dite (ℕ_discrete io c.io) (λ e. subst (λ k. k < 2 ^ 24) (sym (ap (λ k. get_or taken (k + 1) 0) e ∙ own_word)) (omega arith)) (λ ne. subst (λ k. k < 2 ^ 24) (sym (other_word (io + 1) (λ e. ne (omega arith)))) (ok.narrow io l));
        balance = λ io pin l m. (let a = collector_leaves_devices s.views id (λ (y : DeviceView). new_hits_in io pin y.log) c c' at in let b = collector_step s.views id (count_at io pin) c c' at in let t = counts_step io pin m in let was = ok.balance io pin l m in omega arith);
        planned_all = λ io pin. collector_leaves_devices s.views id (λ (y : DeviceView). planned_in io pin y.plan) c c' at ∙ ok.planned_all io pin;
        started = λ io pin h. (let a = collector_leaves_devices s.views id (λ (y : DeviceView). starts io pin y.log) c c' at in let b = collector_leaves_devices s.views id (λ (y : DeviceView). hits io pin y.log) c c' at in let was = ok.started io pin (omega arith) in omega arith);
        each_device = each_set (λ (v : SeatView). All DeviceFits v.devices) s.views id (collector c') ok.each_device (All-nil DeviceFits);
        each_collector = each_set (λ (v : SeatView). All (CollectorFits plans taken) v.collectors) s.views id (collector c') (λ j v e. All_map (CollectorFits plans s.words) (CollectorFits plans taken) v.collectors fits (ok.each_collector j v e)) (All-cons (CollectorFits plans taken) c' [] fits' (All-nil (CollectorFits plans taken)));
      }

      -- no count passes what is planned
      pub counted_are_planned : (pin : ℕ) → pin < 24 → get_or (with_pins_from n 0 c.counts) pin 0 ≤ sum_by (planned_in c.io pin) c.plans
      counted_are_planned pin l =
          let now = collects.balance c.io pin io_in l in
          let at_id = collector_at counted id (count_at c.io pin) c' (set_at s.views id (collector c) (collector c') at) in
          let on = ap (λ b. cond b (get_or (with_pins_from n 0 c.counts) pin 0) 0) (eq-eqb c.io c.io refl) in
          let le = over-le (λ (y : DeviceView). new_hits_in c.io pin y.log) (λ (y : DeviceView). hits c.io pin y.log) counted (λ y. news-le-hits c.io pin y.log) in
          let le' = over-le_all (λ (y : DeviceView). hits c.io pin y.log) (λ (y : DeviceView). planned_in c.io pin y.plan) counted (λ j v e. All_map DeviceFits (λ (y : DeviceView). hits c.io pin y.log ≤ planned_in c.io pin y.plan) v.devices (λ y f. hits-le-planned c.io pin y.log y.plan f.0) (collects.each_device j v e)) in
          let all = collects.planned_all c.io pin in
          let plans_are : sum_by (planned_in c.io pin) c.plans ≡ sum_by (planned_in c.io pin) plans = ap (λ ps. sum_by (planned_in c.io pin) ps) mine.0 in
          omega arith

    abbrev m : ℕ
    m = get_or s.words 0 0

    abbrev seen : CollectorView
    seen = after_look (eqb m (length c.plans)) c

    look_fits : CollectorFits plans s.words seen
    look_fits = (
      mine.0,
      mine.1,
      (λ full. (let e = ap (λ ps. length ps) mine.0 in let t : m ≡ length c.plans = grind (arith, nat_tests) in omega arith)),
      λ dry. (eq-eqb m (length c.plans) (mine.2 (mine.3 dry).0 ∙ sym (ap (λ ps. length ps) mine.0)), (mine.3 dry).1),
    )

    pub looks : IsBalanced ios plans record { words = set s.words 0 m; homes = s.homes; views = set s.views id (collector seen) }
    looks = subst (λ ws. IsBalanced ios plans record { words = ws; homes = s.homes; views = set s.views id (collector seen) }) (sym (set-get_or s.words 0 0)) record {
      wide = ok.wide;
      short = ok.short;
      devices = collector_leaves_devices s.views id (λ (y : DeviceView). 1) c seen at ∙ ok.devices;
      collectors = (let e = collector_step s.views id (λ (y : CollectorView). 1) c seen at in let t = ok.collectors in omega arith);
      ended = ok.ended ∙ sym (collector_leaves_devices s.views id (λ (y : DeviceView). one_if y.ended) c seen at);
      narrow = ok.narrow;
      balance = λ io pin l k. (let a = collector_leaves_devices s.views id (λ (y : DeviceView). new_hits_in io pin y.log) c seen at in let b = collector_step s.views id (count_at io pin) c seen at in let was = ok.balance io pin l k in omega arith);
      planned_all = λ io pin. collector_leaves_devices s.views id (λ (y : DeviceView). planned_in io pin y.plan) c seen at ∙ ok.planned_all io pin;
      started = λ io pin h. (let a = collector_leaves_devices s.views id (λ (y : DeviceView). starts io pin y.log) c seen at in let b = collector_leaves_devices s.views id (λ (y : DeviceView). hits io pin y.log) c seen at in let was = ok.started io pin (omega arith) in omega arith);
      each_device = each_set (λ (v : SeatView). All DeviceFits v.devices) s.views id (collector seen) ok.each_device (All-nil DeviceFits);
      each_collector = each_set (λ (v : SeatView). All (CollectorFits plans s.words) v.collectors) s.views id (collector seen) ok.each_collector (All-cons (CollectorFits plans s.words) seen [] look_fits (All-nil (CollectorFits plans s.words)));
    }
