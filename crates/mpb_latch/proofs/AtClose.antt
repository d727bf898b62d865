-- What is known of the views at the end, said of the seats, the logs and the counts.
use Rattle.std.proofs.Common.{◌≡◌, ◌⊎◌, ℕ, ◌+◌, ◌<◌, true, List, [], length, get_or, map, take, sum_by, All, Any, sym, ap, ◌∙◌, subst, arith, ⊎_elim, inl, inr}
use Rattle.std.specs.Prelude.{Some, IsSome}
use Rattle.std.specs.List.{range_with_len}
use Rattle.std.proofs.Math.Seq.{take-length}
use Rattle.std.proofs.lemmas.List.{length-map, get_or-map}
use Rattle.std.proofs.lemmas.List.FromFn.{length-range_with_len, get_or-range_with_len}
use Rattle.mpb_spec.specs.declared.pulse.Pulse.{Pulse}
use Rattle.mpb_spec.specs.declared.pulse.Hit.{Hit}
use Rattle.mpb_spec.specs.declared.pulse.Hit.TheVariants.{New}
use Rattle.mpb_latch.specs.declared.view.DeviceView.{DeviceView}
use Rattle.mpb_latch.specs.declared.view.CollectorView.{CollectorView}
use Rattle.mpb_spec.specs.Pulses.{FollowsPlan, pulses_of, first_hit, new_hits, new_hits_in, hits, starts}
use Rattle.mpb_latch.specs.Seats.{DeviceSeat, CollectorSeat}
use Rattle.mpb_latch.specs.Rule.{no_collector, known_device, known_collector, DeviceFits, SettlesAt}
use Rattle.mpb_spec.proofs.Logs.{first_new, first_hits, starts_le}
use Rattle.mpb_spec.proofs.Lists.{All_map, sum_map, all_mapped, sum_above, any_above}
use Rattle.mpb_latch.proofs.Starts.{counts_at}

module _ (seats : List DeviceSeat) (cols : List CollectorSeat) (devices : List DeviceView) (collectors : List CollectorView) (logs : List (List (Pulse × Hit))) (counts : List (List ℕ))
    (devices_are : devices ≡ map known_device seats) (collectors_are : collectors ≡ map known_collector cols) (logs_are : logs ≡ map (λ s. s.log) seats) (counts_are : counts ≡ map (λ c. c.counts) cols) where
  sum_logs : (f : List (Pulse × Hit) → ℕ) → sum_by f logs ≡ sum_by (λ d. f d.log) devices
  sum_logs f =
      ap (λ ls. sum_by f ls) logs_are
      ∙ sum_map f (λ (s : DeviceSeat). s.log) seats
      ∙ sym (sum_map (λ (d : DeviceView). f d.log) known_device seats)
      ∙ sym (ap (λ ds. sum_by (λ (d : DeviceView). f d.log) ds) devices_are)

  pub count_of : (io : ℕ) → io < length cols → get_or counts io [] ≡ (get_or collectors io no_collector).counts
  count_of io l = ap (λ zs. get_or zs io []) counts_are ∙ counts_at known_collector cols io l ∙ sym (ap (λ cs. (get_or cs io no_collector).counts) collectors_are)

  pub hits_settle : (io pin : ℕ) → io < length cols → SettlesAt io pin devices collectors → (new_hits io pin logs ≡ get_or (get_or counts io []) pin 0) ⊎ (new_hits io pin logs ≡ get_or (get_or counts io []) pin 0 + 1)
  hits_settle io pin l h =
      let a = sum_logs (new_hits_in io pin) in
      let b = ap (λ cs. get_or cs pin 0) (count_of io l) in
      ⊎_elim (λ e. inl (omega arith)) (λ e. inr (omega arith)) h.0

  pub dry_settles : (ios : ℕ) → map (λ c. c.io) cols ≡ range_with_len 0 ios → ((io pin : ℕ) → io < ios → pin < 24 → SettlesAt io pin devices collectors) → All (λ c. c.dry ≡ true → (pin : ℕ) → pin < 24 → new_hits c.io pin logs ≡ get_or c.counts pin 0) cols
  dry_settles ios places settled k d l dry pin m =
      let many : length cols ≡ ios = sym (length-map cols (λ (c : CollectorSeat). c.io)) ∙ ap (λ xs. length xs) places ∙ length-range_with_len 0 ios in
      let place : (get_or cols k d).io ≡ 0 + k = sym (get_or-map (λ (c : CollectorSeat). c.io) cols k d 0 l) ∙ ap (λ xs. get_or xs k 0) places ∙ get_or-range_with_len 0 ios k 0 (omega arith) in
      let known : get_or collectors k no_collector ≡ known_collector (get_or cols k d) = ap (λ cs. get_or cs k no_collector) collectors_are ∙ get_or-map known_collector cols k d no_collector l in
      let h = (settled k pin (omega arith) m).1 (ap (λ (c : CollectorView). c.dry) known ∙ dry) in
      let a = sum_logs (new_hits_in k pin) in
      let b = ap (λ (c : CollectorView). get_or c.counts pin 0) known in
      let here : k ≡ (get_or cols k d).io = omega arith in
      subst (λ (io : ℕ). new_hits io pin logs ≡ get_or (get_or cols k d).counts pin 0) here (a ∙ h ∙ b)

  pub first_settles : (io pin : ℕ) → (0 < sum_by (λ d. hits io pin d.log) devices → 0 < sum_by (λ d. starts io pin d.log) devices) → Any (λ log. IsSome (first_hit io pin log)) logs → Any (λ log. first_hit io pin log ≡ Some New) logs
  first_settles io pin started any =
      let some : 0 < sum_by (hits io pin) logs = sum_above (hits io pin) logs (any.0, any.1, any.2, any.3, first_hits io pin any.1 any.4) in
      let a = sum_logs (hits io pin) in
      let b = sum_logs (starts io pin) in
      let s = started (omega arith) in
      let one = any_above (starts io pin) logs (omega arith) in
      let le = starts_le io pin one.1 in
      let more = one.4 in
      (one.0, one.1, one.2, one.3, first_new io pin one.1 (omega arith))

  pub plans_settle : All DeviceFits devices → All (λ s. FollowsPlan s.log s.plan × (s.ended ≡ true → pulses_of s.log ≡ s.plan)) seats
  plans_settle fits =
      All_map (λ (s : DeviceSeat). DeviceFits (known_device s)) (λ (s : DeviceSeat). FollowsPlan s.log s.plan × (s.ended ≡ true → pulses_of s.log ≡ s.plan)) seats
      (λ s f. (f.0, λ e. f.0 ∙ ap (λ n. take n s.plan) (f.1 e) ∙ take-length s.plan))
      (all_mapped DeviceFits known_device seats devices devices_are fits)
