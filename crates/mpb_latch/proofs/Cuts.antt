-- Views cut in two and put together, and what is known at the end.
use Rattle.std.proofs.Common.{◌≡◌, ◌≢◌, ◌⊎◌, ℕ, zero, suc, ◌+◌, ◌^◌, ◌<◌, ◌≤◌, Bool, true, false, cond, replicate, take, drop, true≢false, eqb, eq-eqb, ne_eqb, List, [], ◌∷◌, ◌++◌, length, set, get_or, map, sum_by, All, refl, sym, ap, ◌∙◌, subst, arith, ⊎_elim, inl, inr}
use mathlib.Core.Option.{some, some-injective, some-ne-none}
use lib.ListN.{get_elem?}
use Rattle.std.proofs.lemmas.List.Elements.{All-cons, All-nil, All-append, All-head, All-tail}
use Rattle.std.proofs.lemmas.List.{length-map, length-take-le, get_or-map}
use Rattle.std.proofs.lemmas.List.FromFn.{length-range_with_len, get_or-range_with_len, length-map-range_with_len}
use Rattle.std.specs.List.{range_with_len}
use Rattle.std.proofs.lemmas.List.Sums.{sum_by_push, sum_by-append, sum_by-cons}
use Rattle.std.proofs.lemmas.Nat.Bits.{bit_at-lt, bit_at-zero}
use Rattle.std.specs.Int.{bit_at}
use Rattle.atomic_table.specs.Table.{State, Splits, Joins, opening}
use Rattle.atomic_table.proofs.Lists.{at_set, at_snoc}
use Rattle.mpb_spec.specs.declared.pulse.Pulse.{Pulse}
use Rattle.mpb_latch.specs.declared.view.DeviceView.{DeviceView}
use Rattle.mpb_latch.specs.declared.view.CollectorView.{CollectorView}
use Rattle.mpb_latch.specs.declared.view.SeatView.{SeatView}
use Rattle.mpb_spec.specs.Pulses.{planned_in, new_hits_in, hits, starts}
use Rattle.mpb_spec.specs.Lists.{one_if, rest_of, first_of_list}
use Rattle.mpb_latch.specs.Rule.{Plans, device, collector, device_of, collector_of, no_device, no_collector, nobody, together, without_device, first_device, without_collector, first_collector, over_devices, over_collectors, count_at, DeviceFits, CollectorFits, IsBalanced, SettlesAt, opening_view, fresh_device, fresh_collector, fresh_collectors}
use Rattle.mpb_spec.proofs.Lists.{sum_set, each_set, All_map, ones_le, sum_none, count_all}
use Rattle.mpb_latch.proofs.Sums.{over-le_all}
use Rattle.mpb_spec.proofs.Logs.{news-le-hits, hits-le-planned}
use Rattle.mpb_latch.proofs.Pulses.{over-le}

-- only who has which device and collector has changed
module _ (ios : ℕ) (plans : Plans) (s : State (Unit {0}) SeatView) (views : List SeatView) (ok : IsBalanced ios plans s)
    (devs : (f : DeviceView → ℕ) → over_devices f views ≡ over_devices f s.views) (cols : (f : CollectorView → ℕ) → over_collectors f views ≡ over_collectors f s.views)
    (each : (D : DeviceView → Type 0) (C : CollectorView → Type 0) → ((id : ℕ) (v : SeatView) → get_elem? s.views id ≡ some v → All D v.devices × All C v.collectors) → (id : ℕ) (v : SeatView) → get_elem? views id ≡ some v → All D v.devices × All C v.collectors) where
  kept : (id : ℕ) (v : SeatView) → get_elem? views id ≡ some v → All DeviceFits v.devices × All (CollectorFits plans s.words) v.collectors
  kept = each DeviceFits (CollectorFits plans s.words) (λ id v e. (ok.each_device id v e, ok.each_collector id v e))

  pub resorted : IsBalanced ios plans record { words = s.words; homes = s.homes; views = views }
  resorted = record {
    wide = ok.wide;
    short = ok.short;
    devices = devs (λ _. 1) ∙ ok.devices;
    collectors = cols (λ _. 1) ∙ ok.collectors;
    ended = ok.ended ∙ sym (devs (λ d. one_if d.ended));
    narrow = ok.narrow;
    balance = λ io pin l m. devs (λ d. new_hits_in io pin d.log) ∙ ok.balance io pin l m ∙ ap (λ k. k + bit_at (get_or s.words (io + 1) 0) pin) (sym (cols (count_at io pin)));
    planned_all = λ io pin. devs (λ d. planned_in io pin d.plan) ∙ ok.planned_all io pin;
    started = λ io pin h. subst (λ k. 0 < k) (sym (devs (λ d. starts io pin d.log))) (ok.started io pin (subst (λ k. 0 < k) (devs (λ d. hits io pin d.log)) h));
    each_device = λ id v e. (kept id v e).0;
    each_collector = λ id v e. (kept id v e).1;
  }

cut_sum : {A : Type 0} (f : A → ℕ) (xs : List A) → sum_by f (rest_of xs) + sum_by f (first_of_list xs) ≡ sum_by f xs
cut_sum f [] = refl
cut_sum f (x ∷ xs) = omega (arith, sum_by-cons f x xs)

All_rest : {A : Type 0} (P : A → Type 0) (xs : List A) → All P xs → All P (rest_of xs)
All_rest P [] h = h
All_rest P (x ∷ xs) h = All-tail P x xs h

All_first : {A : Type 0} (P : A → Type 0) (xs : List A) → All P xs → All P (first_of_list xs)
All_first P [] h = h
All_first P (x ∷ xs) h = All-cons P x [] (All-head P x xs h) (All-nil P)

pub cuts_device : (ios : ℕ) (plans : Plans) (id : ℕ) (v : SeatView) → Splits (IsBalanced ios plans) id v (without_device v) (first_device v)
cuts_device ios plans id v s ok at = resorted ios plans s (set s.views id (without_device v) ++ first_device v ∷ []) ok
    (λ f. (let a = sum_by_push (λ (u : SeatView). sum_by f u.devices) (set s.views id (without_device v)) (first_device v) in let b = sum_set (λ (u : SeatView). sum_by f u.devices) s.views id v (without_device v) at in let c = cut_sum f v.devices in omega arith))
    (λ f. (let a = sum_by_push (λ (u : SeatView). sum_by f u.collectors) (set s.views id (without_device v)) (first_device v) in let b = sum_set (λ (u : SeatView). sum_by f u.collectors) s.views id v (without_device v) at in omega arith))
    (λ D C h j u e. ⊎_elim
    (λ was. each_set (λ (w : SeatView). All D w.devices × All C w.collectors) s.views id (without_device v) h (All_rest D v.devices (h id v at).0, (h id v at).1) j u was)
    (λ (same : first_device v ≡ u). subst (λ (w : SeatView). All D w.devices × All C w.collectors) same (All_first D v.devices (h id v at).0, All-nil C))
    (at_snoc (set s.views id (without_device v)) (first_device v) u j e))

pub joins_views : (ios : ℕ) (plans : Plans) (id other : ℕ) (v w : SeatView) → Joins (IsBalanced ios plans) id v other w (together v w) nobody
joins_views ios plans id other v w s ok at apart there =
    let first = set s.views id (together v w) in
    let their = ⊎_elim (λ (t : (other ≡ id) × (together v w ≡ w)). absurd (apart t.0)) (λ (t : (other ≢ id) × (get_elem? s.views other ≡ some w)). t.1) (at_set s.views id other (together v w) w there) in
    resorted ios plans s (set first other nobody) ok
    (λ f. (let a = sum_set (λ (u : SeatView). sum_by f u.devices) s.views id v (together v w) at in let b = sum_set (λ (u : SeatView). sum_by f u.devices) first other w nobody there in let c = sum_by-append f v.devices w.devices in omega arith))
    (λ f. (let a = sum_set (λ (u : SeatView). sum_by f u.collectors) s.views id v (together v w) at in let b = sum_set (λ (u : SeatView). sum_by f u.collectors) first other w nobody there in let c = sum_by-append f v.collectors w.collectors in omega arith))
    (λ D C h. each_set (λ (u : SeatView). All D u.devices × All C u.collectors) first other nobody
    (each_set (λ (u : SeatView). All D u.devices × All C u.collectors) s.views id (together v w) h (All-append D v.devices w.devices (h id v at).0 (h other w their).0, All-append C v.collectors w.collectors (h id v at).1 (h other w their).1))
    (All-nil D, All-nil C))

pub cuts_collector : (ios : ℕ) (plans : Plans) (id : ℕ) (v : SeatView) → Splits (IsBalanced ios plans) id v (without_collector v) (first_collector v)
cuts_collector ios plans id v s ok at = resorted ios plans s (set s.views id (without_collector v) ++ first_collector v ∷ []) ok
    (λ f. (let a = sum_by_push (λ (u : SeatView). sum_by f u.devices) (set s.views id (without_collector v)) (first_collector v) in let b = sum_set (λ (u : SeatView). sum_by f u.devices) s.views id v (without_collector v) at in omega arith))
    (λ f. (let a = sum_by_push (λ (u : SeatView). sum_by f u.collectors) (set s.views id (without_collector v)) (first_collector v) in let b = sum_set (λ (u : SeatView). sum_by f u.collectors) s.views id v (without_collector v) at in let c = cut_sum f v.collectors in omega arith))
    (λ D C h j u e. ⊎_elim
    (λ was. each_set (λ (w : SeatView). All D w.devices × All C w.collectors) s.views id (without_collector v) h ((h id v at).0, All_rest C v.collectors (h id v at).1) j u was)
    (λ (same : first_collector v ≡ u). subst (λ (w : SeatView). All D w.devices × All C w.collectors) same (All-nil D, All_first C v.collectors (h id v at).1))
    (at_snoc (set s.views id (without_collector v)) (first_collector v) u j e))

pub first_collector_is : (v : SeatView) → 0 < length v.collectors → first_collector v ≡ collector (collector_of v)
first_collector_is v h = by_list v.collectors h
  where
    by_list : (l : List CollectorView) → 0 < length l → record { devices = []; collectors = first_of_list l } ≡ collector (get_or l 0 no_collector)
    by_list [] h = absurd (omega arith)
    by_list (x ∷ xs) h = refl

pub first_is : (v : SeatView) → 0 < length v.devices → first_device v ≡ device (device_of v)
first_is v h = by_list v.devices h
  where
    by_list : (l : List DeviceView) → 0 < length l → record { devices = first_of_list l; collectors = [] } ≡ device (get_or l 0 no_device)
    by_list [] h = absurd (omega arith)
    by_list (x ∷ xs) h = refl

-- where one view has all devices, nobody else has any
module _ {A : Type 0} (part : SeatView → List A) (f : A → ℕ) where
  none_else : (views : List SeatView) → sum_by (λ v. sum_by (λ (_ : A). 1) (part v)) views ≡ 0 → sum_by (λ v. sum_by f (part v)) views ≡ 0
  none_else [] e = refl
  none_else (v ∷ vs) e =
      let a = sum_by-cons (λ (u : SeatView). sum_by (λ (_ : A). 1) (part u)) v vs in
      let b = count_all (part v) in
      let c = sum_none f (part v) (omega arith) in
      let d = none_else vs (omega arith) in
      let g = sum_by-cons (λ (u : SeatView). sum_by f (part u)) v vs in
      omega arith

  pub alone : (views : List SeatView) (id : ℕ) (v : SeatView) → get_elem? views id ≡ some v → part nobody ≡ [] → sum_by (λ v. sum_by (λ (_ : A). 1) (part v)) views ≡ length (part v) → sum_by (λ v. sum_by f (part v)) views ≡ sum_by f (part v)
  alone views id v at none all =
      let a = sum_set (λ (u : SeatView). sum_by (λ (_ : A). 1) (part u)) views id v nobody at in
      let b = count_all (part v) in
      let z = ap (λ (l : List A). sum_by (λ (_ : A). 1) l) none in
      let c = none_else (set views id nobody) (omega arith) in
      let d = sum_set (λ (u : SeatView). sum_by f (part u)) views id v nobody at in
      let z' = ap (λ (l : List A). sum_by f l) none in
      omega arith

all_ended : (devs : List DeviceView) → sum_by (λ (d : DeviceView). one_if d.ended) devs ≡ length devs → All (λ d. d.ended ≡ true) devs
all_ended [] e = All-nil (λ (d : DeviceView). d.ended ≡ true)
all_ended (d ∷ ds) e = by_mark d.ended refl (le ds) (all_ended ds)
  where
    sums : sum_by (λ (x : DeviceView). one_if x.ended) (d ∷ ds) ≡ one_if d.ended + sum_by (λ (x : DeviceView). one_if x.ended) ds
    sums = sum_by-cons (λ (x : DeviceView). one_if x.ended) d ds

    le : (xs : List DeviceView) → sum_by (λ (x : DeviceView). one_if x.ended) xs ≤ length xs
    le [] = omega arith
    le (x ∷ xs) = (let h = le xs in let g = ones_le x.ended in omega (arith, sum_by-cons (λ (y : DeviceView). one_if y.ended) x xs))

    by_mark : (b : Bool) → d.ended ≡ b → sum_by (λ (x : DeviceView). one_if x.ended) ds ≤ length ds → (sum_by (λ (x : DeviceView). one_if x.ended) ds ≡ length ds → All (λ x. x.ended ≡ true) ds) → All (λ x. x.ended ≡ true) (d ∷ ds)
    by_mark true m few rest = (let o = ap one_if m in All-cons (λ (x : DeviceView). x.ended ≡ true) d ds m (rest (let s = sums in omega arith)))
    by_mark false m few rest = absurd (let o = ap one_if m in let s = sums in omega arith)

-- the collectors in order: one of them counts for an I/O APIC
none_at : (k pin a n : ℕ) (cols : List CollectorView) → map (λ c. c.io) cols ≡ range_with_len a n → k < a → sum_by (count_at k pin) cols ≡ 0
none_at k pin a n [] e l = refl
none_at k pin a zero (c ∷ cs) e l = absurd (let n : suc (length (map (λ (x : CollectorView). x.io) cs)) ≡ 0 = ap (λ (xs : List ℕ). length xs) e in omega arith)
none_at k pin a (suc n) (c ∷ cs) e l =
    let head : c.io ≡ a = ap (λ (xs : List ℕ). get_or xs 0 0) e in
    let tail = none_at k pin (a + 1) n cs (ap (drop 1) e) (omega arith) in
    let off = ap (λ b. cond b (get_or c.counts pin 0) 0) (ne_eqb c.io k (λ same. absurd (omega arith))) in
    omega (arith, sum_by-cons (count_at k pin) c cs)

only_count : (pin a n k : ℕ) (cols : List CollectorView) → map (λ c. c.io) cols ≡ range_with_len a n → k < n → sum_by (count_at (a + k) pin) cols ≡ get_or (get_or cols k no_collector).counts pin 0
only_count pin a zero k cols e l = absurd (omega arith)
only_count pin a (suc n) k [] e l = absurd (let m : 0 ≡ suc (length (range_with_len (a + 1) n)) = ap (λ (xs : List ℕ). length xs) e in omega arith)
only_count pin a (suc n) zero (c ∷ cs) e l =
    let head : c.io ≡ a = ap (λ (xs : List ℕ). get_or xs 0 0) e in
    let tail = none_at (a + 0) pin (a + 1) n cs (ap (drop 1) e) (omega arith) in
    let on = ap (λ b. cond b (get_or c.counts pin 0) 0) (eq-eqb c.io (a + 0) (omega arith)) in
    omega (arith, sum_by-cons (count_at (a + 0) pin) c cs)
only_count pin a (suc n) (suc k) (c ∷ cs) e l =
    let head : c.io ≡ a = ap (λ (xs : List ℕ). get_or xs 0 0) e in
    let tail = only_count pin (a + 1) n k cs (ap (drop 1) e) (omega arith) in
    let place : a + 1 + k ≡ a + suc k = omega arith in
    let moved = ap (λ j. sum_by (count_at j pin) cs) place in
    let off = ap (λ b. cond b (get_or c.counts pin 0) 0) (ne_eqb c.io (a + suc k) (λ same. absurd (omega arith))) in
    omega (arith, sum_by-cons (count_at (a + suc k) pin) c cs)

module _ (ios : ℕ) (plans : Plans) (s : State (Unit {0}) SeatView) (id : ℕ) (v : SeatView) (ok : IsBalanced ios plans s) (at : get_elem? s.views id ≡ some v) (all_devs : length v.devices ≡ length plans) (all_cols : map (λ c. c.io) v.collectors ≡ range_with_len 0 ios) where
  devs_are : (f : DeviceView → ℕ) → over_devices f s.views ≡ sum_by f v.devices
  devs_are f = alone (λ (u : SeatView). u.devices) f s.views id v at refl (ok.devices ∙ sym all_devs)

  cols_count : length v.collectors ≡ ios
  cols_count = sym (length-map v.collectors (λ c. c.io)) ∙ ap (λ (xs : List ℕ). length xs) all_cols ∙ length-range_with_len 0 ios

  cols_are : (f : CollectorView → ℕ) → over_collectors f s.views ≡ sum_by f v.collectors
  cols_are f = alone (λ (u : SeatView). u.collectors) f s.views id v at refl (ok.collectors ∙ sym cols_count)

  place_of : (io : ℕ) → io < ios → (get_or v.collectors io no_collector).io ≡ io
  place_of io l = sym (get_or-map (λ (c : CollectorView). c.io) v.collectors io no_collector 0 (let n = cols_count in omega arith)) ∙ ap (λ (xs : List ℕ). get_or xs io 0) all_cols ∙ get_or-range_with_len 0 ios io 0 l ∙ omega arith

  pub settles : (io pin : ℕ) → io < ios → pin < 24 → SettlesAt io pin v.devices v.collectors
  settles io pin l m =
      let d = devs_are (λ (x : DeviceView). new_hits_in io pin x.log) in
      let c = cols_are (count_at io pin) in
      let one : sum_by (count_at io pin) v.collectors ≡ get_or (get_or v.collectors io no_collector).counts pin 0 = subst (λ k. sum_by (count_at k pin) v.collectors ≡ get_or (get_or v.collectors io no_collector).counts pin 0) (let z : 0 + io ≡ io = omega arith in z) (only_count pin 0 ios io v.collectors all_cols l) in
      let b = ok.balance io pin l m in
      let few = bit_at-lt (get_or s.words (io + 1) 0) pin in (
        by_bit (bit_at (get_or s.words (io + 1) 0) pin) few (omega arith),
        λ dry.
            (let f = ok.each_collector id v at io no_collector (let n = cols_count in omega arith) in
            let z : get_or s.words (io + 1) 0 ≡ 0 = ap (λ (j : ℕ). get_or s.words (j + 1) 0) (sym (place_of io l)) ∙ (f.3 dry).1 in
            let z' = ap (λ w. bit_at w pin) z ∙ bit_at-zero pin in
            omega arith),
      )
    where
      by_bit : {a b : ℕ} (bit : ℕ) → bit < 2 → a ≡ b + bit → (a ≡ b) ⊎ (a ≡ b + 1)
      by_bit zero l e = inl (omega arith)
      by_bit (suc zero) l e = inr (omega arith)
      by_bit (suc (suc b)) l e = absurd (omega arith)

  -- no count passes what is planned
  pub counts_settle : (io pin : ℕ) → io < ios → pin < 24 → get_or (get_or v.collectors io no_collector).counts pin 0 ≤ sum_by (planned_in io pin) plans
  counts_settle io pin l m =
      let few = (settles io pin l m).0 in
      let le = over-le (λ (y : DeviceView). new_hits_in io pin y.log) (λ (y : DeviceView). hits io pin y.log) s.views (λ y. news-le-hits io pin y.log) in
      let le' = over-le_all (λ (y : DeviceView). hits io pin y.log) (λ (y : DeviceView). planned_in io pin y.plan) s.views (λ j u e. All_map DeviceFits (λ (y : DeviceView). hits io pin y.log ≤ planned_in io pin y.plan) u.devices (λ y f. hits-le-planned io pin y.log y.plan f.0) (ok.each_device j u e)) in
      let all = ok.planned_all io pin in
      let sums = devs_are (λ (x : DeviceView). new_hits_in io pin x.log) in
      ⊎_elim (λ e. omega arith) (λ e. omega arith) few

  pub starts_settle : (io pin : ℕ) → 0 < sum_by (λ d. hits io pin d.log) v.devices → 0 < sum_by (λ d. starts io pin d.log) v.devices
  starts_settle io pin h = subst (λ k. 0 < k) (devs_are (λ (x : DeviceView). starts io pin x.log)) (ok.started io pin (subst (λ k. 0 < k) (sym (devs_are (λ (x : DeviceView). hits io pin x.log))) h))

  pub full_settles : All (λ c. c.full ≡ true → All (λ d. d.ended ≡ true) v.devices) v.collectors
  full_settles k e lt full =
      let f = ok.each_collector id v at k e lt in
      all_ended v.devices (sym (devs_are (λ (x : DeviceView). one_if x.ended)) ∙ sym ok.ended ∙ f.2 full ∙ sym all_devs)

-- the beginning
all_zero : (f : DeviceView → ℕ) (plans : Plans) → ((plan : List Pulse) → f (fresh_device plan) ≡ 0) → sum_by f (map fresh_device plans) ≡ 0
all_zero f [] z = refl
all_zero f (p ∷ ps) z = (let e = z p in let h = all_zero f ps z in omega (arith, sum_by-cons f (fresh_device p) (map fresh_device ps)))

same_sum : (g : List Pulse → ℕ) (f : DeviceView → ℕ) (plans : Plans) → ((plan : List Pulse) → f (fresh_device plan) ≡ g plan) → sum_by f (map fresh_device plans) ≡ sum_by g plans
same_sum g f [] z = refl
same_sum g f (p ∷ ps) z = (let e = z p in let h = same_sum g f ps z in omega (arith, sum_by-cons f (fresh_device p) (map fresh_device ps), sum_by-cons g p ps))

fresh_all : (plans : Plans) → All DeviceFits (map fresh_device plans)
fresh_all [] = All-nil DeviceFits
fresh_all (p ∷ ps) = All-cons DeviceFits (fresh_device p) (map fresh_device ps) (refl, λ e. absurd (true≢false (sym e))) (fresh_all ps)

zeros : (n k : ℕ) → ◌≡◌ {A = ℕ} (get_or (replicate n 0) k 0) 0
zeros zero k = refl
zeros (suc n) zero = refl
zeros (suc n) (suc k) = zeros n k

zeros_taken : (n m k : ℕ) → ◌≡◌ {A = ℕ} (get_or (take n (replicate m 0)) k 0) 0
zeros_taken zero m k = refl
zeros_taken (suc n) zero k = refl
zeros_taken (suc n) (suc m) zero = refl
zeros_taken (suc n) (suc m) (suc k) = zeros_taken n m k

module _ (ios : ℕ) (plans : Plans) (few : ios ≤ 4) (short : length plans < 2 ^ 64) where
  abbrev words : List ℕ
  words = take (ios + 1) (0 ∷ 0 ∷ 0 ∷ 0 ∷ 0 ∷ [])

  zero_word : (k : ℕ) → get_or words k 0 ≡ 0
  zero_word k = zeros_taken (ios + 1) 5 k

  fresh_fits : (io : ℕ) → CollectorFits plans words (fresh_collector plans io)
  fresh_fits io = (refl, refl, (λ e. absurd (true≢false (sym e))), λ e. absurd (true≢false (sym e)))

  fresh_cols_fit : (a n : ℕ) → All (CollectorFits plans words) (map (fresh_collector plans) (range_with_len a n))
  fresh_cols_fit a zero = All-nil (CollectorFits plans words)
  fresh_cols_fit a (suc n) = All-cons (CollectorFits plans words) (fresh_collector plans a) (map (fresh_collector plans) (range_with_len (a + 1) n)) (fresh_fits a) (fresh_cols_fit (a + 1) n)

  no_count : (io pin k : ℕ) → count_at io pin (fresh_collector plans k) ≡ 0
  no_count io pin k = by_place (eqb k io)
    where
      by_place : (b : Bool) → ◌≡◌ {A = ℕ} (cond b (get_or (replicate 24 0) pin 0) 0) 0
      by_place true = zeros 24 pin
      by_place false = refl

  no_counts : (io pin a n : ℕ) → sum_by (count_at io pin) (map (fresh_collector plans) (range_with_len a n)) ≡ 0
  no_counts io pin a zero = refl
  no_counts io pin a (suc n) = (let e = no_count io pin a in let h = no_counts io pin (a + 1) n in omega (arith, sum_by-cons (count_at io pin) (fresh_collector plans a) (map (fresh_collector plans) (range_with_len (a + 1) n))))

  one_view : (id : ℕ) (v : SeatView) → get_elem? (opening_view ios plans ∷ []) id ≡ some v → All DeviceFits v.devices × All (CollectorFits plans words) v.collectors
  one_view zero v e = subst (λ (u : SeatView). All DeviceFits u.devices × All (CollectorFits plans words) u.collectors) (some-injective (opening_view ios plans) v e) (fresh_all plans, fresh_cols_fit 0 ios)
  one_view (suc id) v e = absurd (some-ne-none v (sym e))

  pub opens : IsBalanced ios plans (opening words [] (opening_view ios plans))
  opens = record {
    wide = length-take-le (ios + 1) (0 ∷ 0 ∷ 0 ∷ 0 ∷ 0 ∷ []) (omega arith);
    short = short;
    devices = (let e = same_sum (λ _. 1) (λ _. 1) plans (λ _. refl) in let c = count_all plans in omega arith);
    collectors = (let e = count_all (fresh_collectors ios plans) in let n = length-map-range_with_len (fresh_collector plans) 0 ios in omega arith);
    ended = (let e = all_zero (λ d. one_if d.ended) plans (λ _. refl) in let z = zero_word 0 in omega arith);
    narrow = λ io l. subst (λ k. k < 2 ^ 24) (sym (zero_word (io + 1))) (omega arith);
    balance = λ io pin l m. (let e = all_zero (λ d. new_hits_in io pin d.log) plans (λ _. refl) in let a = no_counts io pin 0 ios in let z = ap (λ w. bit_at w pin) (zero_word (io + 1)) ∙ bit_at-zero pin in omega arith);
    planned_all = λ io pin. (let e = same_sum (planned_in io pin) (λ d. planned_in io pin d.plan) plans (λ _. refl) in omega arith);
    started = λ io pin h. (let e = all_zero (λ d. hits io pin d.log) plans (λ _. refl) in absurd (omega arith));
    each_device = λ id v e. (one_view id v e).0;
    each_collector = λ id v e. (one_view id v e).1;
  }

pub enters : (ios : ℕ) (plans : Plans) → (s : State (Unit {0}) SeatView) → IsBalanced ios plans s → IsBalanced ios plans record { words = s.words; homes = s.homes; views = s.views ++ nobody ∷ [] }
enters ios plans s ok = resorted ios plans s (s.views ++ nobody ∷ []) ok
    (λ f. (let a = sum_by_push (λ (u : SeatView). sum_by f u.devices) s.views nobody in omega arith))
    (λ f. (let a = sum_by_push (λ (u : SeatView). sum_by f u.collectors) s.views nobody in omega arith))
    (λ D C h j u e. ⊎_elim (λ was. h j u was) (λ (same : nobody ≡ u). subst (λ (w : SeatView). All D w.devices × All C w.collectors) same (All-nil D, All-nil C)) (at_snoc s.views nobody u j e))
