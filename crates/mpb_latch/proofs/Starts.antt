-- The seats as `new` gives them and `close` takes them, and how large a count may grow.
use Rattle.std.proofs.Common.{◌≡◌, ℕ, ◌+◌, ◌<◌, ◌≤◌, true, List, [], ◌∷◌, ◌++◌, length, get_or, map, take, drop, sum_by, All, sym, ap, ◌∙◌, arith}
use Rattle.std.specs.List.{range_with_len}
use Rattle.std.proofs.lemmas.List.{length-map, length-drop, get_or-map, drop_more, take_more}
use Rattle.std.proofs.lemmas.List.FromFn.{length-map-range_with_len, get_or-map-range_with_len}
use Rattle.std.proofs.lemmas.List.Sums.{sum_by-cons, sum_by-le-sum_by}
use Rattle.mpb_spec.specs.declared.pulse.Pulse.{Pulse}
use Rattle.mpb_latch.specs.declared.view.DeviceView.{DeviceView}
use Rattle.mpb_latch.specs.declared.view.CollectorView.{CollectorView}
use Rattle.mpb_spec.specs.Pulses.{is_on, planned_in}
use Rattle.mpb_spec.specs.Lists.{one_if, rest_of}
use Rattle.atomic_table.specs.Seated.{TableId}
use Rattle.mpb_latch.specs.Seats.{CollectorSeat, fresh_collector_seat}
use Rattle.mpb_latch.specs.Rule.{Plans, no_collector, fresh_collector, fresh_collectors}
use Rattle.mpb_spec.proofs.Lists.{ones_le, map_map}

pub fresh_count : (plans : Plans) (ios : ℕ) → length (fresh_collectors ios plans) ≡ ios
fresh_count plans ios = length-map-range_with_len (fresh_collector plans) 0 ios

pub fresh_at : (plans : Plans) (ios io : ℕ) → io < ios → get_or (fresh_collectors ios plans) io no_collector ≡ fresh_collector plans io
fresh_at plans ios io l = get_or-map-range_with_len (fresh_collector plans) 0 ios io io no_collector l (omega arith)

pub first_left : (plans : Plans) (ios io : ℕ) → io < ios → get_or (drop io (fresh_collectors ios plans)) 0 no_collector ≡ fresh_collector plans io
first_left plans ios io l = ap (λ xs. get_or xs 0 no_collector) (drop_more (fresh_collectors ios plans) io no_collector (let n = fresh_count plans ios in omega arith)) ∙ fresh_at plans ios io l

pub some_left : (plans : Plans) (ios io : ℕ) → io < ios → 0 < length (drop io (fresh_collectors ios plans))
some_left plans ios io l = (let n = fresh_count plans ios in let d = length-drop io (fresh_collectors ios plans) in omega arith)

pub rest_left : (plans : Plans) (ios io : ℕ) → io < ios → rest_of (drop io (fresh_collectors ios plans)) ≡ drop (io + 1) (fresh_collectors ios plans)
rest_left plans ios io l = ap (λ xs. rest_of xs) (drop_more (fresh_collectors ios plans) io no_collector (let n = fresh_count plans ios in omega arith))

pub seat_count : (id : TableId) (plans : Plans) (ios : ℕ) → length (map (fresh_collector_seat id plans) (range_with_len 0 ios)) ≡ ios
seat_count id plans ios = length-map-range_with_len (fresh_collector_seat id plans) 0 ios

pub one_seat_more : (id : TableId) (plans : Plans) (ios io : ℕ) → io < ios → take (io + 1) (map (fresh_collector_seat id plans) (range_with_len 0 ios)) ≡ take io (map (fresh_collector_seat id plans) (range_with_len 0 ios)) ++ fresh_collector_seat id plans io ∷ []
one_seat_more id plans ios io l =
    let seats = map (fresh_collector_seat id plans) (range_with_len 0 ios) in
    let none = fresh_collector_seat id plans 0 in
    take_more seats io none (let n = seat_count id plans ios in omega arith) ∙ ap (λ (c : CollectorSeat). take io seats ++ c ∷ []) (get_or-map-range_with_len (fresh_collector_seat id plans) 0 ios io io none l (omega arith))

planned-le : (io pin : ℕ) (plan : List Pulse) → planned_in io pin plan ≤ length plan
planned-le io pin [] = omega arith
planned-le io pin (p ∷ ps) = (let h = planned-le io pin ps in let o = ones_le (is_on io pin p) in omega (arith, sum_by-cons (λ (q : Pulse). one_if (is_on io pin q)) p ps))

pub all_planned-le : (io pin : ℕ) (plans : Plans) → sum_by (planned_in io pin) plans ≤ sum_by length plans
all_planned-le io pin plans = sum_by-le-sum_by (planned_in io pin) length plans (planned-le io pin)

-- what is known of the views, said of the seats
pub full_mapped : {A B : Type 0} (f : A → CollectorView) (g : B → DeviceView) (cs : List A) (ds : List B) (cols : List CollectorView) (devs : List DeviceView) → cols ≡ map f cs → devs ≡ map g ds → All (λ c. c.full ≡ true → All (λ d. d.ended ≡ true) devs) cols → All (λ c. (f c).full ≡ true → All (λ d. (g d).ended ≡ true) ds) cs
full_mapped f g cs ds cols devs ce de all k d l full k' d' l' =
    let here = ap (λ xs. get_or xs k (f d)) ce ∙ get_or-map f cs k d (f d) l in
    let there = ap (λ xs. get_or xs k' (g d')) de ∙ get_or-map g ds k' d' (g d') l' in
    let many = ap (λ (xs : List CollectorView). length xs) ce ∙ length-map cs f in
    let many' = ap (λ (xs : List DeviceView). length xs) de ∙ length-map ds g in
    let h = all k (f d) (omega arith) (ap (λ (x : CollectorView). x.full) here ∙ full) in
    ap (λ (x : DeviceView). x.ended) (sym there) ∙ h k' (g d') (omega arith)

-- the counts of a place, of the account and of its collector
pub counts_at : {A : Type 0} (f : A → CollectorView) (xs : List A) (io : ℕ) → io < length xs → get_or (map (λ x. (f x).counts) xs) io [] ≡ (get_or (map f xs) io no_collector).counts
counts_at f xs io l = ap (λ zs. get_or zs io []) (sym (map_map (λ (c : CollectorView). c.counts) f xs)) ∙ get_or-map (λ (c : CollectorView). c.counts) (map f xs) io no_collector [] (let m = length-map xs f in omega arith)
