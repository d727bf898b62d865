-- What is added up over all views, after a change of one.
use Rattle.std.proofs.Common.{◌≡◌, ℕ, suc, ◌+◌, ◌≤◌, List, [], ◌∷◌, set, sum_by, All, refl, arith}
use mathlib.Core.Option.{some}
use lib.ListN.{get_elem?}
use Rattle.std.proofs.lemmas.List.Sums.{sum_by-cons}
use Rattle.mpb_latch.specs.declared.view.DeviceView.{DeviceView}
use Rattle.mpb_latch.specs.declared.view.CollectorView.{CollectorView}
use Rattle.mpb_latch.specs.declared.view.SeatView.{SeatView}
use Rattle.mpb_latch.specs.Rule.{device, collector, over_devices, over_collectors}
use Rattle.mpb_spec.proofs.Lists.{sum_set, sum_at}

module _ (views : List SeatView) (id : ℕ) where
  pub device_step : (f : DeviceView → ℕ) (d d' : DeviceView) → get_elem? views id ≡ some (device d) → over_devices f (set views id (device d')) + f d ≡ over_devices f views + f d'
  device_step f d d' e = let s = sum_set (λ (v : SeatView). sum_by f v.devices) views id (device d) (device d') e in omega arith

  pub device_at : (f : DeviceView → ℕ) (d : DeviceView) → get_elem? views id ≡ some (device d) → f d ≤ over_devices f views
  device_at f d e = let s = sum_at (λ (v : SeatView). sum_by f v.devices) views id (device d) e in omega arith

  pub device_leaves_collectors : (f : CollectorView → ℕ) (d d' : DeviceView) → get_elem? views id ≡ some (device d) → over_collectors f (set views id (device d')) ≡ over_collectors f views
  device_leaves_collectors f d d' e = let s = sum_set (λ (v : SeatView). sum_by f v.collectors) views id (device d) (device d') e in omega arith

  pub collector_step : (f : CollectorView → ℕ) (c c' : CollectorView) → get_elem? views id ≡ some (collector c) → over_collectors f (set views id (collector c')) + f c ≡ over_collectors f views + f c'
  collector_step f c c' e = let s = sum_set (λ (v : SeatView). sum_by f v.collectors) views id (collector c) (collector c') e in omega arith

  pub collector_at : (f : CollectorView → ℕ) (c : CollectorView) → get_elem? views id ≡ some (collector c) → f c ≤ over_collectors f views
  collector_at f c e = let s = sum_at (λ (v : SeatView). sum_by f v.collectors) views id (collector c) e in omega arith

  pub collector_leaves_devices : (f : DeviceView → ℕ) (c c' : CollectorView) → get_elem? views id ≡ some (collector c) → over_devices f (set views id (collector c')) ≡ over_devices f views
  collector_leaves_devices f c c' e = let s = sum_set (λ (v : SeatView). sum_by f v.devices) views id (collector c) (collector c') e in omega arith

sum-le_all : {A : Type 0} (f g : A → ℕ) (xs : List A) → All (λ x. f x ≤ g x) xs → sum_by f xs ≤ sum_by g xs
sum-le_all f g [] h = omega arith
sum-le_all f g (x ∷ xs) h =
    let le = sum-le_all f g xs (λ k d l. h (suc k) d (omega arith)) in
    let one = h 0 x (omega arith) in
    omega (arith, sum_by-cons f x xs, sum_by-cons g x xs)

pub over-le_all : (f g : DeviceView → ℕ) (views : List SeatView) → ((id : ℕ) (v : SeatView) → get_elem? views id ≡ some v → All (λ d. f d ≤ g d) v.devices) → over_devices f views ≤ over_devices g views
over-le_all f g [] h = omega arith
over-le_all f g (v ∷ vs) h =
    let le = over-le_all f g vs (λ id u e. h (suc id) u e) in
    let one = sum-le_all f g v.devices (h 0 v refl) in
    omega (arith, sum_by-cons (λ (u : SeatView). sum_by f u.devices) v vs, sum_by-cons (λ (u : SeatView). sum_by g u.devices) v vs)
