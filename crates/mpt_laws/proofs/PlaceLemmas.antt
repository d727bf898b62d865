-- The places of an area.
use Rattle.std.proofs.Common.{◌≡◌, ℕ, ◌+◌, ◌-◌, ◌*◌, ◌/◌, ◌<◌, sym, refl, ◌∙◌, arith}
use Rattle.std.specs.Prelude.{◌↔◌}
use Rattle.std.specs.List.{Contains}
use Rattle.std.proofs.lemmas.List.FromFn.{length-map-range_with_len, get_or-map-range_with_len}
use Rattle.mpt_spec.specs.declared.pointer.Area.{Area}
use Rattle.mpt_spec.specs.Search.{places_in}
use Rattle.mpt_laws.specs.Laws.{IsPlaceOf}

-- the places of an area are the multiples of 16 inside it with 16 bytes before its end
places_are : (area : Area) (place : ℕ) → Contains (places_in area) place → IsPlaceOf area place
places_are area place h =
    let a : ℕ = (area.from + 15) / 16 in
    let n : ℕ = area.to / 16 - a in
    let within : h.0 < n = rw (length-map-range_with_len (λ k. 16 * k) a n) at h.1 in
    let value : 16 * (a + h.0) ≡ place = sym (get_or-map-range_with_len (λ k. 16 * k) a n h.0 (a + h.0) place within refl) ∙ h.2 in
    record { boundary = omega arith; after_start = omega arith; whole = omega arith }

are_places : (area : Area) (place : ℕ) → IsPlaceOf area place → Contains (places_in area) place
are_places area place h =
    let a : ℕ = (area.from + 15) / 16 in
    let n : ℕ = area.to / 16 - a in
    let k : ℕ = place / 16 - a in
    let within : k < n = omega (arith, h) in
    let sum : a + k ≡ place / 16 = omega (arith, h) in
    let value : 16 * (place / 16) ≡ place = omega (arith, h) in
    (k, rw (length-map-range_with_len (λ k. 16 * k) a n) within, get_or-map-range_with_len (λ k. 16 * k) a n k (place / 16) place within sum ∙ value)

pub Contains-places_in : (area : Area) (place : ℕ) → Contains (places_in area) place ↔ IsPlaceOf area place
Contains-places_in area place = (places_are area place, are_places area place)
