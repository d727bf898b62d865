use Rattle.std.proofs.Common.{arith, ◌≡◌, ◌<◌, ◌≤◌, ◌+◌, ◌++◌, ◌∷◌, [], ℕ, List, All, length, get_or, slice_index, vec_capacity, subst, sym, ap, ◌∙◌, map, refl}
use Rattle.std.specs.Prelude.{slice_get, Some}
use Rattle.std.specs.Int.{bit_at}
use Rattle.std.proofs.lemmas.Option.{slice_get_within, get_or_from_slice_get}
use mathlib.Core.Option.{some}
use lib.ListN.{get_elem?}
use Rattle.atomic_table.specs.Seated.{TableId}
use Rattle.atomic_table.specs.Table.{keeps}
use Rattle.mpb_spec.specs.declared.pulse.Pulse.{Pulse}
use Rattle.mpb_spec.specs.declared.pulse.Hit.{Hit}
use Rattle.mpb_latch.specs.declared.view.DeviceView.{DeviceView}
use Rattle.mpb_spec.specs.Pulses.{FollowsPlan, hit_of}
use Rattle.mpb_latch.specs.Seats.{DeviceSeat}
use Rattle.mpb_latch.specs.Rule.{device_of, no_pulse, next_of, device, shown_device, after_pulse}
use Rattle.mpb_spec.proofs.Logs.{follows_next}
use Rattle.mpb_latch.proofs.Pulses.{still_goes, pulses}
use Rattle.mpb_latch.proofs.latch.Latch.pulse.Goals as goal

-- what the seat shows is next in its plan is next in what is known of the device
next_known : (id : TableId) (d : DeviceView) (s : DeviceSeat) (p : Pulse) → shown_device id d ≡ s → slice_get s.plan (length s.log) ≡ Some p → (length d.log < length d.plan) × (next_of d ≡ p)
next_known id d s p shown next = subst (λ (z : DeviceSeat). (length z.log < length z.plan) × (get_or z.plan (length z.log) no_pulse ≡ p)) (sym shown) (slice_get_within s.plan (length s.log) p next, get_or_from_slice_get s.plan (length s.log) p no_pulse next)

pub fetch_or-found-requires : goal.fetch_or-found-requires
fetch_or-found-requires c =
    let seat = c.seat.inside in
    let p = c.args.p in
    let d = device_of seat.seat.me.0 in
    let shown = c.seat.view_is in
    let latch = c.self.inside in
    let latch_shown = c.self.view_is in
    let key = latch.table.shared.key in
    let plans = map (λ p. p.items) key.1.value.items in
    let same_latch = ap (λ s. s.latch) shown ∙ c.requires.seat ∙ sym (ap (λ s. s.latch) latch_shown) in
    let known = next_known seat.seat.table_id d c.args.seat.now p shown c.requires.next in
    let more = known.0 in
    let next = known.1 in
    let ranged = c.seat.invariant.3 (length d.log) no_pulse more in
    let same_io = ap (λ q. q.io) next in
    let same_pin = ap (λ q. q.pin) next in
    let same_words = ap (λ t. t.words) same_latch in
    let wide = c.self.invariant.0.0 in
    let io_in : p.io < key.0 = (let r = ranged.0 in omega arith) in
    let pin_in : p.pin < 24 = (let r = ranged.1 in omega arith) in (
      same_latch,
      omega arith,
      λ s ok slots at word.
          let at' = subst (λ m. get_elem? s.views seat.seat.id ≡ some m.0) c.seat.invariant.0 at in (
            device (after_pulse (slice_index s.words (p.io + 1)) d),
            keeps,
            tt,
            pulses key.0 plans s seat.seat.id d ok at' p next io_in pin_in (still_goes key.0 plans s seat.seat.id d ok at' more) more,
            ap (λ m. (device (after_pulse (slice_index s.words (p.io + 1)) d), m)) refl,
          ),
    )

-- the device after its pulse
made : (n : ℕ) (d : DeviceView) (p : Pulse) (hit : Hit) → next_of d ≡ p → hit ≡ hit_of (bit_at n p.pin) → after_pulse n d ≡ record { plan = d.plan; log = d.log ++ (p, hit) ∷ []; ended = d.ended }
made n d p hit next is = ap (λ (x : Pulse × Hit). record { plan = d.plan; log = d.log ++ x ∷ []; ended = d.ended }) (λ i. (next i, (ap (λ (q : Pulse). hit_of (bit_at n q.pin)) next ∙ sym is) i))

pub invariant_of-seat : goal.invariant_of-seat
invariant_of-seat c =
    let seat = c.seat.inside in
    let inv = c.seat.invariant in
    let d = device_of seat.seat.me.0 in
    let p = c.args.p in
    let known = next_known seat.seat.table_id d c.args.seat.now p c.seat.view_is c.requires.next in
    let n = c.fetch_or-found.result in
    let told = c.fetch_or-found.ensures in
    let d' = after_pulse n d in
    let me : c.fetch_or-found.new.seat.me ≡ (device d', []) = told.2 ∙ ap (λ m. (device d', m.1)) inv.0 in
    let log = ap (λ (x : DeviceView). x.log) (made n d p c.hit_at-hit.result known.1 c.hit_at-hit.ensures) in
    subst (λ m. (m ≡ (device (device_of m.0), []))
    × (c.push.new.self.items ≡ (device_of m.0).log)
    × (length (device_of m.0).plan ≤ vec_capacity c.push.new.self)
    × All (λ q. (q.io + 1 < c.fetch_or-found.new.seat.table_id.words) × (q.pin < 24)) (device_of m.0).plan
    × FollowsPlan (device_of m.0).log (device_of m.0).plan) (sym me) (
      refl,
      c.in-Ok.ensures.items ∙ ap (λ (l : List (Pulse × Hit)). l ++ (p, c.hit_at-hit.result) ∷ []) inv.1 ∙ sym log,
      (let room = inv.2 in let more = c.in-Ok.ensures.capacity in omega arith),
      subst (λ (z : TableId). All (λ q. (q.io + 1 < z.words) × (q.pin < 24)) d.plan) (sym told.0) inv.3,
      follows_next d.log d.plan (next_of d, hit_of (bit_at n (next_of d).pin)) no_pulse inv.4 known.0 refl,
    )

pub returns-clause-log : goal.returns-clause-log
returns-clause-log c =
    let seat = c.seat.inside in
    let d = device_of seat.seat.me.0 in
    let p = c.args.p in
    let known = next_known seat.seat.table_id d c.args.seat.now p c.seat.view_is c.requires.next in
    let n = c.fetch_or-found.result in
    let told = c.fetch_or-found.ensures in
    ap (λ (z : TableId). shown_device z (device_of c.fetch_or-found.new.seat.me.0)) told.0
    ∙ ap (λ m. shown_device seat.seat.table_id (device_of m.0)) told.2
    ∙ ap (λ (x : DeviceView). shown_device seat.seat.table_id x) (made n d p c.hit_at-hit.result known.1 c.hit_at-hit.ensures)
    ∙ ap (λ (s : DeviceSeat). record { latch = s.latch; plan = s.plan; log = s.log ++ (p, c.hit_at-hit.result) ∷ []; ended = s.ended }) c.seat.view_is

pub returns-clause-plan : goal.returns-clause-plan
returns-clause-plan c =
    let seat = c.seat.inside in
    let d = device_of seat.seat.me.0 in
    let known = next_known seat.seat.table_id d c.args.seat.now c.args.p c.seat.view_is c.requires.next in
    let n = c.fetch_or-found.result in
    subst (λ m. FollowsPlan (device_of m.0).log (device_of m.0).plan) (sym c.fetch_or-found.ensures.2) (follows_next d.log d.plan (next_of d, hit_of (bit_at n (next_of d).pin)) no_pulse c.seat.invariant.4 known.0 refl)
