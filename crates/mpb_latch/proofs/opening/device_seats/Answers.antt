use Rattle.std.proofs.Common.{◌++◌, ◌∷◌, ◌+◌, ◌<◌, [], ℕ, List, Vec, Global, All, length, map, take, take_all, get_or, refl, sym, ap, ◌∙◌, subst, arith}
use Rattle.std.proofs.lemmas.List.{drop_all, length-map, take-map}
use Rattle.atomic_table.specs.Seated.{TableId}
use Rattle.mpb_latch.specs.declared.view.DeviceView.{DeviceView}
use Rattle.mpb_latch.specs.Seats.{DeviceSeat, fresh_device_seat}
use Rattle.mpb_latch.specs.Rule.{fresh_device, no_device, shown_device, without_device}
use Rattle.mpb_spec.specs.declared.pulse.Pulse.{Pulse}
use Rattle.mpb_spec.proofs.Lists.{map_one_more, first_of_rest, rest_of_rest, some_of_rest}
use Rattle.mpb_latch.proofs.opening.device_seats.Goals as goal

pub cut_device-seat-requires-clause-range : goal.cut_device-seat-requires-clause-range
cut_device-seat-requires-clause-range c =
    let plans = c.args.plans.now in
    let i = c.loop-plan.plan-index in
    let plan = c.plan-item.result in
    let inv = c.loop-plan.invariant in
    let t = c.loop-plan-test.true in
    let first = ap (λ m. get_or m.0.devices 0 no_device) inv.1 ∙ first_of_rest (λ p. fresh_device p.items) plans i plan no_device t c.plan-item.is in
    let here = subst (λ (x : Vec Pulse Global). All (λ p. (p.io + 1 < c.args.table.now.shared.table_id.words) × (p.pin < 24)) x.items) (sym c.plan-item.is) (c.requires.range i plan t) in
    let words = ap (λ (z : TableId). z.words) (inv.0 ∙ c.requires.table.0) in
    subst (λ (n : ℕ). All (λ p. (p.io + 1 < n) × (p.pin < 24)) (get_or c.loop-plan.all.me.0.devices 0 no_device).plan) (sym words)
    (subst (λ (d : DeviceView). All (λ p. (p.io + 1 < c.args.table.now.shared.table_id.words) × (p.pin < 24)) d.plan) (sym first) here)

pub cut_device-seat-requires-clause-fresh : goal.cut_device-seat-requires-clause-fresh
cut_device-seat-requires-clause-fresh c =
    let plans = c.args.plans.now in
    let i = c.loop-plan.plan-index in
    let inv = c.loop-plan.invariant in
    let t = c.loop-plan-test.true in
    let first = ap (λ m. get_or m.0.devices 0 no_device) inv.1 ∙ first_of_rest (λ p. fresh_device p.items) plans i c.plan-item.result no_device t c.plan-item.is in (
      (let left = ap (λ m. length m.0.devices) inv.1 in let some = some_of_rest (λ p. fresh_device p.items) plans i t in omega arith),
      ap (λ (d : DeviceView). d.log) first,
    )

pub loop-plan-preserved : goal.loop-plan-preserved
loop-plan-preserved c =
    let plans = c.args.plans.now in
    let i = c.loop-plan.plan-index in
    let plan = c.plan-item.result in
    let id = c.args.table.now.shared.table_id in
    let start = c.args.all.now.me in
    let inv = c.loop-plan.invariant in
    let t = c.loop-plan-test.true in
    let first = ap (λ m. get_or m.0.devices 0 no_device) inv.1 ∙ first_of_rest (λ p. fresh_device p.items) plans i plan no_device t c.plan-item.is in
    let seat = c.cut_device-seat.ensures.seat ∙ ap (λ (d : DeviceView). shown_device c.loop-plan.all.table_id d) first ∙ ap (λ (z : TableId). shown_device z (fresh_device plan.items)) (inv.0 ∙ c.requires.table.0) in (
      c.cut_device-seat.ensures.left.0 ∙ inv.0,
      c.cut_device-seat.ensures.left.1
          ∙ ap (λ m. (without_device m.0, m.1)) inv.1
          ∙ ap (λ (l : List DeviceView). (record { devices = l; collectors = start.0.collectors }, start.1)) (rest_of_rest (map (λ p. fresh_device p.items) plans) i no_device (let n = length-map plans (λ p. fresh_device p.items) in omega arith)),
      c.in-Ok-push.ensures.items
          ∙ ap (λ (l : List DeviceSeat). l ++ c.cut_device-seat.result ∷ []) inv.2
          ∙ ap (λ (s : DeviceSeat). take i (map (λ p. fresh_device_seat id p.items) plans) ++ s ∷ []) seat
          ∙ sym (map_one_more (λ p. fresh_device_seat id p.items) plans i plan t c.plan-item.is),
    )

pub loop-plan-init : goal.loop-plan-init
loop-plan-init c =
    let start = c.args.all.now.me in (
      refl,
      ap (λ (l : List DeviceView). (record { devices = l; collectors = start.0.collectors }, start.1)) c.requires.all,
      c.in-Ok.ensures.items,
    )

pub returns-clause-all : goal.returns-clause-all
returns-clause-all c =
    let plans = c.args.plans.now in
    let start = c.args.all.now.me in
    let inv = c.loop-plan.invariant in
    let long = length-map plans (λ p. fresh_device p.items) in
    (inv.0, inv.1 ∙ ap (λ (l : List DeviceView). (record { devices = l; collectors = start.0.collectors }, start.1)) (drop_all c.loop-plan.plan-index (map (λ p. fresh_device p.items) plans) (omega (arith, long, c.loop-plan-test.false))))

pub returns-clause-seats : goal.returns-clause-seats
returns-clause-seats c =
    let plans = c.args.plans.now in
    let i = c.loop-plan.plan-index in
    let seat = λ (p : Vec Pulse Global). fresh_device_seat c.args.table.now.shared.table_id p.items in
    c.loop-plan.invariant.2 ∙ take-map seat i plans ∙ ap (map seat) (take_all i plans c.loop-plan-test.false)
