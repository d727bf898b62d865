use Rattle.std.proofs.Common.{◌≡◌, ℕ, List, arith, length, map, sym, ap, ◌∙◌, get_or}
use Rattle.std.specs.List.{range_with_len}
use Rattle.std.proofs.lemmas.List.{length-map}
use Rattle.std.proofs.lemmas.List.FromFn.{length-range_with_len}
use Rattle.mpb_spec.specs.Pulses.{planned}
use Rattle.mpb_latch.specs.Seats.{CollectorSeat, SharedLatch}
use Rattle.mpb_latch.specs.Rule.{known_device, known_collector}
use Rattle.mpb_spec.proofs.Lists.{map_map}
use Rattle.mpb_latch.proofs.Starts.{full_mapped}
use Rattle.mpb_latch.proofs.AtClose.{count_of, hits_settle, dry_settles, first_settles, plans_settle}
use Rattle.mpb_latch.proofs.latch.Latch.close.Goals as goal

-- as many collectors are given up as the latch has I/O APICs
collectors_count : (cols : List CollectorSeat) (ios : ℕ) → map (λ c. c.io) cols ≡ range_with_len 0 ios → length cols ≡ ios
collectors_count cols ios places = sym (length-map cols (λ (c : CollectorSeat). c.io)) ∙ ap (λ xs. length xs) places ∙ length-range_with_len 0 ios

pub take_all-all-requires-clause-counts : goal.take_all-all-requires-clause-counts
take_all-all-requires-clause-counts c =
    let many = collectors_count c.args.cols.items c.args.self.ios c.requires.collectors.0 in
    let same = ap (λ (l : SharedLatch). l.ios) c.self.view_is in
    let room = c.self.invariant.2 in
    (room.0, let r = room.1 in omega arith)

pub settle-requires-clause-all : goal.settle-requires-clause-all
settle-requires-clause-all c =
    let got = c.take_all-all.ensures in
    let seats = c.args.seats.items in
    let cols = c.args.cols.items in (
      (let a = ap (λ ds. length ds) got.devices ∙ length-map seats known_device in
          let b = ap (λ (l : SharedLatch). length l.plans) c.self.view_is in
          let n = length-map c.self.inside.table.shared.key.1.value.items (λ p. p.items) in
          let all = c.requires.devices.0 in
          omega arith),
      ap (λ cs. map (λ x. x.io) cs) got.collectors ∙ map_map (λ x. x.io) known_collector cols ∙ c.requires.collectors.0 ∙ sym (ap (λ (l : SharedLatch). range_with_len 0 l.ios) c.self.view_is),
    )

pub returns-clause-plans : goal.returns-clause-plans
returns-clause-plans c =
    let got = c.take_all-all.ensures in
    plans_settle c.args.seats.items c.args.cols.items c.take_all-all.result.0.me.0.devices c.take_all-all.result.0.me.0.collectors (map (λ l. l.items) c.take_all-all.result.1.items) (map (λ l. l.items) c.take_all-all.result.2.items) got.devices got.collectors got.logs got.counts c.settle.ensures.first

pub returns-clause-new_hits : goal.returns-clause-new_hits
returns-clause-new_hits c io pin l m =
    let got = c.take_all-all.ensures in
    let many = collectors_count c.args.cols.items c.args.self.ios c.requires.collectors.0 in
    let same = ap (λ (l : SharedLatch). l.ios) c.self.view_is in
    hits_settle c.args.seats.items c.args.cols.items c.take_all-all.result.0.me.0.devices c.take_all-all.result.0.me.0.collectors (map (λ l. l.items) c.take_all-all.result.1.items) (map (λ l. l.items) c.take_all-all.result.2.items) got.devices got.collectors got.logs got.counts io pin (omega arith) (c.settle.ensures.news io pin (omega arith) m)

pub returns-clause-dry : goal.returns-clause-dry
returns-clause-dry c =
    let got = c.take_all-all.ensures in
    let same = ap (λ (l : SharedLatch). l.ios) c.self.view_is in
    dry_settles c.args.seats.items c.args.cols.items c.take_all-all.result.0.me.0.devices c.take_all-all.result.0.me.0.collectors (map (λ l. l.items) c.take_all-all.result.1.items) (map (λ l. l.items) c.take_all-all.result.2.items) got.devices got.collectors got.logs got.counts c.args.self.ios c.requires.collectors.0 (λ io pin l m. c.settle.ensures.news io pin (omega arith) m)

pub returns-clause-first : goal.returns-clause-first
returns-clause-first c io pin =
    let got = c.take_all-all.ensures in
    first_settles c.args.seats.items c.args.cols.items c.take_all-all.result.0.me.0.devices c.take_all-all.result.0.me.0.collectors (map (λ l. l.items) c.take_all-all.result.1.items) (map (λ l. l.items) c.take_all-all.result.2.items) got.devices got.collectors got.logs got.counts io pin (c.settle.ensures.started io pin)

pub returns-clause-planned : goal.returns-clause-planned
returns-clause-planned c io pin l m =
    let got = c.take_all-all.ensures in
    let many = collectors_count c.args.cols.items c.args.self.ios c.requires.collectors.0 in
    let same = ap (λ (l : SharedLatch). l.ios) c.self.view_is in
    let here = ap (λ cs. get_or cs pin 0) (count_of c.args.seats.items c.args.cols.items c.take_all-all.result.0.me.0.devices c.take_all-all.result.0.me.0.collectors (map (λ l. l.items) c.take_all-all.result.1.items) (map (λ l. l.items) c.take_all-all.result.2.items) got.devices got.collectors got.logs got.counts io (omega arith)) in
    let few = c.settle.ensures.planned io pin (omega arith) m in
    let plans = ap (λ (l : SharedLatch). planned io pin l.plans) c.self.view_is in
    omega arith

pub returns-clause-full : goal.returns-clause-full
returns-clause-full c =
    let got = c.take_all-all.ensures in
    full_mapped known_collector known_device c.args.cols.items c.args.seats.items c.take_all-all.result.0.me.0.collectors c.take_all-all.result.0.me.0.devices got.collectors got.devices c.settle.ensures.full

pub returns-clause-shape : goal.returns-clause-shape
returns-clause-shape c =
    let got = c.take_all-all.ensures in
    let many = collectors_count c.args.cols.items c.args.self.ios c.requires.collectors.0 in
    let same = ap (λ (ls : List (List ℕ)). length ls) got.counts in
    let made = length-map c.take_all-all.result.2.items (λ l. l.items) in
    let theirs = length-map c.args.cols.items (λ (s : CollectorSeat). s.counts) in
    (omega arith, got.wide)
