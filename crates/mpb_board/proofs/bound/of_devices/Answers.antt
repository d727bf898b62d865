use Rattle.std.proofs.Common.{◌+◌, length, count_by, ap, arith, ◌∙◌, List, Vec, Global, map, sum_by, take_all}
use Rattle.std.proofs.lemmas.List.Sums.{sum_by_more}
use Rattle.mpb_spec.specs.declared.config.DevWord.{DevWord}
use Rattle.mpb_spec.specs.Plan.{device_program}
use Rattle.mpb_spec.specs.Room.{is_pulse, is_high}
use Rattle.mpb_board.proofs.RoomLemmas.{mapped_sum_more}
use Rattle.mpb_board.proofs.bound.of_devices.Goals as goal

pub loop-words-preserved : goal.loop-words-preserved
loop-words-preserved c =
    let devices = c.args.devices.now in
    let i = c.loop-words.words-index in
    let words = c.words-item.result in
    let t = c.loop-words-test.true in
    let so_far = c.loop-words.invariant in
    let part = c.of_words-part.ensures in
    let size = sum_by_more (λ w. length w.items + 2) devices i words t in
    let long = ap (λ w. length w.items) c.words-item.is in
    let same = ap length c.as_slice.ensures.value in
    record {
      ops = let more = mapped_sum_more (λ w. length (device_program w)) (λ w. w.items) devices i words t in let is = ap (λ w. length (device_program w.items)) c.words-item.is in let here = ap (λ w. length (device_program w)) c.as_slice.ensures.value in omega arith;
      pulses = let more = mapped_sum_more (λ w. count_by is_pulse w) (λ w. w.items) devices i words t in let is = ap (λ w. count_by is_pulse w.items) c.words-item.is in let here = ap (λ w. count_by is_pulse w) c.as_slice.ensures.value in omega arith;
      highs = let more = mapped_sum_more (λ w. count_by is_high w) (λ w. w.items) devices i words t in let is = ap (λ w. count_by is_high w.items) c.words-item.is in let here = ap (λ w. count_by is_high w) c.as_slice.ensures.value in omega arith;
      few_ops = omega arith;
      few_pulses = omega arith;
      few_highs = omega arith;
    }

pub returns-clause-ops : goal.returns-clause-ops
returns-clause-ops c =
    c.loop-words.invariant.ops ∙ ap (λ (ds : List (Vec DevWord Global)). sum_by (λ words. length (device_program words)) (map (λ words. words.items) ds)) (take_all c.loop-words.words-index c.args.devices.now c.loop-words-test.false)

pub returns-clause-pulses : goal.returns-clause-pulses
returns-clause-pulses c =
    c.loop-words.invariant.pulses ∙ ap (λ (ds : List (Vec DevWord Global)). sum_by (λ words. count_by is_pulse words) (map (λ words. words.items) ds)) (take_all c.loop-words.words-index c.args.devices.now c.loop-words-test.false)

pub returns-clause-highs : goal.returns-clause-highs
returns-clause-highs c =
    c.loop-words.invariant.highs ∙ ap (λ (ds : List (Vec DevWord Global)). sum_by (λ words. count_by is_high words) (map (λ words. words.items) ds)) (take_all c.loop-words.words-index c.args.devices.now c.loop-words-test.false)

pub returns-clause-few_ops : goal.returns-clause-few_ops
returns-clause-few_ops c =
    let all = ap (λ (ds : List (Vec DevWord Global)). sum_by (λ words. length words.items + 2) ds) (take_all c.loop-words.words-index c.args.devices.now c.loop-words-test.false) in
    omega (arith, c.loop-words.invariant.few_ops, all, c.requires)

pub returns-clause-few_pulses : goal.returns-clause-few_pulses
returns-clause-few_pulses c =
    let all = ap (λ (ds : List (Vec DevWord Global)). sum_by (λ words. length words.items + 2) ds) (take_all c.loop-words.words-index c.args.devices.now c.loop-words-test.false) in
    omega (arith, c.loop-words.invariant.few_pulses, all, c.requires)

pub returns-clause-few_highs : goal.returns-clause-few_highs
returns-clause-few_highs c =
    let all = ap (λ (ds : List (Vec DevWord Global)). sum_by (λ words. length words.items + 2) ds) (take_all c.loop-words.words-index c.args.devices.now c.loop-words-test.false) in
    omega (arith, c.loop-words.invariant.few_highs, all, c.requires)
