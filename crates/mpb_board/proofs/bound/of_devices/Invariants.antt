use Rattle.std.proofs.Common.{◌≡◌, ◌≤◌, ◌+◌, length, count_by, map, sum_by, take}
use Rattle.mpb_spec.specs.Plan.{device_program}
use Rattle.mpb_spec.specs.Room.{is_pulse, is_high}
use Rattle.mpb_board.proofs.bound.of_devices.Given as goal

abbrev pub invariant-loop-words : goal.invariant-loop-words
invariant-loop-words l = record {
  ops : l.ops ≡ sum_by (λ words. length (device_program words)) (map (λ words. words.items) (take l.words-index l.devices));
  pulses : l.pulses ≡ sum_by (λ words. count_by is_pulse words) (map (λ words. words.items) (take l.words-index l.devices));
  highs : l.highs ≡ sum_by (λ words. count_by is_high words) (map (λ words. words.items) (take l.words-index l.devices));
  few_ops : l.ops ≤ sum_by (λ words. length words.items + 2) (take l.words-index l.devices);
  few_pulses : l.pulses ≤ sum_by (λ words. length words.items + 2) (take l.words-index l.devices);
  few_highs : l.highs ≤ sum_by (λ words. length words.items + 2) (take l.words-index l.devices);
}
