use Rattle.std.proofs.Common.{◌≡◌, map, take}
use Rattle.mpb_spec.specs.Pulses.{pulses_of, pulses_in}
use Rattle.mpb_replay.proofs.logs.wrong_log.Given as goal

abbrev pub invariant-loop-number : goal.invariant-loop-number
invariant-loop-number l = take l.number (map pulses_of l.logs) ≡ take l.number (map pulses_in (map (λ words. words.items) l.devices))
