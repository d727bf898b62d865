use Rattle.std.proofs.Common.{ℕ, List, ap}
use Rattle.mpb_spec.specs.PlainLatch.{PlainState}
use Rattle.mpb_spec.proofs.PinWords.{take-zeros}
use Rattle.mpb_latch.proofs.plain.PlainLatch.new.Goals as goal

abbrev unended : ℕ → List ℕ → PlainState
unended devices pins = record { pins = pins; devices = devices; ended = 0 }

pub returns : goal.returns
returns c = ap (unended c.args.devices) (take-zeros c.args.ios 4 c.requires)
