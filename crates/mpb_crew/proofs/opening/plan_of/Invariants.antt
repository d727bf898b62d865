use Rattle.std.proofs.Common.{◌≡◌, take}
use Rattle.mpb_spec.specs.Pulses.{pulses_in}
use Rattle.mpb_crew.proofs.opening.plan_of.Given as goal

abbrev pub invariant-loop-word : goal.invariant-loop-word
invariant-loop-word l = l.plan.items ≡ pulses_in (take l.word-index l.words)
