use Rattle.std.proofs.Common.{◌≡◌, map, take}
use Rattle.mpb_spec.specs.Pulses.{pulses_in}
use Rattle.mpb_crew.proofs.opening.plans_of.Given as goal

abbrev pub invariant-loop-words : goal.invariant-loop-words
invariant-loop-words l = map (λ p. p.items) l.plans.items ≡ take l.words-index (map (λ ws. pulses_in ws.items) l.devices)
