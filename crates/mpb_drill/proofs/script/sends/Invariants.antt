use Rattle.std.proofs.Common.{◌≡◌, ◌+◌, ◌∷◌, replicate}
use Rattle.mpb_spec.specs.declared.agent.Op.TheVariants.{Ipi, Pause}
use Rattle.mpb_drill.proofs.script.sends.Given as goal

abbrev pub invariant-loop : goal.invariant-loop
invariant-loop l = l.words.items ≡ Ipi 0 (0x80 + l.id) ∷ replicate l.counter (Pause 1)
