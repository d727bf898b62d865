use Rattle.std.proofs.Common.{◌≡◌, ◌++◌, map, take}
use Rattle.mpb_spec.specs.declared.agent.Agent.TheVariants.{Cpu}
use Rattle.mpb_board.proofs.roster.push_cpus.Given as goal

abbrev pub invariant-loop-cpu : goal.invariant-loop-cpu
invariant-loop-cpu l = l.agents.items ≡ l.initial.agents.items ++ map (λ p. Cpu p.id) (take l.cpu-index l.cpus)
