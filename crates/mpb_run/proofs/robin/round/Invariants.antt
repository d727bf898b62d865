use Rattle.std.proofs.Common.{take}
use Rattle.mpb_run.proofs.RobinLemmas.{IsAfter}
use Rattle.mpb_run.proofs.robin.round.Given as goal

abbrev pub invariant-loop-agent : goal.invariant-loop-agent
invariant-loop-agent l = IsAfter l.initial.run (take l.agent-index l.agents) l.run
