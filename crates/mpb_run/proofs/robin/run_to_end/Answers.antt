use Rattle.std.proofs.Common.{false, IsTrue, sym, ap, ◌∙◌}
use Rattle.mpb_spec.specs.May.{IsQuiescent}
use Rattle.mpb_robin.specs.RoundRobin.{Run, state_in}
use Rattle.mpb_spec.specs.Agents.{agents_of}
use Rattle.mpb_run.proofs.RobinLemmas.{is_run, same_plan, one_round, less_left}
use Rattle.mpb_run.proofs.robin.run_to_end.Goals as goal

busy : (r : Run) → (IsQuiescent (state_in r) → IsTrue false) → ¬ IsQuiescent (state_in r)
busy r h q = let t = h q in cc

pub round-requires-clause-run : goal.round-requires-clause-run
round-requires-clause-run c = is_run c.args.run.plan c.requires.config c.requires.small c.loop-run.run c.loop-run.invariant

pub round-requires-clause-agents : goal.round-requires-clause-agents
round-requires-clause-agents c = c.requires.agents ∙ ap agents_of (sym (same_plan c.args.run.plan c.requires.config c.requires.small c.loop-run.run c.loop-run.invariant))

pub loop-run-preserved : goal.loop-run-preserved
loop-run-preserved c = one_round c.args.run.plan c.requires.config c.requires.small c.loop-run.run c.round.new.run c.loop-run.invariant (busy c.loop-run.run c.loop-run-test.ensures.1) c.round.ensures

pub loop-run-smaller : goal.loop-run-smaller
loop-run-smaller c = less_left c.args.run.plan c.requires.config c.requires.small c.loop-run.run c.round.new.run c.loop-run.invariant (busy c.loop-run.run c.loop-run-test.ensures.1) c.round.ensures
