use Rattle.std.proofs.Common.{slice_index_or, arith}
use Rattle.std.proofs.lemmas.List.{get_or_default}
use Rattle.mpb_spec.specs.declared.agent.Agent.{Agent}
use Rattle.mpb_spec.specs.declared.agent.Agent.TheVariants.{Cpu}
use Rattle.mpb_run.proofs.RobinLemmas.{next_agent, one_turn}
use Rattle.mpb_run.proofs.robin.round.Goals as goal

pub turn-requires-clause-agent : goal.turn-requires-clause-agent
turn-requires-clause-agent c =
    let gs = c.args.agents.now in
    let i = c.loop-agent.agent-index in
    let g : Agent = slice_index_or gs i (Cpu 0) in
    next_agent c.args.run.now c.loop-agent.run gs i g c.requires.agents c.loop-agent.invariant (let l = c.loop-agent-test.true in let e = c.loop-agent.auto.agent-index-end in omega arith) (get_or_default gs i (Cpu 0) g (let l = c.loop-agent-test.true in omega arith))

pub loop-agent-preserved : goal.loop-agent-preserved
loop-agent-preserved c =
    let gs = c.args.agents.now in
    let i = c.loop-agent.agent-index in
    let g : Agent = slice_index_or gs i (Cpu 0) in
    one_turn c.args.run.now c.loop-agent.run c.turn.new.run gs i g c.requires.agents c.loop-agent.invariant (let l = c.loop-agent-test.true in omega arith) (get_or_default gs i (Cpu 0) g (let l = c.loop-agent-test.true in omega arith)) c.turn.ensures
