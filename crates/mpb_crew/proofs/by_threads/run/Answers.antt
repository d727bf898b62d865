use Rattle.std.proofs.Common.{refl, ◌∙◌, List, map, ap}
use Rattle.mpb_spec.specs.Agents.{agents_of}
use Rattle.mpb_crew.specs.declared.worker.Worker.{Worker}
use Rattle.mpb_crew.proofs.Crews.{all_ready, their_agents}
use Rattle.mpb_crew.proofs.by_threads.run.Goals as goal

pub run_each-requires-clause-ready : goal.run_each-requires-clause-ready
run_each-requires-clause-ready g c κs within =
    let o = c.args.assembly in
    all_ready o.bus.bus o.latch.latch o.bus.plan o.workers.items (agents_of o.bus.plan) refl c.requires.workers

pub closed-requires-clause-agents : goal.closed-requires-clause-agents
closed-requires-clause-agents g c =
    let o = c.args.assembly in
    c.run_each.ensures.agents ∙ (ap (λ (l : List Worker). map (λ (w : Worker). w.agent) l) c.requires.workers ∙ their_agents o.bus.bus o.latch.latch o.bus.plan (agents_of o.bus.plan))
