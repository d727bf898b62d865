use Rattle.std.proofs.Common.{◌≡◌, ◌∙◌, List, map, ap}
use Rattle.mpb_crew.specs.declared.worker.Worker.{Worker}
use Rattle.mpb_crew.specs.Workers.{HasEnded}
use Rattle.mpb_crew.proofs.Crews.{agents_back, ended_back, long_back}
use Rattle.mpb_crew.proofs.crew.run_each.Goals as goal

pub returns-clause-agents : goal.returns-clause-agents
returns-clause-agents g c =
    let old = c.args.workers.now in
    let shown : c.as_mut_slice.result.now ≡ old.items = c.as_mut_slice.ensures.value in
    let same = c.run_all.ensures.agents ∙ ap (λ (l : List Worker). map (λ (w : Worker). w.agent) l) shown in
    agents_back c.run_all.new.workers old.items old.len same old.ok.0

pub returns-clause-ended : goal.returns-clause-ended
returns-clause-ended g c =
    let old = c.args.workers.now in
    let shown : c.as_mut_slice.result.now ≡ old.items = c.as_mut_slice.ensures.value in
    let same = c.run_all.ensures.agents ∙ ap (λ (l : List Worker). map (λ (w : Worker). w.agent) l) shown in
    ended_back (HasEnded c.args.bus.now.bus c.args.latch.now.latch c.args.bus.now.plan) c.run_all.new.workers old.items old.len same old.ok.0 c.run_all.ensures.ended

pub returns-clause-all : goal.returns-clause-all
returns-clause-all g c =
    let old = c.args.workers.now in
    let shown : c.as_mut_slice.result.now ≡ old.items = c.as_mut_slice.ensures.value in
    let same = c.run_all.ensures.agents ∙ ap (λ (l : List Worker). map (λ (w : Worker). w.agent) l) shown in
    long_back c.run_all.new.workers old.items old.len same old.ok.0
