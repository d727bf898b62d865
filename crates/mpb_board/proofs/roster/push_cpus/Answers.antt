use Rattle.std.proofs.Common.{◌∷◌, ◌++◌, [], List, map, take, take_all, ap, sym, ◌∙◌}
use Rattle.std.proofs.lemmas.List.{append_assoc, map_more}
use Rattle.mpb_spec.specs.declared.agent.Agent.{Agent}
use Rattle.mpb_spec.specs.declared.agent.Agent.TheVariants.{Cpu}
use Rattle.mpb_spec.specs.Plan.{CpuPlan}
use Rattle.mpb_board.proofs.roster.push_cpus.Goals as goal

pub loop-cpu-preserved : goal.loop-cpu-preserved
loop-cpu-preserved c =
    let cpus = c.args.cpus.now in
    let i = c.loop-cpu.cpu-index in
    let id = c.cpu.inside.id in
    let start = c.args.agents.now.items in
    let before = map (λ p. Cpu p.id) (take i cpus) in
    c.in-Ok.ensures.items
    ∙ ap (λ (xs : List Agent). xs ++ Cpu id ∷ []) c.loop-cpu.invariant
    ∙ append_assoc start before (Cpu id ∷ [])
    ∙ ap (λ (p : CpuPlan). start ++ (before ++ Cpu p.id ∷ [])) (c.cpu.view_is ∙ c.cpu-item.is)
    ∙ ap (λ (xs : List Agent). start ++ xs) (sym (map_more (λ p. Cpu p.id) cpus i c.cpu-item.result c.loop-cpu-test.true))

pub returns : goal.returns
returns c =
    c.loop-cpu.invariant ∙ ap (λ (ps : List CpuPlan). c.args.agents.now.items ++ map (λ p. Cpu p.id) ps) (take_all c.loop-cpu.cpu-index c.args.cpus.now c.loop-cpu-test.false)
