use Rattle.std.proofs.Common.{◌+◌, List, map, refl, sym, subst, inl}
use Rattle.toml.specs.View.{view}
use Rattle.mpb_script.specs.Steps.{AreCpus}
use Rattle.mpb_script.specs.declared.script.CpuScript.{CpuScript}
use Rattle.mpb_script.proofs.TableLemmas.{CpusSoFar, cpu_on, cpu_wrong, cpus_all, words_fit}
use Rattle.mpb_script.proofs.programs.cpus.Goals as goal

pub cpu_program-requires : goal.cpu_program-requires
cpu_program-requires c = words_fit c.args.tables.now c.loop-table.table-index c.table-item.result c.elements_at-words.result.now c.loop-table-test.true c.table-item.is c.elements_at-words.ensures c.requires

pub loop-table-preserved : goal.loop-table-preserved
loop-table-preserved c =
    let vs = c.args.tables.now in
    let i = c.loop-table.table-index in
    let x : CpuScript = record { id = c.number_at-id.result; words = c.in-Ok.words } in
    subst (λ (cs : List CpuScript). CpusSoFar cs vs (i + 1)) (sym c.in-Ok-push.ensures.items)
    (cpu_on c.loop-table.cpus.items x vs i c.table-item.result c.elements_at-words.result.now c.loop-table-test.true c.table-item.is c.number_at-id.ensures.value c.elements_at-words.ensures c.in-Ok.ensures.program c.loop-table.invariant)

pub returns-clause-cpus : goal.returns-clause-cpus
returns-clause-cpus c = subst (λ (cs : List CpuScript). AreCpus (map view c.args.tables.now) cs) (sym c.new.ensures) (cpus_all c.loop-table.cpus.items c.args.tables.now c.loop-table.table-index c.loop-table-test.false c.loop-table.invariant)

pub loop-table-init : goal.loop-table-init
loop-table-init c = subst (λ (cs : List CpuScript). CpusSoFar cs c.args.tables.now 0) (sym c.new-cpus.ensures.items) (refl, refl, refl)

pub returns-in-Err-clause-wrong : goal.returns-in-Err-clause-wrong
returns-in-Err-clause-wrong c =
    cpu_wrong c.args.tables.now c.loop-table.table-index c.table-item.result c.elements_at-words.result.now c.number_at-id.result c.in-Err.fault c.loop-table-test.true c.table-item.is c.number_at-id.ensures.value c.elements_at-words.ensures
    c.loop-table.invariant.2 c.in-Err.ensures.wrong

pub returns-in-Err-push-clause-wrong : goal.returns-in-Err-push-clause-wrong
returns-in-Err-push-clause-wrong c = inl refl
