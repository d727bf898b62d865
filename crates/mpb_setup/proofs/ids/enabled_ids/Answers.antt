use Rattle.std.proofs.Common.{List, map, filter, sym, ap, ◌∙◌}
use Rattle.std.proofs.lemmas.List.{take_all}
use Rattle.mpt_spec.specs.declared.entry.Processor.{Processor}
use Rattle.mpb_setup.specs.Boot.{is_enabled}
use Rattle.mpb_setup.proofs.PushLemmas.{map_passed, map_failed}
use Rattle.mpb_setup.proofs.ids.enabled_ids.Goals as goal
use Rattle.mpb_setup.proofs.ids.enabled_ids.Goals.{then-is_enabled+in-Ok, else-is_enabled}

pub loop-e-preserved : goal.loop-e-preserved
loop-e-preserved c =
    let apic = λ (x : Processor). x.apic in
    elim c.if-is_enabled.branch [
      | then-is_enabled+in-Ok w ↦
          map_passed apic is_enabled c.loop-e.ids.items c.if-is_enabled.ids.items c.as_slice-processors.result.now c.loop-e.e-index _ c.loop-e-test.true (sym c.is_enabled.ensures ∙ w.if-is_enabled.true) (ap (λ v. v.items) w.ids-is ∙ w.in-Ok.ensures.items) c.loop-e.invariant
      | else-is_enabled w ↦
          map_failed apic is_enabled c.loop-e.ids.items c.if-is_enabled.ids.items c.as_slice-processors.result.now c.loop-e.e-index _ c.loop-e-test.true (sym c.is_enabled.ensures ∙ w.if-is_enabled.false) (ap (λ v. v.items) w.ids-is) c.loop-e.invariant
    ]

pub returns : goal.returns
returns c =
    let chosen = λ (xs : List Processor). map (λ x. x.apic) (filter is_enabled xs) in
    c.loop-e.invariant ∙ ap chosen (take_all c.loop-e.e-index c.as_slice-processors.result.now c.loop-e-test.false) ∙ ap chosen c.as_slice-processors.ensures
