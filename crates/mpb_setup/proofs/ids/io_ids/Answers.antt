use Rattle.std.proofs.Common.{List, map, filter, sym, ap, ◌∙◌}
use Rattle.std.proofs.lemmas.List.{take_all}
use Rattle.mpt_spec.specs.declared.entry.IoApic.{IoApic}
use Rattle.mpt_route.specs.Routes.{is_enabled}
use Rattle.mpb_setup.proofs.PushLemmas.{map_passed, map_failed}
use Rattle.mpb_setup.proofs.ids.io_ids.Goals as goal
use Rattle.mpb_setup.proofs.ids.io_ids.Goals.{then-is_enabled+in-Ok, else-is_enabled}

pub loop-io-preserved : goal.loop-io-preserved
loop-io-preserved c =
    let id = λ (x : IoApic). x.id in
    elim c.if-is_enabled.branch [
      | then-is_enabled+in-Ok w ↦
          map_passed id is_enabled c.loop-io.ids.items c.if-is_enabled.ids.items c.as_slice-ios.result.now c.loop-io.io-index _ c.loop-io-test.true (sym c.is_enabled.ensures ∙ w.if-is_enabled.true) (ap (λ v. v.items) w.ids-is ∙ w.in-Ok.ensures.items) c.loop-io.invariant
      | else-is_enabled w ↦
          map_failed id is_enabled c.loop-io.ids.items c.if-is_enabled.ids.items c.as_slice-ios.result.now c.loop-io.io-index _ c.loop-io-test.true (sym c.is_enabled.ensures ∙ w.if-is_enabled.false) (ap (λ v. v.items) w.ids-is) c.loop-io.invariant
    ]

pub returns : goal.returns
returns c =
    let chosen = λ (xs : List IoApic). map (λ x. x.id) (filter is_enabled xs) in
    c.loop-io.invariant ∙ ap chosen (take_all c.loop-io.io-index c.as_slice-ios.result.now c.loop-io-test.false) ∙ ap chosen c.as_slice-ios.ensures
