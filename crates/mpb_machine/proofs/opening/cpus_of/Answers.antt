use Rattle.std.proofs.Common.{map, take_all, ap, ◌∙◌}
use Rattle.mpb_spec.specs.Plan.{first_processor}
use Rattle.mpb_machine.proofs.Made.{map_pushed}
use Rattle.mpb_machine.proofs.opening.cpus_of.Goals as goal

pub loop-config-preserved : goal.loop-config-preserved
loop-config-preserved c =
    let made = first_processor c.args.boot in
    map_pushed made c.loop-config.cpus.items _ c.args.list.now c.loop-config.config-index c.config-item.result _ c.loop-config-test.true (c.in-Ok.ensures ∙ ap made c.config-item.is) c.in-Ok-push.ensures.items c.loop-config.invariant

pub returns : goal.returns
returns c =
    c.loop-config.invariant ∙ ap (λ xs. map (first_processor c.args.boot) xs) (take_all c.loop-config.config-index c.args.list.now c.loop-config-test.false)
