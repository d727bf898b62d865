use Rattle.std.proofs.Common.{ap, sym, ◌∙◌}
use Rattle.mpt_route.proofs.PlatformLemmas.{int_grows, int_passes}
use Rattle.mpt_route.proofs.defaults.put_ints.Goals as goal
use Rattle.mpt_route.proofs.defaults.put_ints.Goals.{then-is_connected+in-Ok-push, else-is_connected}

pub loop-irq-preserved : goal.loop-irq-preserved
loop-irq-preserved c =
    elim c.if-is_connected.branch [
      | then-is_connected+in-Ok-push w ↦ int_grows c.args.number c.loop-irq.irq c.loop-irq.ints.items c.if-is_connected.ints.items w.int_row.result
          (sym c.is_connected.ensures ∙ w.if-is_connected.true) w.int_row.ensures c.loop-irq.invariant (ap (λ v. v.items) w.ints-is ∙ w.in-Ok-push.ensures.items)
      | else-is_connected w ↦ int_passes c.args.number c.loop-irq.irq c.loop-irq.ints.items c.if-is_connected.ints.items
          (sym c.is_connected.ensures ∙ w.if-is_connected.false) c.loop-irq.invariant (ap (λ v. v.items) w.ints-is)
    ]
