use Rattle.std.proofs.Common.{arith, ◌∙◌, sym, subst, eqb, ◌+◌}
use mathlib.Core.Option.{none}
use prog.Atomic.{either}
use Rattle.atomic_table.specs.Table.{Allows, step}
use Rattle.mpb_bus.specs.Rule.{agent_of, IsKept, Takes}
use Rattle.mpb_bus.proofs.Takes.{takes_allowed}
use Rattle.mpb_bus.proofs.holding.win.Goals as goal

pub compare_exchange-found-requires : goal.compare_exchange-found-requires
compare_exchange-found-requires g c =
    let i = c.loop.invariant in
    let plan = c.args.words.now.shared.key.value.plan in
    let slots = c.args.words.now.shared.table_id.slots in
    let old = c.peek-even.result in (
      i.0 ∙ c.requires.words.1,
      (let w = c.requires.words.0 in omega arith),
      subst (λ m. Allows (IsKept plan) slots c.loop.seat.id m 0 (λ n. either (eqb n old) (old + 1) n) (Takes (step slots 0 old (old + 1) none) m)) (sym (i.1 ∙ c.requires.free))
          (takes_allowed plan slots c.loop.seat.id (agent_of c.args.seat.now.me.0) old c.if-even-eq0.true),
    )
