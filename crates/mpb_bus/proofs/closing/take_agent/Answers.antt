use Rattle.std.proofs.Common.{◌∙◌, arith, ap}
use Rattle.mpb_bus.proofs.Moves.{joins_views}
use Rattle.mpb_bus.proofs.closing.take_agent.Goals as goal

pub join_seat-requires : goal.join_seat-requires
join_seat-requires c =
    let seat = c.seat.inside.seat in
    let me = c.seat.invariant.0 in (
      c.requires.words.1,
      ap (λ s. s.bus) c.seat.view_is ∙ c.requires.words.2,
      ap (λ m. m.1) me,
      (let w = c.requires.words.0 in omega arith),
      joins_views c.args.words.now.shared.key.value.plan c.args.all.now.id seat.id c.args.all.now.me.0 seat.me.0 c.requires.free (ap (λ m. m.0.holds) me),
    )
