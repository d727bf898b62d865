use Rattle.std.proofs.Common.{◌∙◌, ap, map}
use Rattle.mpb_latch.proofs.Cuts.{joins_views}
use Rattle.mpb_latch.proofs.closing.take_device.Goals as goal

pub join_seat-requires : goal.join_seat-requires
join_seat-requires c =
    let key = c.args.table.now.shared.key in
    let plans = map (λ p. p.items) key.1.value.items in
    let seat = c.seat.inside.seat in
    (c.requires.table.0, ap (λ s. s.latch) c.seat.view_is ∙ c.requires.table.1, ap (λ m. m.1) c.seat.invariant.0, c.requires.table.2, joins_views key.0 plans c.args.all.now.id seat.id c.args.all.now.me.0 seat.me.0)
