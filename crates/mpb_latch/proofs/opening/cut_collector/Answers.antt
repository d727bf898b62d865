use Rattle.std.proofs.Common.{map}
use Rattle.mpb_latch.proofs.Cuts.{cuts_collector}
use Rattle.mpb_latch.proofs.opening.cut_collector.Goals as goal

pub split_seat-seat-requires : goal.split_seat-seat-requires
split_seat-seat-requires c =
    let key = c.args.table.now.shared.key in
    let plans = map (λ p. p.items) key.1.value.items in
    (c.requires.table.0, c.requires.table.1, cuts_collector key.0 plans c.args.all.now.id c.args.all.now.me.0)
