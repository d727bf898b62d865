use Rattle.std.proofs.Common.{map, refl}
use Rattle.mpb_latch.specs.Rule.{nobody}
use Rattle.mpb_latch.proofs.Cuts.{enters}
use Rattle.mpb_latch.proofs.closing.empty_seat.Goals as goal

pub load_new_seat-seat-requires : goal.load_new_seat-seat-requires
load_new_seat-seat-requires c =
    let key = c.args.table.now.shared.key in
    (c.requires, λ s ok homes word. (nobody, enters key.0 (map (λ p. p.items) key.1.value.items) s ok, refl))
