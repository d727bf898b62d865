use Rattle.std.proofs.Common.{arith}
use Rattle.mpb_ioapic.proofs.RowLemmas.{shows-pins_of}
use Rattle.mpb_ioapic.proofs.pins.Pins.shows.Goals as goal

pub returns : goal.returns
returns c =
    let sign = shows-pins_of c.self.inside.rows c.args.number c.self.inside.redirections (record { low = 0; high = 0 }) c.args.sign (omega arith) in
    rw (← c.self.view_is, c.has_sign.ensures) sign
