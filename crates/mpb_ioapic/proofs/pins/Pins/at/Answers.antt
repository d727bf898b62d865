use Rattle.std.proofs.Common.{arith}
use Rattle.mpb_ioapic.proofs.RowLemmas.{slice_get-pins_of}
use Rattle.mpb_ioapic.proofs.pins.Pins.at.Goals as goal

pub returns : goal.returns
returns c =
    let pin = slice_get-pins_of c.self.inside.rows c.args.number c.self.inside.redirections (record { low = 0; high = 0 }) (omega arith) in
    rw (← c.self.view_is, c.has_sign.ensures, c.has_sign-2.ensures, c.has_sign-3.ensures) pin
