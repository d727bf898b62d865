use Rattle.std.proofs.Common.{List, set, ap, ◌∙◌, arith}
use Rattle.mpb_spec.specs.declared.apic.Pin.{Pin}
use Rattle.mpb_ioapic.proofs.RowLemmas.{pins_of-put}
use Rattle.mpb_ioapic.proofs.pins.Pins.put.Goals as goal

pub returns : goal.returns
returns c =
    let done = pins_of-put c.args.number c.args.pin.now c.self.inside.rows c.self.inside.redirections (omega arith) (omega arith) in
    rw (c.put_sign-3.ensures, c.put_sign-2.ensures, c.put_sign.ensures) (done ∙ ap (λ (ps : List Pin). set ps c.args.number c.args.pin.now) c.self.view_is)
