use Rattle.std.proofs.Common.{◌<◌, ◌∙◌, length, add-one, arith}
use Rattle.mpb_spec.specs.IoApic.{with_eoi}
use Rattle.mpb_ioapic.proofs.ListLemmas.{set-map}
use Rattle.mpb_ioapic.proofs.pins.Pins.end.Goals as goal

pub loop-number-preserved : goal.loop-number-preserved
loop-number-preserved c =
    let lt : c.loop-number.number < length c.args.self.now = omega arith in
    rw add-one (c.put.ensures ∙ set-map (with_eoi c.args.vector) c.loop-number.number c.args.self.now c.loop-number.self _ _ lt c.loop-number.invariant c.at-pin.ensures c.end.ensures)
