use Rattle.std.proofs.Common.{◌∙◌, arith}
use Rattle.mpb_spec.specs.IoApic.{with_sent}
use Rattle.mpb_spec.proofs.PinLemmas.{change-beyond}
use Rattle.mpb_ioapic.proofs.ListLemmas.{set-change}
use Rattle.mpb_ioapic.proofs.pins.Pins.send.Goals as goal

pub returns-then-number-len : goal.returns-then-number-len
returns-then-number-len c = change-beyond c.args.number (with_sent c.args.accepted) c.args.self.now (omega arith)

pub returns : goal.returns
returns c = c.put.ensures ∙ set-change c.args.number (with_sent c.args.accepted) c.args.self.now _ _ c.at-pin.ensures c.send.ensures
