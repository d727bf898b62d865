use Rattle.std.proofs.Common.{◌∙◌, arith}
use Rattle.mpb_spec.specs.IoApic.{with_half}
use Rattle.mpb_spec.proofs.PinLemmas.{change-beyond, effect-beyond}
use Rattle.mpb_ioapic.proofs.ListLemmas.{set-change, effect-change}
use Rattle.mpb_ioapic.proofs.pins.Pins.write.Goals as goal

pub returns-then-number-len-clause-state : goal.returns-then-number-len-clause-state
returns-then-number-len-clause-state c = change-beyond c.args.number (with_half c.args.half c.args.value) c.args.self.now (omega arith)

pub returns-then-number-len-clause-effect : goal.returns-then-number-len-clause-effect
returns-then-number-len-clause-effect c = effect-beyond c.args.number (with_half c.args.half c.args.value) c.args.self.now (omega arith)

pub returns-clause-state : goal.returns-clause-state
returns-clause-state c = c.put.ensures ∙ set-change c.args.number (with_half c.args.half c.args.value) c.args.self.now _ _ c.at-pin.ensures c.write_half.ensures

pub returns-clause-effect : goal.returns-clause-effect
returns-clause-effect c = c.effect_of.ensures ∙ effect-change c.args.number (with_half c.args.half c.args.value) c.args.self.now _ _ c.at-pin.ensures c.write_half.ensures
