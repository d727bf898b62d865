use Rattle.std.proofs.Common.{ap, ◌∙◌, ◌++◌, ◌∷◌, [], sym}
use Rattle.mpb_drill.specs.Drill.{interrupt}
use Rattle.std.proofs.lemmas.List.{append-nil}
use Rattle.mpb_drill.proofs.ListLemmas.{grows, at_end}
use Rattle.mpb_drill.proofs.tables.push_pins.Goals as goal

pub loop-pin-preserved : goal.loop-pin-preserved
loop-pin-preserved c =
    let now = c.loop-pin.entries.items in
    grows (interrupt c.args.id c.args.place) c.loop-pin.pin c.args.entries.now.items now c.push.new.self.items c.loop-pin.invariant (c.in-Ok.ensures.items ∙ ap (λ x. now ++ x ∷ []) c.interrupt.ensures)

pub loop-pin-init : goal.loop-pin-init
loop-pin-init c = sym (append-nil c.args.entries.now.items)

pub returns : goal.returns
returns c = at_end (interrupt c.args.id c.args.place) 24 c.loop-pin.pin c.args.entries.now.items c.loop-pin.entries.items c.loop-pin.auto.pin-end c.loop-pin-test.false c.loop-pin.invariant

pub interrupt-requires : goal.interrupt-requires
interrupt-requires c = record { place = c.requires; pin = c.loop-pin-test.true }
