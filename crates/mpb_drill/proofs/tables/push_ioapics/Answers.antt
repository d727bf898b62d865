use Rattle.std.proofs.Common.{ap, ◌+◌, ◌∙◌, ◌++◌, ◌∷◌, [], sym}
use Rattle.mpb_drill.specs.Drill.{ioapic}
use Rattle.std.proofs.lemmas.List.{append-nil}
use Rattle.mpb_drill.proofs.ListLemmas.{grows, at_end}
use Rattle.mpb_drill.proofs.tables.push_ioapics.Goals as goal

pub loop-place-preserved : goal.loop-place-preserved
loop-place-preserved c =
    let now = c.loop-place.entries.items in
    grows (λ a. ioapic (c.args.first + a)) c.loop-place.place c.args.entries.now.items now c.push.new.self.items c.loop-place.invariant (c.in-Ok.ensures.items ∙ ap (λ x. now ++ x ∷ []) c.ioapic.ensures)

pub loop-place-init : goal.loop-place-init
loop-place-init c = sym (append-nil c.args.entries.now.items)

pub returns : goal.returns
returns c = at_end (λ a. ioapic (c.args.first + a)) c.args.count c.loop-place.place c.args.entries.now.items c.loop-place.entries.items c.loop-place.auto.place-end c.loop-place-test.false c.loop-place.invariant
