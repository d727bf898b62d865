use Rattle.std.proofs.Common.{ap, ◌∙◌, ◌++◌, ◌∷◌, [], sym}
use Rattle.mpb_drill.specs.Drill.{processor}
use Rattle.std.proofs.lemmas.List.{append-nil}
use Rattle.mpb_drill.proofs.ListLemmas.{grows, at_end}
use Rattle.mpb_drill.proofs.tables.push_processors.Goals as goal

pub loop-id-preserved : goal.loop-id-preserved
loop-id-preserved c =
    let now = c.loop-id.entries.items in
    grows processor c.loop-id.id c.args.entries.now.items now c.push.new.self.items c.loop-id.invariant (c.in-Ok.ensures.items ∙ ap (λ x. now ++ x ∷ []) c.processor.ensures)

pub loop-id-init : goal.loop-id-init
loop-id-init c = sym (append-nil c.args.entries.now.items)

pub returns : goal.returns
returns c = at_end processor c.args.count c.loop-id.id c.args.entries.now.items c.loop-id.entries.items c.loop-id.auto.id-end c.loop-id-test.false c.loop-id.invariant
