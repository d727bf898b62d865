use Rattle.std.proofs.Common.{map, ap, ◌∙◌, arith}
use Rattle.std.proofs.lemmas.List.{take_all}
use Rattle.mpt_spec.specs.Canonical.{canonical_base}
use Rattle.mpt_write.proofs.MapLemmas.{mapped_more}
use Rattle.mpt_write.proofs.canonical.cleared_bases.Goals as goal

pub loop-entry-preserved : goal.loop-entry-preserved
loop-entry-preserved c =
    mapped_more canonical_base c.args.entries.now c.loop-entry.entry-index _ c.cleared.result c.loop-entry.out.items c.push.new.self.items (omega (arith, c.loop-entry-test.true)) c.loop-entry.invariant c.cleared.ensures c.in-Ok.ensures.items

pub returns : goal.returns
returns c = c.loop-entry.invariant ∙ ap (λ es. map canonical_base es) (take_all c.loop-entry.entry-index c.args.entries.now (omega (arith, c.loop-entry-test.false)))
