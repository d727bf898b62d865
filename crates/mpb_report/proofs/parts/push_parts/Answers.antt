use Rattle.mpt_base.proofs.AppendLemmas.{appended_more, appended_all}
use Rattle.mpt_listing.specs.Part.{part_text}
use Rattle.mpb_report.proofs.parts.push_parts.Goals as goal

pub loop-part-preserved : goal.loop-part-preserved
loop-part-preserved c = appended_more part_text c.args.parts.now c.loop-part.part-index _ c.args.out.now.items _ _ c.loop-part-test.true c.loop-part.invariant c.in_default.ensures

pub returns : goal.returns
returns c = appended_all part_text c.args.parts.now c.loop-part.part-index c.args.out.now.items _ c.loop-part-test.false c.loop-part.invariant
