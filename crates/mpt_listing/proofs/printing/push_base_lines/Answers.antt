use Rattle.std.proofs.Common.{arith}
use Rattle.mpt_base.proofs.AppendLemmas.{appended_more, appended_all}
use Rattle.mpt_listing.specs.Listing.{base_line}
use Rattle.mpt_listing.proofs.printing.push_base_lines.Goals as goal

pub loop-entry-preserved : goal.loop-entry-preserved
loop-entry-preserved c =
    appended_more base_line c.args.entries.now c.loop-entry.entry-index _ c.args.out.now.items c.loop-entry.out.items c.push_base_line.new.out.items (omega (arith, c.loop-entry-test.true)) c.loop-entry.invariant c.in-Ok.ensures

pub returns : goal.returns
returns c = appended_all base_line c.args.entries.now c.loop-entry.entry-index c.args.out.now.items c.loop-entry.out.items (omega (arith, c.loop-entry-test.false)) c.loop-entry.invariant
