use Rattle.std.proofs.Common.{◌++◌, ◌∙◌, ap, arith}
use Rattle.mpt_base.proofs.AppendLemmas.{appended_more, appended_all}
use Rattle.mpt_listing.specs.Listing.{ext_line}
use Rattle.mpt_listing.proofs.printing.push_ext_lines.Goals as goal

pub loop-entry-preserved : goal.loop-entry-preserved
loop-entry-preserved c =
    appended_more ext_line c.args.entries.now c.loop-entry.entry-index c.entry-item.result c.args.out.now.items c.loop-entry.out.items c.push_ext_line.new.out.items (omega (arith, c.loop-entry-test.true)) c.loop-entry.invariant
    (c.in-Ok.ensures ∙ ap (λ x. c.loop-entry.out.items ++ ext_line x) c.entry-item.is)

pub returns : goal.returns
returns c = appended_all ext_line c.args.entries.now c.loop-entry.entry-index c.args.out.now.items c.loop-entry.out.items (omega (arith, c.loop-entry-test.false)) c.loop-entry.invariant
