use Rattle.mpt_spec.specs.Values.{IsBaseValue}
use Rattle.mpt_listing.specs.Listing.{base_line}
use Rattle.mpt_parse.proofs.EntryLines.{more_lines, more_values, shorter, base_some}
use Rattle.mpt_parse.proofs.entries.read_base_lines.Goals as goal

pub loop-entry-smaller : goal.loop-entry-smaller
loop-entry-smaller c = shorter (base_line c.in-Some.entry) c.loop-entry.rest.now c.in-Some.after.now (base_some c.in-Some.entry) c.in-Some.ensures.some.whole

pub loop-entry-preserved : goal.loop-entry-preserved
loop-entry-preserved c =
    rw c.in-Ok.ensures.items (
      more_lines base_line c.loop-entry.entries.items c.in-Some.entry c.args.text.now c.loop-entry.rest.now c.in-Some.after.now c.loop-entry.invariant.0 c.in-Some.ensures.some.whole,
      more_values IsBaseValue c.loop-entry.entries.items c.in-Some.entry c.loop-entry.invariant.1 c.in-Some.ensures.some.right,
    )
