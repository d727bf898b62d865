use Rattle.mpt_listing.specs.Listing.{ext_line}
use Rattle.mpt_line.specs.Lines.{IsRightExt, BeginsWith}
use Rattle.mpt_parse.proofs.EntryLines.{more_lines, more_values, shorter, ext_some}
use Rattle.mpt_parse.proofs.entries.read_ext_lines.Goals as goal

pub loop-line-smaller : goal.loop-line-smaller
loop-line-smaller c =
    let t : BeginsWith ext_line IsRightExt c.loop-line.rest.now c.in-Some.entry c.in-Some.after.now = rw c.in-Some.is at c.in-Ok.ensures.some in
    shorter (ext_line c.in-Some.entry) c.loop-line.rest.now c.in-Some.after.now (ext_some c.in-Some.entry) t.whole

pub loop-line-preserved : goal.loop-line-preserved
loop-line-preserved c =
    let t : BeginsWith ext_line IsRightExt c.loop-line.rest.now c.in-Some.entry c.in-Some.after.now = rw c.in-Some.is at c.in-Ok.ensures.some in
    rw c.in-Ok-push.ensures.items (
      more_lines ext_line c.loop-line.entries.items c.in-Some.entry c.args.text.now c.loop-line.rest.now c.in-Some.after.now c.loop-line.invariant.0 t.whole,
      more_values IsRightExt c.loop-line.entries.items c.in-Some.entry c.loop-line.invariant.1 t.right,
    )
