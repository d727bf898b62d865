use Rattle.std.proofs.Common.{◌∷◌, [], refl, arith, length-append}
use Rattle.mpf_pic_lines.proofs.TextLemmas.{more_text, more_right, shorter}
use Rattle.mpf_pic_lines.proofs.parsing.read_ops.Goals as goal

pub loop-rest-init : goal.loop-rest-init
loop-rest-init c = rw c.new-ops.ensures.items (refl, tt, omega arith)

pub loop-rest-preserved : goal.loop-rest-preserved
loop-rest-preserved c =
    let ops = c.loop-rest.ops.items in
    let op = c.in-Some.op in
    let rest = c.loop-rest.rest.now in
    let after = c.in-Some.after.now in
    let line = c.in-Some.ensures.some in
    let whole = c.loop-rest.invariant in
    rw c.in-Ok.ensures.items (
      more_text ops op c.args.text.now rest after whole.0 line.whole,
      more_right ops op whole.1 line.right,
      omega (arith, length-append ops (op ∷ []), shorter op rest after line.whole, whole.2),
    )

pub loop-rest-smaller : goal.loop-rest-smaller
loop-rest-smaller c = shorter c.in-Some.op c.loop-rest.rest.now c.in-Some.after.now c.in-Some.ensures.some.whole
