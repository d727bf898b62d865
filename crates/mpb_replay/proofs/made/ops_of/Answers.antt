use mir.Val.{bool_byte}
use Rattle.std.proofs.Common.{◌≤◌, Bool, true, false, arith}
use Rattle.mpb_replay.proofs.MadeLemmas.{ops_counted}
use Rattle.mpb_replay.proofs.made.ops_of.Goals as goal

pub loop-word-preserved : goal.loop-word-preserved
loop-word-preserved c =
    let more = ops_counted c.args.words.now c.loop-word.word-index _ c.is_op.result c.from-ops.result c.loop-word-test.true c.is_op.ensures c.from-ops.ensures in
    let byte = byte-le c.is_op.result in
    (omega (arith, more), omega (arith, c.from-ops.ensures))
  where
    byte-le : (b : Bool) → bool_byte b ≤ 1
    byte-le true = omega arith
    byte-le false = omega arith
