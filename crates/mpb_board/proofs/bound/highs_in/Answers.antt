use Rattle.std.proofs.Common.{◌∙◌, ap, count_by, take_all}
use Rattle.mpb_spec.specs.Room.{is_high}
use Rattle.mpb_board.proofs.bound.highs_in.Goals as goal

pub returns-clause-count : goal.returns-clause-count
returns-clause-count c = c.loop-word.invariant.0 ∙ ap (count_by is_high) (take_all c.loop-word.word-index c.args.words.now c.loop-word-test.false)
