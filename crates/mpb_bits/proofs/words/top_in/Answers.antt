use Rattle.std.proofs.Common.{◌-◌, arith}
use Rattle.mpb_bits.proofs.WordLemmas.{greatest-members, greatest-none}
use Rattle.mpb_bits.proofs.words.top_in.Goals as goal

-- the first word from above that is not 0
pub returns-then-word-ne0-clause-greatest : goal.returns-then-word-ne0-clause-greatest
returns-then-word-ne0-clause-greatest c =
    greatest-members c.args.words.now (c.loop-place.place - 1) c.ilog2.result c.ilog2.ensures.bound c.ilog2.ensures.power_le c.ilog2.ensures.next_power_gt (λ m lt. c.loop-place.invariant.zeros m (omega arith))

-- all words are 0
pub returns-clause-greatest : goal.returns-clause-greatest
returns-clause-greatest c = greatest-none c.args.words.now (λ k. c.loop-place.invariant.zeros k (omega arith))
