use Rattle.std.proofs.Common.{arith}
use Rattle.mpb_bits.proofs.WordLemmas.{members-united_words}
use Rattle.mpb_bits.proofs.words.unite_in.Goals as goal

pub returns : goal.returns
returns c = members-united_words c.loop-place.words c.args.words.now c.args.others.now c.loop-place.place (omega arith) c.requires c.loop-place.invariant.done c.loop-place.invariant.rest
