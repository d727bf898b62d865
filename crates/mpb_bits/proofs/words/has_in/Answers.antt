use Rattle.mpb_bits.proofs.WordLemmas.{has-shifted}
use Rattle.mpb_bits.proofs.words.has_in.Goals as goal

pub returns : goal.returns
returns c = has-shifted c.args.words.now c.args.number
