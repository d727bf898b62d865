use Rattle.mpb_bits.proofs.WordLemmas.{members-take}
use Rattle.mpb_bits.proofs.words.take_in.Goals as goal

pub returns : goal.returns
returns c = record { set = members-take c.args.words.now c.args.number c.requires; there = c.has_in-there.ensures }
