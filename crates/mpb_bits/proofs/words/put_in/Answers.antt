use Rattle.std.proofs.Common.{ap, not}
use Rattle.mpb_bits.proofs.WordLemmas.{members-put}
use Rattle.mpb_bits.proofs.words.put_in.Goals as goal

pub returns : goal.returns
returns c = record { set = members-put c.args.words.now c.args.number c.requires; absent = ap not c.has_in-there.ensures }
