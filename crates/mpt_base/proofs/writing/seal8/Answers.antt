use Rattle.mpt_base.proofs.SealLemmas.{set-checksum_of}
use Rattle.mpt_base.proofs.writing.seal8.Goals as goal

pub returns-clause-sums : goal.returns-clause-sums
returns-clause-sums c = rw c.checksum8.ensures (set-checksum_of c.args.bytes.now c.args.at c.requires)
