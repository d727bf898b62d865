use Rattle.mpf_pir.proofs.ComparisonLemmas.{nothing_seen_at}
use Rattle.mpf_pir.proofs.comparing.nothing_seen.Goals as goal

pub returns : goal.returns
returns c = nothing_seen_at
