use Rattle.mpf_laws.proofs.PirJudgment.{pir-judged}
use Rattle.mpf_laws.proofs.laws.bytes_are_a_pir_or_refused.Goals as goal

pub returns : goal.returns
returns c = pir-judged
