use Rattle.mpf_laws.proofs.MadtJudgment.{madt-judged}
use Rattle.mpf_laws.proofs.laws.bytes_are_a_madt_or_refused.Goals as goal

pub returns : goal.returns
returns c = madt-judged
