use Rattle.mpt_audit.proofs.OneLemmas.{findings-one}
use Rattle.mpt_audit.proofs.laws.findings_are_one.Goals as goal

pub returns : goal.returns
returns c = findings-one
