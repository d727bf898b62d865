use Rattle.mpt_audit_laws.proofs.SomeLemmas.{findings-some}
use Rattle.mpt_audit_laws.proofs.laws.tables_have_findings.Goals as goal

pub returns : goal.returns
returns c = findings-some
