use Rattle.mpt_audit.specs.Progress.{AreFindingsBefore}
use Rattle.mpt_audit.proofs.findings.audit_by.Given as goal

abbrev pub invariant-loop-n : goal.invariant-loop-n
invariant-loop-n l = AreFindingsBefore l.pointer l.table l.n 0 l.out.items
