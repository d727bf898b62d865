use Rattle.mpt_audit.specs.Progress.{AreFindingsBefore}
use Rattle.mpt_audit.proofs.findings.audit_rule.Given as goal

abbrev pub invariant-loop-i : goal.invariant-loop-i
invariant-loop-i l = AreFindingsBefore l.pointer l.table l.n l.i l.out.items
