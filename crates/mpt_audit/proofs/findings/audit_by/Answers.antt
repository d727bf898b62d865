use Rattle.std.proofs.Common.{◌≡◌, ℕ, sym, subst, arith}
use Rattle.mpt_audit.specs.Progress.{AreFindingsBefore}
use Rattle.mpt_audit.proofs.FindingLemmas.{start, whole}
use Rattle.mpt_audit.proofs.findings.audit_by.Goals as goal

pub loop-n-init : goal.loop-n-init
loop-n-init c = subst (AreFindingsBefore c.args.pointer.now c.args.table.now 0 0) (sym c.new-out.ensures.items) (start c.args.pointer.now c.args.table.now)

pub returns : goal.returns
returns c =
    let all : c.loop-n.n ≡ 24 = omega (arith, c.loop-n-test.false) in
    whole c.args.pointer.now c.args.table.now c.loop-n.out.items (subst (λ (n : ℕ). AreFindingsBefore c.args.pointer.now c.args.table.now n 0 c.loop-n.out.items) all c.loop-n.invariant)
