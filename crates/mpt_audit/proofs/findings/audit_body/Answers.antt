use Rattle.std.proofs.Common.{sym, subst, arith}
use Rattle.std.specs.Prelude.{IfOk}
use Rattle.mpt_spec.specs.Canonical.{IsWellFormedBody}
use Rattle.mpt_audit.specs.Findings.{IsFindingOf, ListsInOrder}
use Rattle.mpt_audit.proofs.SizeLemmas.{base_count, ext_count}
use Rattle.mpt_audit.proofs.findings.audit_body.Goals as goal

pub audit_table-requires-clause-base : goal.audit_table-requires-clause-base
audit_table-requires-clause-base c =
    let b = subst (λ x. IsWellFormedBody x c.args.pointer.now) c.in-Listed.is c.requires in
    omega (arith, b.2.base_fits, base_count c.in-Listed.table.base)

pub audit_table-requires-clause-ext : goal.audit_table-requires-clause-ext
audit_table-requires-clause-ext c =
    let b = subst (λ x. IsWellFormedBody x c.args.pointer.now) c.in-Listed.is c.requires in
    omega (arith, b.2.ext_fits, ext_count c.in-Listed.table.ext)

pub returns-in-Default : goal.returns-in-Default
returns-in-Default c = subst (λ b. IfOk c.audit_pointer.result (λ found. ListsInOrder (IsFindingOf c.args.pointer.now b) found.items)) (sym c.in-Default.is) c.audit_pointer.ensures

pub returns-in-Listed : goal.returns-in-Listed
returns-in-Listed c = subst (λ b. IfOk c.audit_table.result (λ found. ListsInOrder (IsFindingOf c.args.pointer.now b) found.items)) (sym c.in-Listed.is) c.audit_table.ensures
