use Rattle.std.proofs.Common.{refl}
use Rattle.std.proofs.lemmas.Bool.{false≢true}
use Rattle.mpt_table.proofs.PointerFaults.{none_before_no_table, none_before_table_outside, none_before_revision, none_before_default}
use Rattle.mpt_table.proofs.pointer_fault.pointer_fault.Goals as goal

pub returns-then-not-has_body-clause-some : goal.returns-then-not-has_body-clause-some
returns-then-not-has_body-clause-some c =
    rw c.fault_at.ensures (record {
      stands = (refl, c.if-not-has_body.ensures.0, c.if-not-has_body.ensures.1);
      least = none_before_no_table c.args.pointer.now c.args.size c.args.at;
    })

pub returns-then-not-has_header_inside-clause-some : goal.returns-then-not-has_header_inside-clause-some
returns-then-not-has_header_inside-clause-some c =
    let d = c.if-not-has_header_inside.ensures.0 in
    rw c.fault_at-then-not-has_header_inside.ensures (record {
      stands = (refl, d, c.if-not-has_body.ensures d, c.if-not-has_header_inside.ensures.1);
      least = none_before_table_outside c.args.pointer.now c.args.size c.args.at c.if-not-has_body.ensures;
    })

pub returns-then-not-is_known_revision-clause-some : goal.returns-then-not-is_known_revision-clause-some
returns-then-not-is_known_revision-clause-some c =
    rw c.fault_at-then-not-is_known_revision.ensures (record {
      stands = (refl, λ known. false≢true (c.if-not-is_known_revision.ensures.1 known));
      least = none_before_revision c.args.pointer.now c.args.size c.args.at c.if-not-has_body.ensures c.if-not-has_header_inside.ensures;
    })

pub returns-then-pointer-gt-LAST_DEFAULT-clause-some : goal.returns-then-pointer-gt-LAST_DEFAULT-clause-some
returns-then-pointer-gt-LAST_DEFAULT-clause-some c =
    rw c.fault_at-then-pointer-gt-LAST_DEFAULT.ensures (record {
      stands = (refl, c.if-pointer-gt-LAST_DEFAULT.true);
      least = none_before_default c.args.pointer.now c.args.size c.args.at c.if-not-has_body.ensures c.if-not-has_header_inside.ensures (c.if-not-is_known_revision.ensures.0 refl);
    })
