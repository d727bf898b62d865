use Rattle.std.proofs.Common.{refl, arith}
use Rattle.std.proofs.lemmas.Bool.{false≢true}
use Rattle.mpt_spec.specs.Table.{HasBaseInside}
use Rattle.mpt_table.proofs.TableFaults.{none_before_signature, none_before_revision, none_before_checksum}
use Rattle.mpt_table.proofs.header.header_fault.Goals as goal

pub returns-then-not-has_signature-clause-some : goal.returns-then-not-has_signature-clause-some
returns-then-not-has_signature-clause-some c =
    rw c.fault_at.ensures (record {
      stands = (refl, λ e. false≢true (c.if-not-has_signature.ensures.1 e));
      least = none_before_signature c.args.image.now c.args.at;
    })

pub returns-then-not-is_known_revision-clause-some : goal.returns-then-not-is_known_revision-clause-some
returns-then-not-is_known_revision-clause-some c =
    let inside : HasBaseInside c.args.image.now c.args.at = record { header = omega arith; inside = omega arith } in
    rw c.fault_at-then-not-is_known_revision.ensures (record {
      stands = (refl, λ known. false≢true (c.if-not-is_known_revision.ensures.1 known));
      least = none_before_revision c.args.image.now c.args.at (c.if-not-has_signature.ensures.0 refl) inside;
    })

pub returns-then-not-has_checksum-clause-some : goal.returns-then-not-has_checksum-clause-some
returns-then-not-has_checksum-clause-some c =
    let inside : HasBaseInside c.args.image.now c.args.at = record { header = omega arith; inside = omega arith } in
    let len = c.base_length-base_length.ensures in
    rw c.fault_at-then-not-has_checksum.ensures (record {
      stands = (refl, inside, λ e. false≢true (c.if-not-has_checksum.ensures.1 (rw len e)));
      least = none_before_checksum c.args.image.now c.args.at (c.if-not-has_signature.ensures.0 refl) inside (c.if-not-is_known_revision.ensures.0 refl);
    })
