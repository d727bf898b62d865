use Rattle.std.proofs.Common.{refl, arith}
use Rattle.std.proofs.lemmas.Bool.{false≢true}
use Rattle.mpf_madt.proofs.FaultLemmas.{none_before_length, none_before_checksum}
use Rattle.mpf_madt.proofs.reading.check_header.Goals as goal

pub returns-then-u32_at-bytes-clause-fault : goal.returns-then-u32_at-bytes-clause-fault
returns-then-u32_at-bytes-clause-fault c =
    rw (c.fault_at-then-u32_at-bytes.ensures.place, c.fault_at-then-u32_at-bytes.ensures.reason) (record {
      stands = (refl, omega arith, λ e. c.if-u32_at-bytes.true (omega (arith, c.u32_at.ensures, e)));
      least = none_before_length c.args.bytes.now (omega arith) (c.if-not-has_signature.ensures.0 refl);
    })

pub returns-then-not-has_checksum-clause-fault : goal.returns-then-not-has_checksum-clause-fault
returns-then-not-has_checksum-clause-fault c =
    rw (c.fault_at-then-not-has_checksum.ensures.place, c.fault_at-then-not-has_checksum.ensures.reason) (record {
      stands = (refl, omega arith, λ e. false≢true (c.if-not-has_checksum.ensures.1 e));
      least = none_before_checksum c.args.bytes.now (omega arith) (c.if-not-has_signature.ensures.0 refl) (omega (arith, c.u32_at.ensures));
    })
