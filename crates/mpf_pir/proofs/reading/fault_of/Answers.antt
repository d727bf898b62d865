use Rattle.std.proofs.Common.{refl}
use Rattle.std.proofs.lemmas.Bool.{false≢true}
use Rattle.mpf_pir.proofs.FaultLemmas.{first_short, first_signature, first_version}
use Rattle.mpf_pir.proofs.reading.fault_of.Goals as goal

pub returns-then-bytes-lt-HEADER_SIZE : goal.returns-then-bytes-lt-HEADER_SIZE
returns-then-bytes-lt-HEADER_SIZE c = record { some = first_short c.args.bytes.now c.if-bytes-lt-HEADER_SIZE.true; none = tt }

pub returns-then-not-has_part : goal.returns-then-not-has_part
returns-then-not-has_part c = record {
  some = first_signature c.args.bytes.now c.if-bytes-lt-HEADER_SIZE.false (λ e. false≢true (c.if-not-has_part.ensures.1 e));
  none = tt;
}

pub returns-then-not-has_part-2 : goal.returns-then-not-has_part-2
returns-then-not-has_part-2 c = record {
  some = first_version c.args.bytes.now c.if-bytes-lt-HEADER_SIZE.false (c.if-not-has_part.ensures.0 refl) (λ e. false≢true (c.if-not-has_part-2.ensures.1 e));
  none = tt;
}
