use Rattle.std.proofs.Common.{sym, ap, arith}
use Rattle.mpb_spec.specs.Outcomes.{of_read}
use Rattle.mpb_spec.proofs.StateLemmas.{got_at, got_beyond}
use Rattle.mpb_machine.proofs.places.read.Goals as goal

pub returns-then-at-places : goal.returns-then-at-places
returns-then-at-places c = sym (ap of_read (got_beyond c.args.at c.args.places.now (omega arith)))

pub returns : goal.returns
returns c =
    let got = got_at c.args.at c.args.places.now c.index-places-at.result (omega arith) in
    rw got (cc)
