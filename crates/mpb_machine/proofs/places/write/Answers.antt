use Rattle.std.proofs.Common.{sym, ap, arith}
use Rattle.mpb_spec.specs.IoApic.{written}
use Rattle.mpb_spec.specs.Steps.{with_chip}
use Rattle.mpb_spec.specs.Outcomes.{of_write}
use Rattle.mpb_spec.proofs.StateLemmas.{changed_at, changed_beyond, got_at, got_beyond}
use Rattle.mpb_machine.proofs.places.write.Goals as goal

pub returns-then-at-places-clause-state : goal.returns-then-at-places-clause-state
returns-then-at-places-clause-state c = changed_beyond c.args.at (with_chip (written c.args.value)) c.args.places.now (omega arith)

pub returns-clause-state : goal.returns-clause-state
returns-clause-state c = changed_at c.args.at (with_chip (written c.args.value)) c.args.places.now _ _ (omega arith) c.write.ensures.state

pub returns-then-at-places-clause-outcome : goal.returns-then-at-places-clause-outcome
returns-then-at-places-clause-outcome c = sym (ap (of_write c.args.value) (got_beyond c.args.at c.args.places.now (omega arith)))

pub returns-clause-outcome : goal.returns-clause-outcome
returns-clause-outcome c =
    let got = got_at c.args.at c.args.places.now c.index-places-at.result (omega arith) in
    rw got (cc)
