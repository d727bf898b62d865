use Rattle.std.proofs.Common.{sym, ap, arith}
use Rattle.mpb_spec.specs.Steps.{collected}
use Rattle.mpb_spec.specs.Outcomes.{of_collect}
use Rattle.mpb_spec.proofs.StateLemmas.{changed_at, changed_beyond, got_at, got_beyond}
use Rattle.mpb_machine.proofs.places.collect.Goals as goal

pub returns-then-at-places-clause-state : goal.returns-then-at-places-clause-state
returns-then-at-places-clause-state c = changed_beyond c.args.at (collected c.args.pins) c.args.places.now (omega arith)

pub returns-clause-state : goal.returns-clause-state
returns-clause-state c = changed_at c.args.at (collected c.args.pins) c.args.places.now _ _ (omega arith) c.collect.ensures.state

pub returns-then-at-places-clause-outcome : goal.returns-then-at-places-clause-outcome
returns-then-at-places-clause-outcome c = sym (ap (of_collect c.args.pins) (got_beyond c.args.at c.args.places.now (omega arith)))

pub returns-clause-outcome : goal.returns-clause-outcome
returns-clause-outcome c =
    let got = got_at c.args.at c.args.places.now c.index-places-at.result (omega arith) in
    rw got (cc)
