use Rattle.std.proofs.Common.{arith, true}
use Rattle.mpb_spec.specs.State.{Place}
use Rattle.mpb_spec.proofs.StateLemmas.{changed_at, changed_beyond}
use Rattle.mpb_machine.proofs.places.sweep.Goals as goal

pub returns-then-at-places : goal.returns-then-at-places
returns-then-at-places c = changed_beyond c.args.at (λ (p : Place). record p { swept = true }) c.args.places.now (omega arith)

pub returns : goal.returns
returns c = changed_at c.args.at (λ (p : Place). record p { swept = true }) c.args.places.now _ _ (omega arith) c.sweep.ensures
