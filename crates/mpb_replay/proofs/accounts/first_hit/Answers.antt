use Rattle.std.proofs.Common.{ap, sym, ◌∙◌}
use Rattle.std.specs.Option.{option_map}
use Rattle.mpb_spec.specs.Pulses.{is_on}
use Rattle.mpb_replay.proofs.HitLemmas.{none_more, some_here}
use Rattle.mpb_replay.proofs.accounts.first_hit.Goals as goal

pub returns-then-is_on : goal.returns-then-is_on
returns-then-is_on c = sym (ap (option_map (λ x. x.1)) (some_here (λ x. is_on c.args.at.io c.args.at.pin x.0) c.args.log.now c.loop-made.made-index _ c.loop-made.invariant c.loop-made-test.true (sym c.is_on.ensures ∙ c.if-is_on.true)))

pub loop-made-preserved : goal.loop-made-preserved
loop-made-preserved c = none_more (λ x. is_on c.args.at.io c.args.at.pin x.0) c.args.log.now c.loop-made.made-index _ c.loop-made.invariant c.loop-made-test.true (sym c.is_on.ensures ∙ c.if-is_on.false)
