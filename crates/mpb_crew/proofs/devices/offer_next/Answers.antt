use Rattle.std.proofs.Common.{◌∙◌, subst}
use Rattle.mpb_spec.specs.declared.agent.Offer.TheVariants.{Next}
use Rattle.mpb_crew.specs.declared.answer.Answer.{Answer}
use Rattle.mpb_crew.specs.Workers.{Took}
use Rattle.mpb_crew.proofs.Makings.{idle_after, made_after, never_rests_after}
use Rattle.mpb_crew.proofs.devices.offer_next.Goals as goal

pub unreachable-requires : goal.unreachable-requires
unreachable-requires g c =
    let took = subst (λ (t : Answer). Took c.loop.seat Next t c.step.new.seat) c.in-Quiet.is c.step.ensures in
    never_rests_after c.args.device c.args.words.now c.args.seat.now c.loop.seat c.step.new.seat c.requires.config c.requires.device c.requires.left c.loop.invariant.0 c.loop.invariant.1 took

pub step-requires : goal.step-requires
step-requires g c = c.loop.invariant.0.0 ∙ c.requires.bus

pub loop-preserved : goal.loop-preserved
loop-preserved g c =
    let took = subst (λ (t : Answer). Took c.loop.seat Next t c.step.new.seat) c.in-Idle.is c.step.ensures in
    idle_after c.args.seat.now c.loop.seat c.step.new.seat c.loop.invariant.0 c.loop.invariant.1 took

pub returns-in-Made : goal.returns-in-Made
returns-in-Made g c =
    let took = subst (λ (t : Answer). Took c.loop.seat Next t c.step.new.seat) c.in-Made.is c.step.ensures in
    made_after c.args.seat.now c.loop.seat c.step.new.seat c.loop.invariant.0 c.loop.invariant.1 took
