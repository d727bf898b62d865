use Rattle.std.proofs.Common.{subst}
use Rattle.mpb_spec.specs.declared.agent.Offer.TheVariants.{Collect}
use Rattle.mpb_crew.specs.declared.answer.Answer.{Answer}
use Rattle.mpb_crew.specs.declared.answer.Answer.TheVariants.{Made}
use Rattle.mpb_crew.specs.Workers.{Took}
use Rattle.mpb_crew.proofs.Collecting.{collected}
use Rattle.mpb_crew.proofs.collectors.collect.Goals as goal

pub returns-in-Made : goal.returns-in-Made
returns-in-Made g c =
    let took = subst (λ (t : Answer). Took c.args.seat.now (Collect c.args.held.now) t c.step.new.seat) c.in-Made.is c.step.ensures in
    collected c.args.held.now c.args.seat.now c.step.new.seat c.args.col.now Made took c.requires.account
