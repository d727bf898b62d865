use Rattle.std.proofs.Common.{◌∙◌, subst}
use Rattle.mpb_crew.specs.declared.answer.Answer.{Answer}
use Rattle.mpb_crew.specs.Workers.{WasTurn}
use Rattle.mpb_crew.proofs.Collecting.{rests_after}
use Rattle.mpb_crew.proofs.collectors.run_io.Goals as goal

pub returns-in-Quiet-clause-end : goal.returns-in-Quiet-clause-end
returns-in-Quiet-clause-end g c =
    let was = subst (λ (t : Answer). WasTurn c.turn.new.held c.loop.seat t c.turn.new.seat c.turn.new.col) c.in-Quiet.is c.turn.ensures.turn in
    rests_after c.turn.new.held c.args.seat.now c.loop.seat c.turn.new.seat c.args.col.now c.turn.new.col c.requires.config c.requires.there c.loop.invariant.0 (c.turn.ensures.col.1 ∙ c.loop.invariant.2) was
