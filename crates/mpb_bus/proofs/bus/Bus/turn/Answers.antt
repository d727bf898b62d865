use Rattle.std.proofs.Common.{◌≡◌, ◌∙◌, All, [], sym, ap, subst}
use Rattle.mpb_spec.specs.declared.agent.Agent.{Agent}
use Rattle.mpb_spec.specs.Journal.{final_state_of}
use Rattle.mpb_spec.specs.May.{MayStep, MayAny}
use Rattle.mpb_bus.specs.declared.view.AgentView.{AgentView}
use Rattle.mpb_spec.specs.Agents.{IsPrefix, entries_of}
use Rattle.mpb_bus.specs.Rule.{Sat, agent_of, given, resting, taken}
use Rattle.mpb_bus.proofs.Answered.{sees_on, knows_own, keeps_olds, is_idle}
use Rattle.mpb_bus.proofs.bus.Bus.turn.Goals as goal

pub returns-clause-prefix : goal.returns-clause-prefix
returns-clause-prefix g c =
    let a = agent_of c.seat.inside.seat.me.0 in
    let b = c.take-board.result in
    let b' = c.make-answer.new.board in
    let now : agent_of c.give.new.seat.me.0 ≡ given b'.journal (taken b.journal a) = ap (λ (x : Sat). agent_of x.0) (c.give.ensures.gave ∙ ap (λ (x : Sat). (resting (given b'.journal (agent_of x.0)), [])) c.take-board.ensures.took) in
    subst (λ (x : AgentView). IsPrefix c.args.seat.now.seen x.seen) (sym now)
    (subst (λ l. IsPrefix l b'.journal) (ap (λ s. s.seen) c.seat.view_is) (sees_on b b' c.seat.inside.agent c.args.offer a c.seat.invariant.1 c.take-board.ensures.fits c.make-answer.result c.make-answer.ensures.answers))

pub returns-clause-mine : goal.returns-clause-mine
returns-clause-mine g c =
    let a = agent_of c.seat.inside.seat.me.0 in
    let b = c.take-board.result in
    let b' = c.make-answer.new.board in
    let now : agent_of c.give.new.seat.me.0 ≡ given b'.journal (taken b.journal a) = ap (λ (x : Sat). agent_of x.0) (c.give.ensures.gave ∙ ap (λ (x : Sat). (resting (given b'.journal (agent_of x.0)), [])) c.take-board.ensures.took) in
    subst (λ (x : AgentView). x.mine ≡ entries_of x.agent x.seen) (sym now) (knows_own b b' c.seat.inside.agent c.args.offer a c.seat.invariant.1 c.take-board.ensures.fits c.make-answer.result c.make-answer.ensures.answers)

pub returns-clause-olds : goal.returns-clause-olds
returns-clause-olds g c =
    let a = agent_of c.seat.inside.seat.me.0 in
    let b = c.take-board.result in
    let b' = c.make-answer.new.board in
    let now : agent_of c.give.new.seat.me.0 ≡ given b'.journal (taken b.journal a) = ap (λ (x : Sat). agent_of x.0) (c.give.ensures.gave ∙ ap (λ (x : Sat). (resting (given b'.journal (agent_of x.0)), [])) c.take-board.ensures.took) in
    subst (λ (x : AgentView). All (λ xs. IsPrefix xs x.seen) x.olds) (sym now) (keeps_olds b b' c.seat.inside.agent c.args.offer a c.seat.invariant.1 c.take-board.ensures.fits c.make-answer.result c.make-answer.ensures.answers)

pub returns-clause-idle : goal.returns-clause-idle
returns-clause-idle g c e =
    let a = agent_of c.seat.inside.seat.me.0 in
    let b = c.take-board.result in
    let b' = c.make-answer.new.board in
    let now : agent_of c.give.new.seat.me.0 ≡ given b'.journal (taken b.journal a) = ap (λ (x : Sat). agent_of x.0) (c.give.ensures.gave ∙ ap (λ (x : Sat). (resting (given b'.journal (agent_of x.0)), [])) c.take-board.ensures.took) in
    subst (λ (x : AgentView). (¬ MayStep (final_state_of x.config x.seen) x.agent c.args.offer) × ((h : Agent) × MayAny (final_state_of x.config x.seen) h)) (sym now)
    (is_idle b b' c.seat.inside.agent c.args.offer a c.seat.invariant.1 c.take-board.ensures.fits c.make-answer.result c.make-answer.ensures.answers e)
