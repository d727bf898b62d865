use Rattle.std.proofs.Common.{is_some, map, ap, ◌∙◌}
use Rattle.mpb_spec.specs.Steps.{next_op}
use Rattle.mpb_robin.specs.RoundRobin.{Run, state_in, with_step}
use Rattle.mpb_run.proofs.AdvanceLemmas.{was_made, run_advanced}
use Rattle.mpb_run.proofs.run.Run.advance.Goals as goal

pub returns-clause-made : goal.returns-clause-made
returns-clause-made c =
    was_made c.self.inside.board c.advance.new.self c.args.agent c.args.offer c.advance.result c.advance.ensures.step
    ∙ ap (λ (r : Run). is_some (next_op (state_in r) c.args.agent c.args.offer)) c.self.view_is

pub returns-clause-run : goal.returns-clause-run
returns-clause-run c =
    let inside = c.self.inside in
    let r : Run = record { plan = inside.board.plan; journal = inside.board.journal; latch = inside.latch; made = inside.made.items; logs = map (λ l. l.items) inside.logs.items; counts = map (λ l. l.items) inside.counts.items } in
    run_advanced r c.advance.new.self c.args.agent c.args.offer c.advance.result c.advance.ensures.step
    ∙ ap (λ (q : Run). with_step c.args.agent c.args.offer q) c.self.view_is
