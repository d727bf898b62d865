use Rattle.std.proofs.Common.{map, arith}
use Rattle.mpb_robin.specs.RoundRobin.{Run}
use Rattle.mpb_run.proofs.AdvanceLemmas.{run_pulsed}
use Rattle.mpb_run.proofs.ListLemmas.{length_at}
use Rattle.mpb_run.proofs.run.Run.pulse.Goals as goal

pub log_hit-requires-clause-room : goal.log_hit-requires-clause-room
log_hit-requires-clause-room c =
    let d = c.args.device in
    let less = rw (← c.self.view_is) at c.requires.room in
    let large = c.self.invariant d in
    omega (arith, less, large, length_at d c.self.inside.board.plan.devices)

pub invariant_of-self : goal.invariant_of-self
invariant_of-self c = λ d. omega (arith, c.self.invariant d, c.log_hit.ensures.room d)

pub returns : goal.returns
returns c =
    let inside = c.self.inside in
    let r : Run = record { plan = inside.board.plan; journal = inside.board.journal; latch = inside.latch; made = inside.made.items; logs = map (λ l. l.items) inside.logs.items; counts = map (λ l. l.items) inside.counts.items } in
    run_pulsed r c.args.self.now c.args.device c.args.pulse c.pulse-hit.new.self c.pulse-hit.result (map (λ l. l.items) c.log_hit.new.logs.items) c.self.view_is c.pulse-hit.ensures.state c.pulse-hit.ensures.answer c.log_hit.ensures.logs
