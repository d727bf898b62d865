use Rattle.std.proofs.Common.{ℕ, map, ap, subst, ◌∙◌, arith}
use Rattle.std.proofs.lemmas.List.{length-map}
use Rattle.mpb_board.specs.BoardView.{state_of}
use Rattle.mpb_replay_laws.specs.Lines.{cpu_line_in, line_of_processor}
use Rattle.mpb_replay.specs.Compared.{IsSameAt}
use Rattle.mpb_replay.proofs.LogLemmas.{more_same, all_same}
use Rattle.mpb_replay.proofs.StateLemmas.{processors_long}
use Rattle.mpb_replay.proofs.lines.wrong_cpu.Goals as goal

pub loop-number-preserved : goal.loop-number-preserved
loop-number-preserved c =
    let xs = map cpu_line_in c.args.lines.now in
    let ys = map line_of_processor (state_of c.args.board.now).processors in
    more_same xs ys c.loop-number.number c.loop-number.invariant (subst (λ (n : ℕ). IsSameAt xs ys n) c.from.ensures c.if-not-is_cpu_right.ensures)

pub returns : goal.returns
returns c =
    let board = c.args.board.now in
    let ps = (state_of board).processors in
    let long = processors_long board.plan board.journal c.behind-board.inside.cpus.items (ap (λ p. p.cpus) (c.behind-board.view_is ∙ c.config.ensures.same)) in
    all_same (map cpu_line_in c.args.lines.now) (map line_of_processor ps) c.loop-number.number c.loop-number.invariant (omega (arith, long, length-map ps line_of_processor, c.len.ensures, c.loop-number-test.false))
