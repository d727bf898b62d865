use Rattle.std.proofs.Common.{◌≡◌, ◌+◌, map, ap, subst, ◌∙◌, arith}
use Rattle.mpb_board.specs.BoardView.{state_of}
use Rattle.mpb_replay_laws.specs.Differences.{IsFirstDifference}
use Rattle.mpb_replay_laws.specs.Lines.{cpu_line_in, io_line_in, line_of_processor, line_of_place}
use Rattle.mpb_replay.proofs.StateLemmas.{at_cpu, at_io, processors_long}
use Rattle.mpb_replay.proofs.lines.wrong_line.Goals as goal

pub returns-in-Some : goal.returns-in-Some
returns-in-Some c =
    let s = state_of c.args.board.now in
    at_cpu c.args.report.now s c.in-Some.number _ (c.if-not-same_imcr.ensures ∙ c.imcr.ensures.register) (ap (λ n. 1 + n) c.from.ensures)
    (subst (λ ls. IsFirstDifference (map cpu_line_in ls) (map line_of_processor s.processors) c.in-Some.number) c.as_slice.ensures c.in-Some.ensures)

pub returns-in-Some-wrong_io : goal.returns-in-Some-wrong_io
returns-in-Some-wrong_io c =
    let board = c.args.board.now in
    let s = state_of board in
    let long = processors_long board.plan board.journal c.behind-board.inside.cpus.items (ap (λ p. p.cpus) (c.behind-board.view_is ∙ c.config.ensures.same)) in
    at_io c.args.report.now s c.in-Some-wrong_io.place _ c.len-count.result (c.if-not-same_imcr.ensures ∙ c.imcr.ensures.register)
    (subst (λ ls. map cpu_line_in ls ≡ map line_of_processor s.processors) c.as_slice.ensures c.in-None.ensures)
    (omega (arith, c.len-count.ensures, long)) (ap (λ n. 1 + c.len-count.result + n) c.from-in-Some-wrong_io.ensures)
    (subst (λ ls. IsFirstDifference (map io_line_in ls) (map line_of_place s.places) c.in-Some-wrong_io.place) c.as_slice-in-None.ensures c.in-Some-wrong_io.ensures)
