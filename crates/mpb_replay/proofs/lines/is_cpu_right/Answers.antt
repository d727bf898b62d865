use Rattle.std.proofs.Common.{◌≡◌, ap, sym, subst, ◌∙◌}
use Rattle.std.specs.Option.{option_map}
use Rattle.mpb_board.specs.BoardView.{state_of}
use Rattle.mpb_replay_laws.specs.Lines.{cpu_line_in, line_of_processor}
use Rattle.mpb_replay.proofs.PlaceLemmas.{got_map, got_one, got_none, left, right, neither}
use Rattle.mpb_replay.proofs.StateLemmas.{IsAt, processor_at, none_at, cpu_told}
use Rattle.mpb_replay.proofs.lines.is_cpu_right.Goals as goal

pub returns-in-Some-get : goal.returns-in-Some-get
returns-in-Some-get c =
    let board = c.args.board.now in
    let ps = (state_of board).processors in
    let same : c.as_slice-cpus.result.now ≡ board.plan.cpus = c.as_slice-cpus.ensures.value ∙ ap (λ p. p.cpus) (c.behind-board.view_is ∙ c.config.ensures.same) in
    let at = processor_at board.plan board.journal c.args.number c.in-Some-get.cpu.now c.as_slice-cpus.result.now c.config.ensures.kept same c.in-Some-get.ensures.lookup.3.0 c.in-Some-get.ensures.lookup.1 in
    cpu_told c.is_line_of_cpu.result c.args.lines.now ps c.args.number c.in-Some.line.now c.cpu.inside.id c.in-Some.ensures.lookup.3.0 c.in-Some.ensures.lookup.1
    (subst (IsAt ps c.args.number) (sym (ap (λ p. p.id) c.cpu.view_is)) at) c.is_line_of_cpu.ensures

pub returns-in-None-get : goal.returns-in-None-get
returns-in-None-get c =
    let board = c.args.board.now in
    let same : c.as_slice-cpus.result.now ≡ board.plan.cpus = c.as_slice-cpus.ensures.value ∙ ap (λ p. p.cpus) (c.behind-board.view_is ∙ c.config.ensures.same) in
    left (cpu_line_in c.in-Some.line.now) _ _ (got_one cpu_line_in c.args.number c.args.lines.now c.in-Some.line.now c.in-Some.ensures.lookup.3.0 c.in-Some.ensures.lookup.1)
    (got_map line_of_processor c.args.number (state_of board).processors ∙ ap (option_map line_of_processor) (none_at board.plan board.journal c.args.number c.as_slice-cpus.result.now same c.in-None-get.ensures.lookup.0))

pub returns-in-Some-get-2 : goal.returns-in-Some-get-2
returns-in-Some-get-2 c =
    let board = c.args.board.now in
    let same : c.as_slice-cpus.result.now ≡ board.plan.cpus = c.as_slice-cpus.ensures.value ∙ ap (λ p. p.cpus) (c.behind-board.view_is ∙ c.config.ensures.same) in
    let at = processor_at board.plan board.journal c.args.number c.in-Some-get-2.field-0.now c.as_slice-cpus.result.now c.config.ensures.kept same c.in-Some-get-2.ensures.lookup.3.0 c.in-Some-get-2.ensures.lookup.1 in
    right (line_of_processor at.processor) _ _ (got_none cpu_line_in c.args.number c.args.lines.now c.in-None.ensures.lookup.0)
    (got_map line_of_processor c.args.number (state_of board).processors ∙ ap (option_map line_of_processor) at.here)

pub returns-in-None-get-2 : goal.returns-in-None-get-2
returns-in-None-get-2 c =
    let board = c.args.board.now in
    let same : c.as_slice-cpus.result.now ≡ board.plan.cpus = c.as_slice-cpus.ensures.value ∙ ap (λ p. p.cpus) (c.behind-board.view_is ∙ c.config.ensures.same) in
    neither _ _ (got_none cpu_line_in c.args.number c.args.lines.now c.in-None.ensures.lookup.0)
    (got_map line_of_processor c.args.number (state_of board).processors ∙ ap (option_map line_of_processor) (none_at board.plan board.journal c.args.number c.as_slice-cpus.result.now same c.in-None-get-2.ensures.lookup.0))
