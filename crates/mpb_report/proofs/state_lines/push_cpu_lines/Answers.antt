use Rattle.std.proofs.Common.{◌≡◌, ◌++◌, ap, ◌∙◌}
use Rattle.mpt_base.proofs.AppendLemmas.{appended_more, appended_all}
use Rattle.mpb_spec.specs.declared.config.CpuConfig.{CpuConfig}
use Rattle.mpb_spec.specs.State.{processor_of}
use Rattle.mpb_board.specs.BoardView.{state_of}
use Rattle.mpb_report.specs.Found.{found_cpu}
use Rattle.mpb_report.proofs.FoundLemmas.{found_cpus}
use Rattle.mpb_report.proofs.state_lines.push_cpu_lines.Goals as goal

pub returns : goal.returns
returns c =
    let board = c.args.board.now in
    let same : c.as_slice-cpus.result.now ≡ board.plan.cpus = c.as_slice-cpus.ensures.value ∙ ap (λ p. p.cpus) (c.behind-board.view_is ∙ c.config.ensures.same) in
    let written = appended_all (λ (p : CpuConfig). found_cpu p.id (processor_of p.id (state_of board).processors)) c.as_slice-cpus.result.now c.loop-cpu.cpu-index c.args.out.now.items c.loop-cpu.out.items c.loop-cpu-test.false c.loop-cpu.invariant in
    written ∙ ap (λ t. c.args.out.now.items ++ t) (found_cpus board.plan board.journal c.as_slice-cpus.result.now same c.config.ensures.kept)

pub loop-cpu-preserved : goal.loop-cpu-preserved
loop-cpu-preserved c =
    let processors = (state_of c.args.board.now).processors in
    let piece = λ (p : CpuConfig). found_cpu p.id (processor_of p.id processors) in
    let same = c.cpu.view_is ∙ c.cpu-item.is in
    appended_more piece c.as_slice-cpus.result.now c.loop-cpu.cpu-index c.cpu-item.result c.args.out.now.items c.loop-cpu.out.items _ c.loop-cpu-test.true c.loop-cpu.invariant
    (c.in_default.ensures ∙ ap (λ p. c.loop-cpu.out.items ++ piece p) same)
