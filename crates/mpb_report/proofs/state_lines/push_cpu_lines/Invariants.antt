use Rattle.std.proofs.Common.{◌≡◌, ◌++◌, take}
use Rattle.std.specs.List.{flat_map}
use Rattle.mpb_spec.specs.State.{processor_of}
use Rattle.mpb_board.specs.BoardView.{state_of}
use Rattle.mpb_report.specs.Found.{found_cpu}
use Rattle.mpb_report.proofs.state_lines.push_cpu_lines.Given as goal

abbrev pub invariant-loop-cpu : goal.invariant-loop-cpu
invariant-loop-cpu l = l.out.items ≡ l.initial.out.items ++ flat_map (λ c. found_cpu c.id (processor_of c.id (state_of l.board).processors)) (take l.cpu-index l.cpus)
