use Rattle.std.proofs.Common.{◌≡◌, drop}
use Rattle.mpb_report_line.specs.Reading.{ascends_behind}
use Rattle.mpb_report_line.proofs.vectors.ascend_behind.Given as goal

abbrev pub invariant-loop-vector : goal.invariant-loop-vector
invariant-loop-vector l = ascends_behind l.last (drop l.vector-index l.vectors) ≡ ascends_behind l.first l.vectors
