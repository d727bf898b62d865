use Rattle.std.proofs.Common.{◌≡◌, ◌++◌, take}
use Rattle.std.specs.List.{flat_map}
use Rattle.mpb_report_spec.specs.StateLines.{further_vector}
use Rattle.mpb_report.proofs.vectors.push_further_vectors.Given as goal

abbrev pub invariant-loop-vector : goal.invariant-loop-vector
invariant-loop-vector l = l.out.items ≡ l.initial.out.items ++ flat_map further_vector (take l.vector-index l.vectors)
