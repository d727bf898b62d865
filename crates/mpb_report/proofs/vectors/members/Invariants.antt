use Rattle.std.proofs.Common.{◌≡◌, ◌≤◌, length}
use Rattle.mpb_report_spec.specs.StateLines.{members_below}
use Rattle.mpb_report.specs.Found.{register_of}
use Rattle.mpb_report.proofs.vectors.members.Given as goal

abbrev pub invariant-loop-vector : goal.invariant-loop-vector
invariant-loop-vector l = (l.vectors.items ≡ members_below l.vector (register_of l.register l.lapic)) × (length l.vectors.items ≤ l.vector)
