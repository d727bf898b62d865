use Rattle.std.proofs.Common.{◌≡◌, false, take}
use Rattle.std.specs.List.{list_any}
use Rattle.mpb_setup.specs.Faults.{is_op_at}
use Rattle.mpb_setup.proofs.faults.is_some_op_at.Given as goal

abbrev pub invariant-loop-op : goal.invariant-loop-op
invariant-loop-op l = list_any (is_op_at l.place) (take l.op-index l.ops) ≡ false
