use Rattle.std.proofs.Common.{◌≡◌, ◌&&◌, false, take}
use Rattle.std.specs.List.{list_any}
use Rattle.mpb_spec.specs.Numbers.{has}
use Rattle.mpb_setup.specs.Faults.{is_op_at}
use Rattle.mpb_setup.proofs.faults.is_some_cpu_at.Given as goal

abbrev pub invariant-loop-cpu : goal.invariant-loop-cpu
invariant-loop-cpu l = list_any (λ c. has c.id l.ids && list_any (is_op_at l.place) c.words) (take l.cpu-index l.cpus) ≡ false
