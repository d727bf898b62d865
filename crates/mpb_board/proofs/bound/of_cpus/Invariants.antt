use Rattle.std.proofs.Common.{◌≡◌, ◌≤◌, length, count_by, sum_by, take}
use Rattle.mpb_spec.specs.Room.{is_write, is_eoi}
use Rattle.mpb_board.proofs.bound.of_cpus.Given as goal

abbrev pub invariant-loop-cpu : goal.invariant-loop-cpu
invariant-loop-cpu l = record {
  ops : l.ops ≡ sum_by (λ p. length p.program) (take l.cpu-index l.cpus);
  writes : l.writes ≡ sum_by (λ p. count_by is_write p.program) (take l.cpu-index l.cpus);
  ends : l.ends ≡ sum_by (λ p. count_by is_eoi p.program) (take l.cpu-index l.cpus);
  few_writes : l.writes ≤ l.ops;
  few_ends : l.ends ≤ l.ops;
}
