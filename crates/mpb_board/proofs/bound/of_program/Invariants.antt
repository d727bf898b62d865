use Rattle.std.proofs.Common.{◌≡◌, ◌≤◌, count_by, take}
use Rattle.mpb_spec.specs.Room.{is_write, is_eoi}
use Rattle.mpb_board.proofs.bound.of_program.Given as goal

abbrev pub invariant-loop-op : goal.invariant-loop-op
invariant-loop-op l = record {
  writes : l.writes ≡ count_by is_write (take l.op-index l.program);
  ends : l.ends ≡ count_by is_eoi (take l.op-index l.program);
  few_writes : l.writes ≤ l.op-index;
  few_ends : l.ends ≤ l.op-index;
}
