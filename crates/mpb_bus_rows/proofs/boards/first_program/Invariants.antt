use Rattle.std.proofs.Common.{◌≡◌, ◌+◌, ◌*◌, vec_len}
use Rattle.mpb_bus_rows.proofs.boards.first_program.Given as goal

abbrev pub invariant-loop-id : goal.invariant-loop-id
invariant-loop-id l = vec_len l.program + 2 ≡ 3 * l.id

abbrev pub invariant-loop-place : goal.invariant-loop-place
invariant-loop-place l = vec_len l.program ≡ 22 + 4 * l.place
