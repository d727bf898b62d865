use Rattle.std.proofs.Common.{◌≡◌, ◌≤◌, All, length, vec_len}
use Rattle.mpb_bus_rows.proofs.boards.eight_processors.Given as goal

abbrev pub invariant-loop-id : goal.invariant-loop-id
invariant-loop-id l = (vec_len l.cpus ≡ l.id) × All (λ p. length p.program ≤ 100) l.cpus.items
