use Rattle.std.proofs.Common.{◌≡◌, All, length, vec_len}
use Rattle.mpb_bus_rows.proofs.boards.four_devices.Given as goal

abbrev pub invariant-loop-place : goal.invariant-loop-place
invariant-loop-place l = (vec_len l.devices ≡ l.place) × All (λ words. length words.items ≡ 6) l.devices.items
