use Rattle.std.proofs.Common.{◌≡◌, ◌&&◌, filter}
use Rattle.std.specs.List.{range_with_len}
use Rattle.mpb_spec.specs.Numbers.{has}
use Rattle.mpb_setup.specs.Board.{is_present}
use Rattle.mpb_setup.proofs.ids.board_ids.Given as goal

abbrev pub invariant-loop-n : goal.invariant-loop-n
invariant-loop-n l = l.ids.items ≡ filter (λ id. has id l.enabled && is_present l.s.present id) (range_with_len 0 l.n)
