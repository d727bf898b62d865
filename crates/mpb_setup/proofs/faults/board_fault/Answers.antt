use Rattle.std.proofs.Common.{◌≡◌, ◌&&◌, ◌≤◌, None, length, sym, ap, ◌∙◌, arith}
use Rattle.mpb_spec.specs.Numbers.{has}
use Rattle.mpb_setup.specs.Board.{enabled_ids, is_present, board_ids}
use Rattle.mpb_setup.specs.Faults.{least_double}
use Rattle.mpb_setup.proofs.ListLemmas.{filter-few, few-bytes, are-bytes}
use Rattle.mpb_setup.proofs.faults.board_fault.Goals as goal

pub overflow_cast-result : goal.overflow_cast-result
overflow_cast-result c =
    let p = c.args.p.now in
    let s = c.args.s.now in
    let few : length (board_ids p s) ≤ 256 = filter-few (λ id. has id (enabled_ids p) && is_present s.present id) in
    let same : length c.args.board.now ≡ length (board_ids p s) = ap length c.requires.board in
    omega (arith, few, same)

pub overflow_cast-result-then-ios-gt-MOST_IO_APICS : goal.overflow_cast-result-then-ios-gt-MOST_IO_APICS
overflow_cast-result-then-ios-gt-MOST_IO_APICS c =
    let none : least_double c.args.ios.now ≡ None = sym c.least_double-2.ensures ∙ c.in_default-least_double-2.is in
    omega (arith, few-bytes c.args.ios.now (are-bytes c.args.ios.now (λ i _. omega (arith, c.type_inv.ios i))) none)
