-- What was written through a slice of a whole vector is what the vector has.
use Rattle.std.proofs.Common.{◌≡◌, ℕ, ◌≤◌, List, ◌++◌, take, drop, length, ◌∙◌, arith}
use Rattle.std.proofs.lemmas.List.{take-append-le, take_all}

pub written_back : (len : ℕ) (new items : List ℕ) → len ≡ length items → length new ≡ length items → take len (new ++ drop (length new) items) ≡ new
written_back len new items h k =
    let low : len ≤ length new = omega arith in
    let same : len ≡ length new = omega arith in
    take-append-le len new (drop (length new) items) low ∙ take_all len new (omega arith)
