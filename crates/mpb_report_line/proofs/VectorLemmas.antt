-- Numbers that ascend, one more at a time.
use Rattle.std.proofs.Common.{◌≡◌, ℕ, ◌+◌, ◌<◌, ◌≤◌, Bool, false, ◌&&◌, List, ◌∷◌, length, drop, get_or, sym, ap, ◌∙◌}
use Rattle.std.proofs.lemmas.Bool.{lt-ltb, le-ltb}
use Rattle.std.proofs.lemmas.List.{at_drop_more}
use Rattle.mpb_report_line.specs.Reading.{ascends_behind}

pub ascends_more : (last : ℕ) (xs : List ℕ) (i v : ℕ) → i < length xs → v ≡ get_or xs i 0 → last < v → ascends_behind last (drop i xs) ≡ ascends_behind v (drop (i + 1) xs)
ascends_more last xs i v within is less =
    at_drop_more (ascends_behind last) xs i 0 within
    ∙ ap (λ x. ascends_behind last (x ∷ drop (i + 1) xs)) (sym is)
    ∙ ap (λ (b : Bool). b && ascends_behind v (drop (i + 1) xs)) (lt-ltb last v less)

pub ascends_stop : (last : ℕ) (xs : List ℕ) (i v : ℕ) → i < length xs → v ≡ get_or xs i 0 → v ≤ last → ascends_behind last (drop i xs) ≡ false
ascends_stop last xs i v within is less =
    at_drop_more (ascends_behind last) xs i 0 within
    ∙ ap (λ x. ascends_behind last (x ∷ drop (i + 1) xs)) (sym is)
    ∙ ap (λ (b : Bool). b && ascends_behind v (drop (i + 1) xs)) (le-ltb last v less)
