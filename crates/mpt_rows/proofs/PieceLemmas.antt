-- What was written piece by piece is the whole.
use Rattle.std.proofs.Common.{◌≡◌, ℕ, ◌+◌, ◌*◌, List, [], ◌∷◌, ◌++◌, map, sym, ap, ◌∙◌, append_assoc, append-nil}
use Rattle.std.specs.List.{range_with_len}
use Rattle.std.proofs.lemmas.List.FromFn.{map-range_with_len_more}

-- the multiples of 16 from the one of a number on
abbrev pub multiples : ℕ → ℕ → List ℕ
multiples low n = map (λ k. 16 * k) (range_with_len low n)

pub no_multiples : (old : List ℕ) (low n : ℕ) → n ≡ 0 → old ≡ old ++ multiples low n
no_multiples old low n e = sym (append-nil old) ∙ ap (λ k. old ++ multiples low k) (sym e)

pub multiples_more : (x old new : List ℕ) (low n m k : ℕ) → low + n ≡ k → m ≡ n + 1 → x ≡ old ++ multiples low n → new ≡ x ++ 16 * k ∷ [] → new ≡ old ++ multiples low m
multiples_more x old new low n m k at e before after =
    let more : multiples low (n + 1) ≡ multiples low n ++ 16 * k ∷ [] = map-range_with_len_more (λ k. 16 * k) low n k at in
    after ∙ ap (λ y. y ++ 16 * k ∷ []) before ∙ append_assoc old (multiples low n) (16 * k ∷ []) ∙ ap (λ y. old ++ y) (sym more) ∙ ap (λ y. old ++ multiples low y) (sym e)
