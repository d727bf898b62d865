-- The reading of several bytes, one more at a time.
use Rattle.std.proofs.Common.{◌≡◌, ℕ, suc, List, [], ◌∷◌, ◌++◌, sym, refl, ap, ◌∙◌, append_assoc, append-nil}
use Rattle.std.specs.Prelude.{Option, Some, None}
use Rattle.mpt_line.specs.Reading.{◌>>=◌, many_in, with_front}

regroup : (xs : List ℕ) (v : ℕ) (o : Option (List ℕ × List ℕ)) → with_front (xs ++ v ∷ []) o ≡ with_front xs (o >>= λ more. Some (v ∷ more.0, more.1))
regroup xs v None = refl
regroup xs v (Some x) = ap (λ bytes. Some (bytes, x.1)) (append_assoc xs (v ∷ []) x.0)

-- one more byte was read
pub many_more : (one : List ℕ → Option (ℕ × List ℕ)) (n m : ℕ) (xs : List ℕ) (v : ℕ) (rest next : List ℕ) (whole : Option (List ℕ × List ℕ)) → n ≡ suc m
    → with_front xs (many_in one n rest) ≡ whole → one rest ≡ Some (v, next) → with_front (xs ++ v ∷ []) (many_in one m next) ≡ whole
unfolding many_in
many_more one n m xs v rest next whole e h r =
    regroup xs v (many_in one m next)
    ∙ ap (λ o. with_front xs (o >>= λ first. many_in one m first.1 >>= λ more. Some (first.0 ∷ more.0, more.1))) (sym r)
    ∙ ap (λ k. with_front xs (many_in one k rest)) (sym e)
    ∙ h

-- none was
pub many_stop : (one : List ℕ → Option (ℕ × List ℕ)) (n m : ℕ) (xs : List ℕ) (rest : List ℕ) (whole : Option (List ℕ × List ℕ)) → n ≡ suc m
    → with_front xs (many_in one n rest) ≡ whole → one rest ≡ None → whole ≡ None
unfolding many_in
many_stop one n m xs rest whole e h r =
    sym h
    ∙ ap (λ k. with_front xs (many_in one k rest)) e
    ∙ ap (λ o. with_front xs (o >>= λ first. many_in one m first.1 >>= λ more. Some (first.0 ∷ more.0, more.1))) r

pub many_none : (one : List ℕ → Option (ℕ × List ℕ)) (n : ℕ) (rest : List ℕ) → with_front [] (many_in one n rest) ≡ many_in one n rest
many_none one n rest = same (many_in one n rest)
  where
    same : (o : Option (List ℕ × List ℕ)) → with_front [] o ≡ o
    same None = refl
    same (Some x) = refl

-- all were read
pub many_all : (one : List ℕ → Option (ℕ × List ℕ)) (n : ℕ) (xs : List ℕ) (rest : List ℕ) (whole : Option (List ℕ × List ℕ)) → n ≡ 0
    → with_front xs (many_in one n rest) ≡ whole → whole ≡ Some (xs, rest)
unfolding many_in
many_all one n xs rest whole e h =
    sym h ∙ ap (λ k. with_front xs (many_in one k rest)) e ∙ ap (λ x. Some (x, rest)) (append-nil xs)
