-- What follows from being the first.
use Rattle.std.proofs.Common.{◌≡◌, ℕ, List, [], ◌∷◌, ◌++◌, sym, ◌∙◌, subst}
use Rattle.std.specs.List.{AllByRecursion}
use Rattle.mpt_spec.specs.Search.{IsFirst, HoldsAtNone}

first_is_one : (P : ℕ → Type 0) (b c : List ℕ) (x y : ℕ) (r s : List ℕ) → b ++ x ∷ r ≡ c ++ y ∷ s → AllByRecursion (λ z. ¬ P z) b → AllByRecursion (λ z. ¬ P z) c → P x → P y → x ≡ y
first_is_one P [] [] x y r s e nb nc px py = cc
first_is_one P [] (c ∷ cs) x y r s e nb nc px py =
    let same : x ≡ c = cc in absurd (nc.0 (subst P same px))
first_is_one P (b ∷ bs) [] x y r s e nb nc px py =
    let same : y ≡ b = cc in absurd (nb.0 (subst P same py))
first_is_one P (b ∷ bs) (c ∷ cs) x y r s e nb nc px py =
    let rest : bs ++ x ∷ r ≡ cs ++ y ∷ s = cc in
    first_is_one P bs cs x y r s rest nb.1 nc.1 px py

-- there is one first member
pub IsFirst-unique : (P : ℕ → Type 0) (xs : List ℕ) (x y : ℕ) → IsFirst P xs x → IsFirst P xs y → x ≡ y
IsFirst-unique P xs x y f g =
    first_is_one P f.before g.before x y f.after g.after (sym f.split ∙ g.split) f.none_before g.none_before f.holds g.holds

-- there is no first member where P holds at none
first_is_some : (P : ℕ → Type 0) (b : List ℕ) (x : ℕ) (r : List ℕ) → P x → AllByRecursion (λ y. ¬ P y) (b ++ x ∷ r) → ⊥
first_is_some P [] x r px none = none.0 px
first_is_some P (b ∷ bs) x r px none = first_is_some P bs x r px none.1

-- a first member and none exclude each other
pub IsFirst-some : (P : ℕ → Type 0) (xs : List ℕ) (x : ℕ) → IsFirst P xs x → ¬ HoldsAtNone P xs
IsFirst-some P xs x f none = first_is_some P f.before x f.after f.holds (rw f.split at none)
