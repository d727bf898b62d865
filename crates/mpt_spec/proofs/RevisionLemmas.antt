-- Which of two a revision has.
use Rattle.std.proofs.Common.{◌≡◌, ◌≢◌, ℕ, Bool, true, false, eqb, ap}
use Rattle.std.specs.Prelude.{if◌then◌else◌}
use Rattle.std.proofs.lemmas.Bool.{eqb-true, eq-eqb, false_from_ne_true}
use Rattle.mpt_spec.specs.Revision.{by_revision}

-- the first at revision 1
pub by_revision-old : {A : Type 0} (r : ℕ) (a b : A) → r ≡ 1 → by_revision r a b ≡ a
by_revision-old r a b e = ap (λ (t : Bool). if t then a else b) (eq-eqb r 1 e)

-- the second at any other
pub by_revision-new : {A : Type 0} (r : ℕ) (a b : A) → r ≢ 1 → by_revision r a b ≡ b
by_revision-new r a b h = ap (λ (t : Bool). if t then a else b) (false_from_ne_true (eqb r 1) (λ e. h (eqb-true r 1 e)))

-- what holds of both
pub by_revision-both : {A : Type 0} (P : A → Type 0) (r : ℕ) (a b : A) → P a → P b → P (by_revision r a b)
by_revision-both P r a b p q = by_test (eqb r 1)
  where
    by_test : (t : Bool) → P (if t then a else b)
    by_test true = p
    by_test false = q
