-- A byte and its bits, by tables over all bytes.
use Rattle.std.proofs.Common.{◌≡◌, ◌==◌, ℕ, zero, suc, ◌+◌, ◌-◌, ◌/◌, ◌^◌, ◌<◌, ◌≤◌, Bool, true, false, cond, ◌&&◌, refl, ap, ◌∙◌, arith, nat_le, inl, inr, subst}
use Rattle.std.specs.Prelude.{bit_and, bit_or}
use Rattle.std.specs.Int.{bit_not, w8}
use Rattle.std.specs.List.{list_any, list_all, range_with_len}
use Rattle.std.proofs.lemmas.Bool.{eqb-true, cases_eq}
use Rattle.mpb_spec.specs.Numbers.{has}
use Rattle.mpf_pair.specs.Pair.{is_bit, is_line, byte_where}
use Rattle.mpf_pair.specs.Registers.{lines_of}
use Rattle.mpf_pair.proofs.LineLemmas.{any-filter, has-line, is_line-master, is_line-slave}

-- what passes a test over a row passes at each of its numbers
and_left : (a b : Bool) → (a && b) ≡ true → a ≡ true
and_left true b h = refl
and_left false b h = cc

and_right : (a b : Bool) → (a && b) ≡ true → b ≡ true
and_right true b h = h
and_right false b h = cc

passes : (p : ℕ → Bool) (m k n : ℕ) → list_all p (range_with_len m k) ≡ true → m ≤ n → n < m + k → p n ≡ true
passes p m zero n all le lt = absurd (omega arith)
passes p m (suc k) n all le lt = elim (cases_eq m n) [
  | inl e ↦ subst (λ (j : ℕ). p j ≡ true) e (and_left (p m) (list_all p (range_with_len (m + 1) k)) all)
  | inr ne ↦ passes p (m + 1) k n (and_right (p m) (list_all p (range_with_len (m + 1) k)) all) (omega arith) (omega arith)
]

-- the byte of a test depends on its first eight answers
pub byte_where-same : (f g : ℕ → Bool) → ((n : ℕ) → n < 8 → f n ≡ g n) → byte_where f ≡ byte_where g
byte_where-same f g same = rw (same 0 (omega arith), same 1 (omega arith), same 2 (omega arith), same 3 (omega arith), same 4 (omega arith), same 5 (omega arith), same 6 (omega arith), same 7 (omega arith)) refl

-- a byte is that of its bits
pub byte-bits : (v : ℕ) → v < 256 → byte_where (λ n. is_bit n v) ≡ v
byte-bits v lt = eqb-true (byte_where (λ n. is_bit n v)) v (passes (λ x. byte_where (λ n. is_bit n x) == x) 0 256 v refl (omega arith) (omega arith))

-- with bit 2 set or cleared
abbrev pub if_two : ℕ → Bool → Bool → Bool
if_two n a b = cond (n == 2) a b

pub byte-cascade : (v : ℕ) → v < 256 → byte_where (λ n. if_two n true (is_bit n v)) ≡ bit_or (bit_and v (bit_not w8 (2 ^ 2))) (2 ^ 2)
byte-cascade v lt = eqb-true _ _ (passes (λ x. byte_where (λ n. if_two n true (is_bit n x)) == bit_or (bit_and x (bit_not w8 (2 ^ 2))) (2 ^ 2)) 0 256 v refl (omega arith) (omega arith))

pub byte-no_cascade : (v : ℕ) → v < 256 → byte_where (λ n. if_two n false (is_bit n v)) ≡ bit_and v (bit_not w8 (2 ^ 2))
byte-no_cascade v lt = eqb-true _ _ (passes (λ x. byte_where (λ n. if_two n false (is_bit n x)) == bit_and x (bit_not w8 (2 ^ 2))) 0 256 v refl (omega arith) (omega arith))

-- the requests or marks of a controller as a byte
pub byte-master : (m s : ℕ) → m < 256 → byte_where (λ n. has n (lines_of m s)) ≡ m
byte-master m s lt = byte_where-same (λ n. has n (lines_of m s)) (λ n. is_bit n m) (λ n below. has-line m s n (omega arith) ∙ is_line-master m s n below) ∙ byte-bits m lt

pub byte-slave : (m s : ℕ) → s < 256 → byte_where (λ n. has (8 + n) (lines_of m s)) ≡ s
byte-slave m s lt =
    byte_where-same (λ n. has (8 + n) (lines_of m s)) (λ n. is_bit n s) (λ n below.
    let place : 8 + n - 8 ≡ n = omega arith in
    has-line m s (8 + n) (omega arith) ∙ is_line-slave m s (8 + n) (omega arith) ∙ rw place refl
    ) ∙ byte-bits s lt

pub byte-irr : (a : Bool) (m s : ℕ) → byte_where (λ n. cond (n == 2) a (has n (lines_of m s))) ≡ byte_where (λ n. if_two n a (is_bit n m))
byte-irr a m s = byte_where-same (λ n. cond (n == 2) a (has n (lines_of m s))) (λ n. if_two n a (is_bit n m)) (λ n below. ap (λ (b : Bool). cond (n == 2) a b) (has-line m s n (omega arith) ∙ is_line-master m s n below))

-- a mark of the line's controller at or below it
pub held-master : (m s n : ℕ) → n < 8 → list_any (λ x. (x / 8 == n / 8) && nat_le x n) (lines_of m s) ≡ list_any (λ k. is_bit k m) (range_with_len 0 (n + 1))
unfolding lines_of
held-master m s n lt = any-filter (λ x. (x / 8 == n / 8) && nat_le x n) (is_line m s) (range_with_len 0 16) ∙ at n lt where
  at : (n : ℕ) → n < 8 → list_any (λ x. ((x / 8 == n / 8) && nat_le x n) && is_line m s x) (range_with_len 0 16) ≡ list_any (λ k. is_bit k m) (range_with_len 0 (n + 1))
  at zero lt = refl
  at (suc zero) lt = refl
  at (suc (suc zero)) lt = refl
  at (suc (suc (suc zero))) lt = refl
  at (suc (suc (suc (suc zero)))) lt = refl
  at (suc (suc (suc (suc (suc zero))))) lt = refl
  at (suc (suc (suc (suc (suc (suc zero)))))) lt = refl
  at (suc (suc (suc (suc (suc (suc (suc zero))))))) lt = refl
  at (suc (suc (suc (suc (suc (suc (suc (suc n)))))))) lt = absurd (omega arith)

pub held-slave : (m s n : ℕ) → 8 ≤ n → n < 16 → list_any (λ x. (x / 8 == n / 8) && nat_le x n) (lines_of m s) ≡ list_any (λ k. is_bit k s) (range_with_len 0 (n - 8 + 1))
unfolding lines_of
held-slave m s n low lt =
    let same : 8 + (n - 8) ≡ n = omega arith in
    any-filter (λ x. (x / 8 == n / 8) && nat_le x n) (is_line m s) (range_with_len 0 16) ∙ subst (λ (k : ℕ). list_any (λ x. ((x / 8 == k / 8) && nat_le x k) && is_line m s x) (range_with_len 0 16) ≡ list_any (λ k. is_bit k s) (range_with_len 0 (n - 8 + 1))) same (at (n - 8) (omega arith)) where
      at : (n : ℕ) → n < 8 → list_any (λ x. ((x / 8 == (8 + n) / 8) && nat_le x (8 + n)) && is_line m s x) (range_with_len 0 16) ≡ list_any (λ k. is_bit k s) (range_with_len 0 (n + 1))
      at zero lt = refl
      at (suc zero) lt = refl
      at (suc (suc zero)) lt = refl
      at (suc (suc (suc zero))) lt = refl
      at (suc (suc (suc (suc zero)))) lt = refl
      at (suc (suc (suc (suc (suc zero))))) lt = refl
      at (suc (suc (suc (suc (suc (suc zero)))))) lt = refl
      at (suc (suc (suc (suc (suc (suc (suc zero))))))) lt = refl
      at (suc (suc (suc (suc (suc (suc (suc (suc n)))))))) lt = absurd (omega arith)
