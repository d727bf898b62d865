-- The number of members is the number of ones in all words.
use Rattle.std.proofs.Common.{◌≡◌, ◌==◌, ℕ, zero, suc, ◌+◌, ◌*◌, ◌%◌, ◌^◌, ◌<◌, ◌≤◌, Bool, true, false, cond, List, [], ◌∷◌, length, get_or, refl, ap, ◌∙◌, arith, filter, mod-eq_of_lt}
use Rattle.std.proofs.Math.Nat.{add_comm}
use Rattle.std.specs.Int.{bit_at}
use Rattle.std.specs.List.{range_with_len}
use lib.Count.{ones, ones_in}
use Rattle.std.proofs.lemmas.Nat.{ones_cat, mod-pow-add, mod_below, pow_pos}
use Rattle.std.proofs.lemmas.Nat.Bits.{bit_at-lt}
use Rattle.mpb_bits.specs.Sets.{is_set, members}
use Rattle.mpb_bits.proofs.WordLemmas.{is_set-at}

-- how many of the first k numbers have their bit set
unfoldable pub count_before : List ℕ → ℕ → ℕ
count_before words k = length (filter (is_set words) (range_with_len 0 k))

length-filter_more : (p : ℕ → Bool) (m k : ℕ) → length (filter p (range_with_len m (suc k))) ≡ length (filter p (range_with_len m k)) + cond (p (m + k)) 1 0
length-filter_more p m zero = rw (mplus m) (elim (p m) as (λ b. length (cond b (m ∷ []) []) ≡ 0 + cond b 1 0) [ true ↦ refl | false ↦ refl ]) where
  mplus : (m : ℕ) → m + 0 ≡ m
  mplus m = omega arith
length-filter_more p m (suc k) =
    let h = length-filter_more p (m + 1) k in
    let e : m + 1 + k ≡ m + suc k = omega arith in
    go (p m) (rw e at h) where
      go : (b : Bool) → length (filter p (range_with_len (m + 1) (suc k))) ≡ length (filter p (range_with_len (m + 1) k)) + cond (p (m + suc k)) 1 0 → length (cond b (m ∷ filter p (range_with_len (m + 1) (suc k))) (filter p (range_with_len (m + 1) (suc k)))) ≡ length (cond b (m ∷ filter p (range_with_len (m + 1) k)) (filter p (range_with_len (m + 1) k))) + cond (p (m + suc k)) 1 0
      go true h = omega (arith, h)
      go false h = h

count_before-more : (words : List ℕ) (k : ℕ) → count_before words (k + 1) ≡ count_before words k + cond (is_set words k) 1 0
unfolding count_before
count_before-more words k =
    let one : k + 1 ≡ suc k = omega arith in
    let here : 0 + k ≡ k = omega arith in
    rw one (rw here at (length-filter_more (is_set words) 0 k))

ones_bit : (b : ℕ) → b < 2 → ones b ≡ cond (b == 1) 1 0
unfolding ones ones_in
ones_bit zero lt = refl
ones_bit (suc zero) lt = refl
ones_bit (suc (suc b)) lt = absurd (omega arith)

-- the ones of a number's lowest i + 1 bits
ones_more : (w i : ℕ) → ones (w % 2 ^ (i + 1)) ≡ ones (w % 2 ^ i) + cond (bit_at w i == 1) 1 0
ones_more w i =
    let turned : i + 1 ≡ 1 + i = omega arith in
    let split : w % 2 ^ (i + 1) ≡ bit_at w i * 2 ^ i + w % 2 ^ i = ap (λ e. w % 2 ^ e) turned ∙ mod-pow-add w 1 i in
    let parts = ones_cat i (bit_at w i) (w % 2 ^ i) (mod_below w (2 ^ i) (pow_pos i)) in
    let bit = ones_bit (bit_at w i) (bit_at-lt w i) in
    ap (λ n. ones n) split ∙ parts ∙ ap (λ n. n + ones (w % 2 ^ i)) bit ∙ add_comm (cond (bit_at w i == 1) 1 0) (ones (w % 2 ^ i))

no_ones : (w : ℕ) → ones (w % 2 ^ 0) ≡ 0
unfolding ones ones_in
no_ones w = let none : w % 1 ≡ 0 = omega arith in rw none refl

count_in_word : (words : List ℕ) (k i : ℕ) → i ≤ 64 → count_before words (64 * k + i) ≡ count_before words (64 * k) + ones (get_or words k 0 % 2 ^ i)
count_in_word words k zero le =
    let place : 64 * k + 0 ≡ 64 * k = omega arith in
    rw place (omega (arith, no_ones (get_or words k 0)))
count_in_word words k (suc i) le =
    let place : 64 * k + suc i ≡ 64 * k + i + 1 = omega arith in
    let next : suc i ≡ i + 1 = omega arith in
    let before = count_in_word words k i (omega arith) in
    let here = count_before-more words (64 * k + i) ∙ ap (λ b. count_before words (64 * k + i) + cond b 1 0) (is_set-at words k i (omega arith)) in
    let bits = ones_more (get_or words k 0) i in
    rw (place, next) (omega (arith, before, here, bits))

-- one more word: its ones
pub count_before-word : (words : List ℕ) (k : ℕ) → get_or words k 0 < 2 ^ 64 → count_before words (64 * (k + 1)) ≡ count_before words (64 * k) + ones (get_or words k 0)
count_before-word words k fits =
    let place : 64 * (k + 1) ≡ 64 * k + 64 = omega arith in
    let whole : get_or words k 0 % 2 ^ 64 ≡ get_or words k 0 = mod-eq_of_lt fits in
    rw place (count_in_word words k 64 (omega arith) ∙ ap (λ w. count_before words (64 * k) + ones w) whole)

pub count_before-none : (words : List ℕ) → count_before words 0 ≡ 0
unfolding count_before
count_before-none words = refl

pub count_before-all : (words : List ℕ) → count_before words (64 * length words) ≡ length (members words)
unfolding count_before members
count_before-all words = refl

pub count_before-le : (words : List ℕ) (k : ℕ) → count_before words k ≤ k
count_before-le words zero = omega (arith, count_before-none words)
count_before-le words (suc k) =
    let next : suc k ≡ k + 1 = omega arith in
    let most = count_before-le words k in
    let more = count_before-more words k in
    let bit = one_bit (is_set words k) in
    rw next (omega (arith, most, more, bit)) where
      one_bit : (b : Bool) → cond b 1 0 ≤ 1
      one_bit true = omega arith
      one_bit false = omega arith
