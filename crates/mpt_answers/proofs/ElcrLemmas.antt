-- A word of four digits is read as their number.
use Rattle.std.proofs.Common.{◌≡◌, ℕ, ◌+◌, ◌*◌, ◌-◌, ◌/◌, ◌%◌, ◌^◌, ◌<◌, Bool, true, false, cond, ◌&&◌, List, [], ◌∷◌, map, sym, refl, ap, subst, ◌∙◌, arith}
use Rattle.std.specs.Prelude.{Option, Some, None, nat_le, ◌↔◌}
use Rattle.std.proofs.lemmas.Bool.Decides.{nat_tests}
use Rattle.mpt_listing.specs.Listing.{hex, hex_digit}
use Rattle.mpt_answers.specs.Elcr.{digit_of, joined, elcr_of, upper_of, IsElcrWord}

-- a digit's value, and the digit of a value
digit_below : (b v : ℕ) → digit_of b ≡ Some v → v < 16
digit_below b v h = go (nat_le 48 b && nat_le b 57) (nat_le 65 b && nat_le b 70) (nat_le 97 b && nat_le b 102) (λ q. grind (arith, nat_tests)) (λ q. grind (arith, nat_tests)) (λ q. grind (arith, nat_tests)) h
  where
    go : (p q r : Bool) → (p ≡ true → b - 48 < 16) → (q ≡ true → b - 55 < 16) → (r ≡ true → b - 87 < 16)
        → cond p (Some (b - 48)) (cond q (Some (b - 55)) (cond r (Some (b - 87)) None)) ≡ Some v → v < 16
    go true q r x y z k = let e : b - 48 ≡ v = cc in subst (λ (n : ℕ). n < 16) e (x refl)
    go false true r x y z k = let e : b - 55 ≡ v = cc in subst (λ (n : ℕ). n < 16) e (y refl)
    go false false true x y z k = let e : b - 87 ≡ v = cc in subst (λ (n : ℕ). n < 16) e (z refl)
    go false false false x y z k = absurd (cc)

digit_upper : (b v : ℕ) → digit_of b ≡ Some v → upper_of b ≡ hex_digit v
digit_upper b v h = grind (arith, nat_tests)

upper_digit : (b v : ℕ) → v < 16 → upper_of b ≡ hex_digit v → digit_of b ≡ Some v
upper_digit b v l h = grind (arith, nat_tests)

-- four digits
four : (n : ℕ) → hex 4 n ≡ hex_digit (n / 16 / 16 / 16 % 16) ∷ hex_digit (n / 16 / 16 % 16) ∷ hex_digit (n / 16 % 16) ∷ hex_digit (n % 16) ∷ []
unfolding hex
four n = refl

-- what four digits join to
some_joined : (a b c d : Option ℕ) (n : ℕ) → joined a b c d ≡ Some n
    → (w : ℕ) × (x : ℕ) × (y : ℕ) × (z : ℕ) × (a ≡ Some w) × (b ≡ Some x) × (c ≡ Some y) × (d ≡ Some z) × (4096 * w + 256 * x + 16 * y + z ≡ n)
some_joined (Some w) (Some x) (Some y) (Some z) n h = (w, x, y, z, refl, refl, refl, refl, cc)
some_joined None b c d n h = absurd (cc)
some_joined (Some w) None c d n h = absurd (cc)
some_joined (Some w) (Some x) None d n h = absurd (cc)
some_joined (Some w) (Some x) (Some y) None n h = absurd (cc)

-- the digits of a number below 2^16
record AreDigits (n w x y z : ℕ) : Type 0 where
  below : n < 2 ^ 16
  first : n / 16 / 16 / 16 % 16 ≡ w
  second : n / 16 / 16 % 16 ≡ x
  third : n / 16 % 16 ≡ y
  fourth : n % 16 ≡ z

digits_of : (n w x y z : ℕ) → w < 16 → x < 16 → y < 16 → z < 16 → 4096 * w + 256 * x + 16 * y + z ≡ n → AreDigits n w x y z
digits_of n w x y z a b c d e = record { below = omega arith; first = omega arith; second = omega arith; third = omega arith; fourth = omega arith }

number_of : (n : ℕ) → n < 2 ^ 16 → 4096 * (n / 16 / 16 / 16 % 16) + 256 * (n / 16 / 16 % 16) + 16 * (n / 16 % 16) + n % 16 ≡ n
number_of n h = omega arith

read_word : (word : List ℕ) (n : ℕ) → elcr_of word ≡ Some n → IsElcrWord word n
read_word (a ∷ b ∷ c ∷ d ∷ []) n h =
    let s = some_joined (digit_of a) (digit_of b) (digit_of c) (digit_of d) n h in
    let k : AreDigits n s.0 s.1 s.2 s.3 = digits_of n s.0 s.1 s.2 s.3 (digit_below a s.0 s.4) (digit_below b s.1 s.5) (digit_below c s.2 s.6) (digit_below d s.3 s.7) s.8 in
    (k.below, same _ _ _ _ _ _ _ _ (digit_upper a s.0 s.4 ∙ ap hex_digit (sym k.first)) (digit_upper b s.1 s.5 ∙ ap hex_digit (sym k.second)) (digit_upper c s.2 s.6 ∙ ap hex_digit (sym k.third)) (digit_upper d s.3 s.7 ∙ ap hex_digit (sym k.fourth)) ∙ sym (four n))
  where
    same : (a b c d w x y z : ℕ) → a ≡ w → b ≡ x → c ≡ y → d ≡ z → a ∷ b ∷ c ∷ d ∷ [] ≡ w ∷ x ∷ y ∷ z ∷ []
    same a b c d w x y z p q r s = cc
read_word [] n h = absurd (cc)
read_word (a ∷ []) n h = absurd (cc)
read_word (a ∷ b ∷ []) n h = absurd (cc)
read_word (a ∷ b ∷ c ∷ []) n h = absurd (cc)
read_word (a ∷ b ∷ c ∷ d ∷ e ∷ word) n h = absurd (cc)

word_read : (word : List ℕ) (n : ℕ) → IsElcrWord word n → elcr_of word ≡ Some n
word_read word n h = go word (h.1 ∙ four n)
  where
    below : (m : ℕ) → m % 16 < 16
    below m = omega arith

    go : (ws : List ℕ) → map upper_of ws ≡ hex_digit (n / 16 / 16 / 16 % 16) ∷ hex_digit (n / 16 / 16 % 16) ∷ hex_digit (n / 16 % 16) ∷ hex_digit (n % 16) ∷ [] → elcr_of ws ≡ Some n
    go [] e = absurd (cc)
    go (a ∷ []) e = absurd (cc)
    go (a ∷ b ∷ []) e = absurd (cc)
    go (a ∷ b ∷ c ∷ []) e = absurd (cc)
    go (a ∷ b ∷ c ∷ d ∷ []) e =
        let p : digit_of a ≡ Some (n / 16 / 16 / 16 % 16) = upper_digit a _ (below (n / 16 / 16 / 16)) (cc) in
        let q : digit_of b ≡ Some (n / 16 / 16 % 16) = upper_digit b _ (below (n / 16 / 16)) (cc) in
        let r : digit_of c ≡ Some (n / 16 % 16) = upper_digit c _ (below (n / 16)) (cc) in
        let s : digit_of d ≡ Some (n % 16) = upper_digit d _ (below n) (cc) in
        ap (λ (o : Option ℕ). joined o (digit_of b) (digit_of c) (digit_of d)) p
        ∙ ap (λ (o : Option ℕ). joined (Some (n / 16 / 16 / 16 % 16)) o (digit_of c) (digit_of d)) q
        ∙ ap (λ (o : Option ℕ). joined (Some (n / 16 / 16 / 16 % 16)) (Some (n / 16 / 16 % 16)) o (digit_of d)) r
        ∙ ap (λ (o : Option ℕ). joined (Some (n / 16 / 16 / 16 % 16)) (Some (n / 16 / 16 % 16)) (Some (n / 16 % 16)) o) s
        ∙ ap Some (number_of n h.0)
    go (a ∷ b ∷ c ∷ d ∷ f ∷ ws) e = absurd (cc)

pub elcr_is_word : (word : List ℕ) (n : ℕ) → (elcr_of word ≡ Some n) ↔ IsElcrWord word n
elcr_is_word word n = (read_word word n, word_read word n)
