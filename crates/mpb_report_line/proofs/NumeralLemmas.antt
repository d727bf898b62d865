-- Decimal numbers are read exactly, where a text that begins with no digit follows them.
use Rattle.std.proofs.Common.{◌≡◌, ◌==◌, ℕ, zero, suc, ◌+◌, ◌-◌, ◌*◌, ◌/◌, ◌%◌, ◌^◌, ◌<◌, ◌≤◌, min, Bool, true, false, cond, List, [], ◌∷◌, ◌++◌, length, Option, Some, None, refl, sym, ap, ◌∙◌, append_assoc, arith}
use Rattle.std.specs.Prelude.{decimal, codes, nat_lt, nat_le, slice_index, IfSome, IfNone, ◌≢◌}
use Rattle.std.proofs.lemmas.Bool.{lt-ltb, le-ltb, eq-eqb, eqb-true}
use Rattle.std.proofs.lemmas.Bool.Decides.{nat_tests}
use Rattle.std.proofs.lemmas.Option.{cond_some}
use Rattle.std.proofs.lemmas.Fmt.{decimal_from_appends, length-decimal-le_succ}
use Rattle.mpt_line.specs.Reading.{◌>>=◌, Gives, text_in}
use Rattle.mpt_line.proofs.Exact.{IsExact, bind_some, some_is, text_again, text_takes}
use Rattle.mpb_report_line.specs.Numerals.{numeral, numeral_with}
use Rattle.mpb_report_line.specs.Reading.{is_decimal_digit, decimal_digit_in, more_digits, numeral_in, held, held_in, up_to_in, number_in, before}
use Rattle.mpb_report_line.specs.Lines.{entry_count_line}
use Rattle.mpb_report_line.specs.Forms.{entry_count_in}

-- a number that is held goes on as one that isn't
held_step : (n m d : ℕ) → min n 18446744073709551615 ≡ min m 18446744073709551615 → min (n * 10 + d) 18446744073709551615 ≡ min (m * 10 + d) 18446744073709551615
held_step n m d e = omega arith

held_is : (xs : List ℕ) (n m : ℕ) → min n 18446744073709551615 ≡ min m 18446744073709551615 → held (more_digits n xs) ≡ held (more_digits m xs)
unfolding more_digits
held_is [] n m e = ap (λ k. (k, [])) e
held_is (c ∷ cs) n m e =
    elim (is_decimal_digit c) as (λ b. held (cond {A = ℕ × List ℕ} b (more_digits (n * 10 + (c - 48)) cs) (n, c ∷ cs)) ≡ held (cond {A = ℕ × List ℕ} b (more_digits (m * 10 + (c - 48)) cs) (m, c ∷ cs)))
    [ true ↦ held_is cs (n * 10 + (c - 48)) (m * 10 + (c - 48)) (held_step n m (c - 48) e) | false ↦ ap (λ k. (k, c ∷ cs)) e ]

-- one more digit, or none
digit_next : (n d : ℕ) (rest after : List ℕ) → decimal_digit_in rest ≡ Some (d, after) → more_digits n rest ≡ more_digits (n * 10 + d) after
unfolding more_digits decimal_digit_in
digit_next n d [] after h = absurd (cc)
digit_next n d (c ∷ cs) after h =
    let k = cond_some (is_decimal_digit c) (c - 48, cs) (d, after) h in
    ap (λ (b : Bool). cond {A = ℕ × List ℕ} b (more_digits (n * 10 + (c - 48)) cs) (n, c ∷ cs)) k.0 ∙ ap (λ (x : ℕ × List ℕ). more_digits (n * 10 + x.0) x.1) k.1

digit_none : (n : ℕ) (rest : List ℕ) → decimal_digit_in rest ≡ None → more_digits n rest ≡ (n, rest)
unfolding more_digits decimal_digit_in
digit_none n [] h = refl
digit_none n (c ∷ cs) h = at (is_decimal_digit c) refl h
  where
    at : (b : Bool) → is_decimal_digit c ≡ b → cond {A = Option (ℕ × List ℕ)} b (Some (c - 48, cs)) None ≡ None → cond {A = ℕ × List ℕ} (is_decimal_digit c) (more_digits (n * 10 + (c - 48)) cs) (n, c ∷ cs) ≡ (n, c ∷ cs)
    at true e k = absurd (cc (k))
    at false e k = ap (λ (b : Bool). cond {A = ℕ × List ℕ} b (more_digits (n * 10 + (c - 48)) cs) (n, c ∷ cs)) e

pub held_more : (n d m : ℕ) (rest after : List ℕ) (whole : ℕ × List ℕ) → m ≡ min (min (n * 10) 18446744073709551615 + d) 18446744073709551615 → decimal_digit_in rest ≡ Some (d, after) → held (more_digits n rest) ≡ whole → held (more_digits m after) ≡ whole
held_more n d m rest after whole e h k = held_is after m (n * 10 + d) (omega arith) ∙ ap held (sym (digit_next n d rest after h)) ∙ k

pub held_end : (n : ℕ) (rest : List ℕ) (whole : ℕ × List ℕ) → n ≤ 18446744073709551615 → decimal_digit_in rest ≡ None → held (more_digits n rest) ≡ whole → (n, rest) ≡ whole
held_end n rest whole low h k = let e : n ≡ min n 18446744073709551615 = omega arith in ap (λ x. (x, rest)) e ∙ ap held (sym (digit_none n rest h)) ∙ k

-- enough digits are enough
fuel : (k j n : ℕ) → n < k → n < j → numeral_with k n ≡ numeral_with j n
unfolding numeral_with
fuel zero j n h l = absurd (omega arith)
fuel (suc k) zero n h l = absurd (omega arith)
fuel (suc k) (suc j) n h l = at (nat_lt n 10) refl (λ low less. fuel k j (n / 10) low less)
  where
    at : (b : Bool) → nat_lt n 10 ≡ b → (n / 10 < k → n / 10 < j → numeral_with k (n / 10) ≡ numeral_with j (n / 10)) → cond (nat_lt n 10) ((48 + n) ∷ []) (numeral_with k (n / 10) ++ (48 + n % 10) ∷ []) ≡ cond (nat_lt n 10) ((48 + n) ∷ []) (numeral_with j (n / 10) ++ (48 + n % 10) ∷ [])
    at true e more = ap (λ (b : Bool). cond b ((48 + n) ∷ []) (numeral_with k (n / 10) ++ (48 + n % 10) ∷ [])) e ∙ ap (λ (b : Bool). cond b ((48 + n) ∷ []) (numeral_with j (n / 10) ++ (48 + n % 10) ∷ [])) (sym e)
    at false e more =
        let big : 10 ≤ n = grind (arith, nat_tests) in
        let low : n / 10 < k = omega arith in
        let less : n / 10 < j = omega arith in
        ap (λ (x : List ℕ). cond (nat_lt n 10) ((48 + n) ∷ []) (x ++ (48 + n % 10) ∷ [])) (more low less)

-- a digit behind a number
numeral_more : (m d : ℕ) → 1 ≤ m → 48 ≤ d → d < 58 → numeral (m * 10 + (d - 48)) ≡ numeral m ++ d ∷ []
unfolding numeral numeral_with
numeral_more m d some low high =
    let n : ℕ = m * 10 + (d - 48) in
    let big : 10 ≤ n = omega arith in
    let wide : nat_lt n 10 ≡ false = le-ltb n 10 big in
    let front : n / 10 ≡ m = omega arith in
    let last : 48 + n % 10 ≡ d = omega arith in
    let less : m < n = omega arith in
    ap (λ (b : Bool). cond b ((48 + n) ∷ []) (numeral_with n (n / 10) ++ (48 + n % 10) ∷ [])) wide
    ∙ (λ i. numeral_with n (front i) ++ last i ∷ [])
    ∙ ap (λ (x : List ℕ). x ++ d ∷ []) (fuel n (suc m) m less (omega arith))

-- what is read stood there
digits_back : (m : ℕ) (cs : List ℕ) → 1 ≤ m → numeral m ++ cs ≡ numeral (more_digits m cs).0 ++ (more_digits m cs).1
unfolding more_digits
digits_back m [] some = refl
digits_back m (d ∷ ds) some = at (is_decimal_digit d) refl (digits_back (m * 10 + (d - 48)) ds (omega arith))
  where
    at : (b : Bool) → is_decimal_digit d ≡ b → numeral (m * 10 + (d - 48)) ++ ds ≡ numeral (more_digits (m * 10 + (d - 48)) ds).0 ++ (more_digits (m * 10 + (d - 48)) ds).1
        → numeral m ++ d ∷ ds ≡ numeral (cond {A = ℕ × List ℕ} (is_decimal_digit d) (more_digits (m * 10 + (d - 48)) ds) (m, d ∷ ds)).0 ++ (cond {A = ℕ × List ℕ} (is_decimal_digit d) (more_digits (m * 10 + (d - 48)) ds) (m, d ∷ ds)).1
    at true e more =
        let low : 48 ≤ d = grind (arith, nat_tests) in
        let high : d < 58 = grind (arith, nat_tests) in
        sym (append_assoc (numeral m) (d ∷ []) ds)
        ∙ ap (λ (x : List ℕ). x ++ ds) (sym (numeral_more m d some low high))
        ∙ more
        ∙ ap (λ (b : Bool). numeral (cond {A = ℕ × List ℕ} b (more_digits (m * 10 + (d - 48)) ds) (m, d ∷ ds)).0 ++ (cond {A = ℕ × List ℕ} b (more_digits (m * 10 + (d - 48)) ds) (m, d ∷ ds)).1) (sym e)
    at false e more = ap (λ (b : Bool). numeral (cond {A = ℕ × List ℕ} b (more_digits (m * 10 + (d - 48)) ds) (m, d ∷ ds)).0 ++ (cond {A = ℕ × List ℕ} b (more_digits (m * 10 + (d - 48)) ds) (m, d ∷ ds)).1) (sym e)

zero_is : numeral 0 ≡ 48 ∷ []
unfolding numeral numeral_with
zero_is = refl

one_is : (c : ℕ) → 48 ≤ c → c < 58 → numeral (c - 48) ≡ c ∷ []
unfolding numeral numeral_with
one_is c low high =
    let small : nat_lt (c - 48) 10 ≡ true = lt-ltb (c - 48) 10 (omega arith) in
    let same : 48 + (c - 48) ≡ c = omega arith in
    ap (λ (b : Bool). cond b ((48 + (c - 48)) ∷ []) (numeral_with (c - 48) ((c - 48) / 10) ++ (48 + (c - 48) % 10) ∷ [])) small ∙ ap (λ x. x ∷ []) same

pub numeral_takes : (line : List ℕ) (n : ℕ) (rest : List ℕ) → numeral_in line ≡ Some (n, rest) → line ≡ numeral n ++ rest
unfolding numeral_in
numeral_takes [] n rest h = absurd (cc)
numeral_takes (c ∷ cs) n rest h = at (c == 48) refl h
  where
    at : (b : Bool) → (c == 48) ≡ b → cond b (Some (0, cs)) (cond (is_decimal_digit c) (Some (more_digits (c - 48) cs)) None) ≡ Some (n, rest) → c ∷ cs ≡ numeral n ++ rest
    at true e k =
        let is : (0, cs) ≡ (n, rest) = some_is (0, cs) (n, rest) k in
        let first : c ≡ 48 = eqb-true c 48 e in
        ap (λ x. x ∷ cs) first ∙ ap (λ (x : List ℕ). x ++ cs) (sym zero_is) ∙ (λ i. numeral (is i).0 ++ (is i).1)
    at false e k =
        let m = cond_some (is_decimal_digit c) (more_digits (c - 48) cs) (n, rest) k in
        let low : 48 ≤ c = grind (arith, nat_tests, m.0) in
        let high : c < 58 = grind (arith, nat_tests, m.0) in
        let some : 1 ≤ c - 48 = grind (arith, nat_tests) in
        ap (λ (x : List ℕ). x ++ cs) (sym (one_is c low high)) ∙ digits_back (c - 48) cs some ∙ (λ i. numeral (m.1 i).0 ++ (m.1 i).1)

-- what is written is read again
one_again : (n : ℕ) (xs : List ℕ) → 1 ≤ n → n < 10 → numeral_in ((48 + n) ∷ xs) ≡ Some (more_digits n xs)
unfolding numeral_in
one_again n xs some less =
    let other : ((48 + n) == 48) ≡ false = grind (arith, nat_tests) in
    let digit : is_decimal_digit (48 + n) ≡ true = grind (arith, nat_tests) in
    let same : 48 + n - 48 ≡ n = omega arith in
    ap (λ (b : Bool). cond b (Some (0, xs)) (cond (is_decimal_digit (48 + n)) (Some (more_digits (48 + n - 48) xs)) None)) other
    ∙ ap (λ (b : Bool). cond b (Some (more_digits (48 + n - 48) xs)) None) digit
    ∙ ap (λ x. Some (more_digits x xs)) same

next_again : (m d : ℕ) (xs : List ℕ) → d < 10 → more_digits m ((48 + d) ∷ xs) ≡ more_digits (m * 10 + d) xs
unfolding more_digits
next_again m d xs less =
    let digit : is_decimal_digit (48 + d) ≡ true = grind (arith, nat_tests) in
    let same : m * 10 + (48 + d - 48) ≡ m * 10 + d = omega arith in
    ap (λ (b : Bool). cond {A = ℕ × List ℕ} b (more_digits (m * 10 + (48 + d - 48)) xs) (m, (48 + d) ∷ xs)) digit ∙ ap (λ x. more_digits x xs) same

front_again : (k n : ℕ) (xs : List ℕ) → 1 ≤ n → n < k → numeral_in (numeral_with k n ++ xs) ≡ Some (more_digits n xs)
unfolding numeral_with
front_again zero n xs some h = absurd (omega arith)
front_again (suc k) n xs some h = at (nat_lt n 10) refl (λ one less. front_again k (n / 10) ((48 + n % 10) ∷ xs) one less)
  where
    at : (b : Bool) → nat_lt n 10 ≡ b → (1 ≤ n / 10 → n / 10 < k → numeral_in (numeral_with k (n / 10) ++ (48 + n % 10) ∷ xs) ≡ Some (more_digits (n / 10) ((48 + n % 10) ∷ xs)))
        → numeral_in (cond (nat_lt n 10) ((48 + n) ∷ []) (numeral_with k (n / 10) ++ (48 + n % 10) ∷ []) ++ xs) ≡ Some (more_digits n xs)
    at true e more =
        let less : n < 10 = grind (arith, nat_tests) in
        ap (λ (b : Bool). numeral_in (cond b ((48 + n) ∷ []) (numeral_with k (n / 10) ++ (48 + n % 10) ∷ []) ++ xs)) e ∙ one_again n xs some less
    at false e more =
        let big : 10 ≤ n = grind (arith, nat_tests) in
        let same : n / 10 * 10 + n % 10 ≡ n = omega arith in
        ap (λ (b : Bool). numeral_in (cond b ((48 + n) ∷ []) (numeral_with k (n / 10) ++ (48 + n % 10) ∷ []) ++ xs)) e
        ∙ ap numeral_in (append_assoc (numeral_with k (n / 10)) ((48 + n % 10) ∷ []) xs)
        ∙ more (omega arith) (omega arith)
        ∙ ap (λ x. Some x) (next_again (n / 10) (n % 10) xs (omega arith))
        ∙ ap (λ x. Some (more_digits x xs)) same

-- a text that begins with no digit
abbrev pub BeginsWithNoDigit : List ℕ → Type 0
BeginsWithNoDigit stop = (0 < length stop) × (is_decimal_digit (slice_index stop 0) ≡ false)

stops : (n : ℕ) (stop rest : List ℕ) → BeginsWithNoDigit stop → more_digits n (stop ++ rest) ≡ (n, stop ++ rest)
unfolding more_digits
stops n [] rest h = absurd (omega (arith, h.0))
stops n (s ∷ ss) rest h = ap (λ (b : Bool). cond {A = ℕ × List ℕ} b (more_digits (n * 10 + (s - 48)) (ss ++ rest)) (n, s ∷ ss ++ rest)) h.1

pub numeral_again : (n : ℕ) (stop rest : List ℕ) → BeginsWithNoDigit stop → numeral_in (numeral n ++ (stop ++ rest)) ≡ Some (n, stop ++ rest)
unfolding numeral numeral_in
numeral_again zero stop rest h = ap (λ (x : List ℕ). numeral_in (x ++ (stop ++ rest))) zero_is
numeral_again (suc n) stop rest h = front_again (suc (suc n)) (suc n) (stop ++ rest) (omega arith) (omega arith) ∙ ap (λ x. Some x) (stops (suc n) stop rest h)

-- the printed digits are these
pub decimal_is : (n : ℕ) → n < 2 ^ 64 → decimal n ≡ numeral n
unfolding numeral numeral_with
decimal_is n h =
    let short : length (decimal n) ≤ suc n = omega (arith, length-decimal-le_succ n h) in
    sym (decimal_from_appends numeral_with (record {
      one = λ k m l. ap (λ (b : Bool). cond b ((48 + m) ∷ []) (numeral_with k (m / 10) ++ (48 + m % 10) ∷ [])) (lt-ltb m 10 l);
      more = λ k m l. ap (λ (b : Bool). cond b ((48 + m) ∷ []) (numeral_with k (m / 10) ++ (48 + m % 10) ∷ [])) (le-ltb m 10 l);
    }) (suc n) n h short)

-- a number up to a greatest one
module _ (most : ℕ) (stop : List ℕ) (free : BeginsWithNoDigit stop) where
  pub up_to-exact : IsExact (λ n. numeral n ++ stop) (λ n. n ≤ most) (up_to_in most stop)
  unfolding up_to_in
  up_to-exact = record {
    again = λ n rest v.
        ap (λ l. numeral_in l >>= λ x. text_in stop x.1 >>= λ rest. cond {A = Option (ℕ × List ℕ)} (nat_le x.0 most) (Some (x.0, rest)) None) (append_assoc (numeral n) stop rest)
        ∙ ap (λ o. o >>= λ x. text_in stop x.1 >>= λ rest. cond {A = Option (ℕ × List ℕ)} (nat_le x.0 most) (Some (x.0, rest)) None) (numeral_again n stop rest free)
        ∙ ap (λ o. o >>= λ rest. cond {A = Option (ℕ × List ℕ)} (nat_le n most) (Some (n, rest)) None) (text_again stop rest)
        ∙ within n rest v;
    takes = λ line n rest h.
        let k = bind_some (numeral_in line) (λ x. text_in stop x.1 >>= λ rest. cond {A = Option (ℕ × List ℕ)} (nat_le x.0 most) (Some (x.0, rest)) None) (n, rest) h in
        let m = bind_some (text_in stop k.0.1) (λ rest. cond {A = Option (ℕ × List ℕ)} (nat_le k.0.0 most) (Some (k.0.0, rest)) None) (n, rest) k.2 in
        let c = cond_some (nat_le k.0.0 most) (k.0.0, m.0) (n, rest) m.2 in
        let value : k.0.0 ≡ n = ap (λ x. x.0) c.1 in
        let end : m.0 ≡ rest = ap (λ x. x.1) c.1 in
        let low : k.0.0 ≤ most = below k.0.0 c.0 in
        (omega (arith, low, value), numeral_takes line k.0.0 k.0.1 k.1 ∙ ap (λ x. numeral k.0.0 ++ x) (text_takes stop k.0.1 m.0 m.1) ∙ (λ i. numeral (value i) ++ (stop ++ end i)) ∙ sym (append_assoc (numeral n) stop rest));
  }
    where
      within : (n : ℕ) (rest : List ℕ) → n ≤ most → cond {A = Option (ℕ × List ℕ)} (nat_le n most) (Some (n, rest)) None ≡ Some (n, rest)
      within n rest v = let t : nat_le n most ≡ true = grind (arith, nat_tests) in ap (λ (b : Bool). cond {A = Option (ℕ × List ℕ)} b (Some (n, rest)) None) t

      below : (n : ℕ) → nat_le n most ≡ true → n ≤ most
      below n h = grind (arith, nat_tests)

-- what follows a number is what follows its text
pub number_is : (k : ℕ) (stop line : List ℕ) → k < 2 ^ 64 → BeginsWithNoDigit stop → number_in k stop line ≡ text_in (decimal k ++ stop) line
unfolding number_in
number_is k stop line small free = at (text_in (decimal k ++ stop) line) refl
  where
    is : decimal k ≡ numeral k
    is = decimal_is k small

    at : (o : Option (List ℕ)) → text_in (decimal k ++ stop) line ≡ o → number_in k stop line ≡ o
    at (Some rest) e =
        let whole : line ≡ (numeral k ++ stop) ++ rest = text_takes (decimal k ++ stop) line rest e ∙ ap (λ (x : List ℕ). (x ++ stop) ++ rest) is in
        let read : up_to_in k stop line ≡ Some (k, rest) = ap (up_to_in k stop) whole ∙ (up_to-exact k stop free).again k rest (omega arith) in
        ap (λ o. o >>= λ x. cond (x.0 == k) (Some x.1) None) read ∙ ap (λ (b : Bool). cond b (Some rest) None) (eq-eqb k k refl)
    at None e = none (number_in k stop line) refl
      where
        none : (o : Option (List ℕ)) → number_in k stop line ≡ o → number_in k stop line ≡ None
        none None h = h
        none (Some rest) h =
            let b = bind_some (up_to_in k stop line) (λ x. cond (x.0 == k) (Some x.1) None) rest h in
            let c = cond_some (b.0.0 == k) b.0.1 rest b.2 in
            let same : b.0.0 ≡ k = eqb-true b.0.0 k c.0 in
            let whole : line ≡ (numeral b.0.0 ++ stop) ++ b.0.1 = ((up_to-exact k stop free).takes line b.0.0 b.0.1 b.1).1 in
            let text : line ≡ (decimal k ++ stop) ++ b.0.1 = whole ∙ ap (λ (n : ℕ). (numeral n ++ stop) ++ b.0.1) same ∙ ap (λ (x : List ℕ). (x ++ stop) ++ b.0.1) (sym is) in
            let some : None ≡ Some b.0.1 = sym e ∙ ap (text_in (decimal k ++ stop)) text ∙ text_again (decimal k ++ stop) b.0.1 in
            absurd (cc (some))

pub digit_shorter : (rest after : List ℕ) (d : ℕ) → decimal_digit_in rest ≡ Some (d, after) → length after < length rest
unfolding decimal_digit_in
digit_shorter [] after d h = absurd (cc)
digit_shorter (c ∷ cs) after d h =
    let k = cond_some (is_decimal_digit c) (c - 48, cs) (d, after) h in
    let same : cs ≡ after = ap (λ x. x.1) k.1 in
    omega (arith, ap length same)

-- a number that is read held
pub held_some : (line : List ℕ) (v : ℕ) (r : List ℕ) → held_in line ≡ Some (v, r) → (n : ℕ) × (numeral_in line ≡ Some (n, r)) × (v ≡ min n 18446744073709551615)
held_some line v r h =
    let k = bind_some (numeral_in line) (λ x. Some (held x)) (v, r) h in
    let both_is : (min k.0.0 18446744073709551615, k.0.1) ≡ (v, r) = some_is (min k.0.0 18446744073709551615, k.0.1) (v, r) k.2 in
    (k.0.0, k.1 ∙ ap (λ (x : List ℕ). Some (k.0.0, x)) (ap (λ x. x.1) both_is), sym (ap (λ x. x.0) both_is))

held_none : (line : List ℕ) → held_in line ≡ None → numeral_in line ≡ None
held_none line h = at (numeral_in line) refl h
  where
    at : (o : Option (ℕ × List ℕ)) → numeral_in line ≡ o → (o >>= λ x. Some (held x)) ≡ None → numeral_in line ≡ None
    at None e k = e
    at (Some x) e k = absurd (cc (k))

-- the reading of a number up to a greatest one, by what was read of it held
module _ (most : ℕ) (stop line : List ℕ) where
  pub up_to_none : held_in line ≡ None → up_to_in most stop line ≡ None
  unfolding up_to_in
  up_to_none h = ap (λ o. o >>= λ x. text_in stop x.1 >>= λ rest. cond {A = Option (ℕ × List ℕ)} (nat_le x.0 most) (Some (x.0, rest)) None) (held_none line h)

  pub up_to_cut : (v : ℕ) (r : List ℕ) → held_in line ≡ Some (v, r) → text_in stop r ≡ None → up_to_in most stop line ≡ None
  unfolding up_to_in
  up_to_cut v r h k =
      let m = held_some line v r h in
      ap (λ o. o >>= λ x. text_in stop x.1 >>= λ rest. cond {A = Option (ℕ × List ℕ)} (nat_le x.0 most) (Some (x.0, rest)) None) m.1
      ∙ ap (λ o. o >>= λ rest. cond {A = Option (ℕ × List ℕ)} (nat_le m.0 most) (Some (m.0, rest)) None) k

  pub up_to_some : (v : ℕ) (r rest : List ℕ) → held_in line ≡ Some (v, r) → text_in stop r ≡ Some rest → most < 18446744073709551615 → v ≤ most → up_to_in most stop line ≡ Some (v, rest)
  unfolding up_to_in
  up_to_some v r rest h k small low =
      let m = held_some line v r h in
      let value : m.0 ≡ v = omega (arith, m.2) in
      let within : nat_le m.0 most ≡ true = grind (arith, nat_tests) in
      ap (λ o. o >>= λ x. text_in stop x.1 >>= λ rest. cond {A = Option (ℕ × List ℕ)} (nat_le x.0 most) (Some (x.0, rest)) None) m.1
      ∙ ap (λ o. o >>= λ rest. cond {A = Option (ℕ × List ℕ)} (nat_le m.0 most) (Some (m.0, rest)) None) k
      ∙ ap (λ (b : Bool). cond {A = Option (ℕ × List ℕ)} b (Some (m.0, rest)) None) within
      ∙ ap (λ x. Some (x, rest)) value

  pub up_to_more : (v : ℕ) (r rest : List ℕ) → held_in line ≡ Some (v, r) → text_in stop r ≡ Some rest → most < 18446744073709551615 → most < v → up_to_in most stop line ≡ None
  unfolding up_to_in
  up_to_more v r rest h k small high =
      let m = held_some line v r h in
      let past : most < m.0 = omega (arith, m.2) in
      let without : nat_le m.0 most ≡ false = grind (arith, nat_tests) in
      ap (λ o. o >>= λ x. text_in stop x.1 >>= λ rest. cond {A = Option (ℕ × List ℕ)} (nat_le x.0 most) (Some (x.0, rest)) None) m.1
      ∙ ap (λ o. o >>= λ rest. cond {A = Option (ℕ × List ℕ)} (nat_le m.0 most) (Some (m.0, rest)) None) k
      ∙ ap (λ (b : Bool). cond {A = Option (ℕ × List ℕ)} b (Some (m.0, rest)) None) without

-- the line that says how many entries there are
pub count_some : (text : List ℕ) (v : ℕ) (rest : List ℕ) → entry_count_in text ≡ Some (v, rest) → (n : ℕ) × (v ≡ min n 18446744073709551615) × (text ≡ entry_count_line n ++ rest)
unfolding entry_count_in
count_some text v rest h =
    let a = bind_some (text_in (codes "entries ") text) (before held_in (10 ∷ [])) (v, rest) h in
    let b = bind_some (held_in a.0) (λ x. text_in (10 ∷ []) x.1 >>= λ rest. Some (x.0, rest)) (v, rest) a.2 in
    let d = bind_some (text_in (10 ∷ []) b.0.1) (λ rest. Some (b.0.0, rest)) (v, rest) b.2 in
    let both_is : (b.0.0, d.0) ≡ (v, rest) = some_is (b.0.0, d.0) (v, rest) d.2 in
    let m = held_some a.0 b.0.0 b.0.1 b.1 in
    let end : b.0.1 ≡ 10 ∷ rest = text_takes (10 ∷ []) b.0.1 d.0 d.1 ∙ ap (λ x. 10 ∷ x.1) both_is in (
      m.0,
      sym (ap (λ x. x.0) both_is) ∙ m.2,
      text_takes (codes "entries ") text a.0 a.1 ∙ ap (λ (x : List ℕ). codes "entries " ++ x) (numeral_takes a.0 m.0 b.0.1 m.1 ∙ ap (λ (x : List ℕ). numeral m.0 ++ x) end ∙ sym (append_assoc (numeral m.0) (10 ∷ []) rest)),
    )

-- a number and the line feed behind it
abbrev pair_of : ℕ → List ℕ → Option (ℕ × List ℕ)
pair_of n rest = Some (n, rest)

abbrev ended_with : Option (ℕ × List ℕ) → Option (ℕ × List ℕ)
ended_with o = o >>= λ x. text_in (10 ∷ []) x.1 >>= λ rest. pair_of x.0 rest

pub count_none : (text : List ℕ) → entry_count_in text ≡ None → (n : ℕ) (rest : List ℕ) → text ≡ entry_count_line n ++ rest → ⊥
unfolding entry_count_in
count_none text h n rest e =
    let whole : text ≡ codes "entries " ++ (numeral n ++ 10 ∷ rest) = e ∙ ap (λ (x : List ℕ). codes "entries " ++ x) (append_assoc (numeral n) (10 ∷ []) rest) in
    let free : BeginsWithNoDigit (10 ∷ []) = (omega arith, refl) in
    let read : entry_count_in text ≡ Some (min n 18446744073709551615, rest) =
    ap (λ l. text_in (codes "entries ") l >>= before held_in (10 ∷ [])) whole
    ∙ ap (λ o. o >>= before held_in (10 ∷ [])) (text_again (codes "entries ") (numeral n ++ 10 ∷ rest))
    ∙ ap (λ (o : Option (ℕ × List ℕ)). ended_with (o >>= λ x. Some (held x))) (numeral_again n (10 ∷ []) rest free)
    ∙ ap (λ (o : Option (List ℕ)). o >>= λ rest. pair_of (min n 18446744073709551615) rest) (text_again (10 ∷ []) rest) in
    let both_ways : None ≡ Some (min n 18446744073709551615, rest) = sym h ∙ read in
    absurd (cc (both_ways))

-- what a function returned that gives what reading gives
pub gives_along : {X Y : Type 0} (view : X → Y) (o : Option X) {a b : Option Y} → a ≡ b → Gives view o a → Gives view o b
gives_along {X} {Y} view None {a} {b} e h = sym e ∙ h
gives_along {X} {Y} view (Some x) {a} {b} e h = sym e ∙ h

pub count_some_of : {X : Type 0} (view : X → ℕ × List ℕ) (text : List ℕ) (o : Option X) → Gives view o (entry_count_in text) → IfSome o (λ x. (n : ℕ) × ((view x).0 ≡ min n 18446744073709551615) × (text ≡ entry_count_line n ++ (view x).1))
count_some_of {X} view text None h = tt
count_some_of {X} view text (Some x) h = count_some text (view x).0 (view x).1 h

pub count_none_of : {X : Type 0} (view : X → ℕ × List ℕ) (text : List ℕ) (o : Option X) → Gives view o (entry_count_in text) → IfNone o ((n : ℕ) (rest : List ℕ) → text ≢ entry_count_line n ++ rest)
count_none_of {X} view text None h = count_none text h
count_none_of {X} view text (Some x) h = tt
