-- Digits that are read one by one, in a number that is held at the end of u64.
use Rattle.std.proofs.Common.{◌≡◌, ◌≢◌, ◌==◌, ℕ, ◌+◌, ◌*◌, ◌<◌, ◌≤◌, min, Bool, true, false, cond, ◌&&◌, List, [], ◌∷◌, length, drop, get_or, Option, Some, None, option_map, map, Result, Ok, Err, nat_le, refl, sym, ap, ◌∙◌, arith, inl, inr}
use Rattle.std.proofs.Math.Nat.{mul-le-mul_left}
use Rattle.std.proofs.lemmas.Bool.{cases_lt, false≢true, lt-ltb, le-ltb, le-leb, lt-leb, ne_eqb}
use Rattle.std.proofs.lemmas.List.{at_drop_more, at_drop_all, length-map}
use Rattle.std.specs.List.{list_all}
use Rattle.std.specs.Char.{is_digit, digit_value}
use Rattle.std.specs.Str.Parse.{digits_value_after}
use Rattle.mpb_words.specs.declared.refusal.WordWhy.{WordWhy}
use Rattle.mpb_words.specs.declared.refusal.WordWhy.TheVariants as why
use Rattle.mpb_words.specs.Numbers.{digits_number, judged, number_of, numbers_of}
use Rattle.mpb_words.specs.Steps.{held, number_up_to, both}

-- the number that these digits write after n
abbrev pub digits_after : ℕ → ℕ → List ℕ → Option ℕ
digits_after radix n ds = cond (list_all (λ c. is_digit c radix) ds) (Some (digits_value_after radix n ds)) None

held_step : (n m r d : ℕ) → 1 ≤ r → held n ≡ held m → held (n * r + d) ≡ held (m * r + d)
held_step n m r d some same = elim (cases_lt n 18446744073709551615) [
  | inl low ↦ let e : n ≡ m = omega arith in ap (λ x. held (x * r + d)) e
  | inr high ↦
      let a : n * 1 ≤ n * r = mul-le-mul_left n some in
      let b : m * 1 ≤ m * r = mul-le-mul_left m some in
      omega arith
]

held_after : (r : ℕ) (ds : List ℕ) (n m : ℕ) → 1 ≤ r → held n ≡ held m → held (digits_value_after r n ds) ≡ held (digits_value_after r m ds)
held_after r [] n m some same = same
held_after r (d ∷ ds) n m some same = held_after r ds (n * r + digit_value d) (m * r + digit_value d) some (held_step n m r (digit_value d) some same)

some_held : (b : Bool) (n m : ℕ) → held n ≡ held m → option_map held (cond b (Some n) None) ≡ option_map held (cond b (Some m) None)
some_held true n m same = ap Some same
some_held false n m same = refl

first_digit : (b rest : Bool) (n m : ℕ) → b ≡ true → held n ≡ held m → option_map held (cond (b && rest) (Some n) None) ≡ option_map held (cond rest (Some m) None)
first_digit true rest n m is same = some_held rest n m same
first_digit false rest n m is same = absurd (false≢true is)

no_digit : (b rest : Bool) (n : ℕ) → b ≡ false → option_map held (cond (b && rest) (Some n) None) ≡ None
no_digit true rest n is = absurd (false≢true (sym is))
no_digit false rest n is = refl

held_sum : (x d e m : ℕ) → e ≡ d → m ≡ min (min x 18446744073709551615 + e) 18446744073709551615 → held (x + d) ≡ held m
held_sum x d e m same new = omega arith

-- one digit, then the rest
pub digits_after-digit : (r n : ℕ) (ds : List ℕ) (i c d m : ℕ) → 1 ≤ r → i < length ds → c ≡ get_or ds i 0 → digit_value c < r → d ≡ digit_value c → m ≡ min (min (n * r) 18446744073709551615 + d) 18446744073709551615
    → option_map held (digits_after r n (drop i ds)) ≡ option_map held (digits_after r m (drop (i + 1) ds))
digits_after-digit r n ds i c d m some within is good value new =
    at_drop_more (λ xs. option_map held (digits_after r n xs)) ds i 0 within
    ∙ ap (λ x. option_map held (digits_after r n (x ∷ drop (i + 1) ds))) (sym is)
    ∙ first_digit (is_digit c r) (list_all (λ x. is_digit x r) (drop (i + 1) ds)) _ _ (lt-ltb (digit_value c) r good)
    (held_after r (drop (i + 1) ds) (n * r + digit_value c) m some (held_sum (n * r) (digit_value c) d m value new))

-- no digit
pub digits_after-other : (r n : ℕ) (ds : List ℕ) (i c : ℕ) → i < length ds → c ≡ get_or ds i 0 → r ≤ digit_value c → option_map held (digits_after r n (drop i ds)) ≡ None
digits_after-other r n ds i c within is bad =
    at_drop_more (λ xs. option_map held (digits_after r n xs)) ds i 0 within
    ∙ ap (λ x. option_map held (digits_after r n (x ∷ drop (i + 1) ds))) (sym is)
    ∙ no_digit (is_digit c r) (list_all (λ x. is_digit x r) (drop (i + 1) ds)) _ (le-ltb (digit_value c) r bad)

-- all digits were read
pub digits_after-end : (r n : ℕ) (ds : List ℕ) (i : ℕ) → length ds ≤ i → n ≤ 18446744073709551615 → option_map held (digits_after r n (drop i ds)) ≡ Some n
digits_after-end r n ds i over small =
    let same : held n ≡ n = omega arith in
    at_drop_all (λ xs. option_map held (digits_after r n xs)) ds i over ∙ ap Some same

pub digits_after-start : (r : ℕ) (ds : List ℕ) → 0 < length ds → digits_after r 0 ds ≡ digits_number r ds
digits_after-start r [] some = absurd (omega arith)
digits_after-start r (d ∷ ds) some = refl

-- a number that was read is judged by its limit, which is far below the end of u64
pub number_within : (most n : ℕ) (o : Option ℕ) → most < 4294967296 → Some n ≡ option_map held o → n ≤ most → Ok n ≡ number_up_to most o
number_within most n None small is le = cc
number_within most n (Some m) small is le =
    let read : n ≡ held m = cc in
    let whole : m ≡ n = omega arith in
    rw (whole, le-leb n most le) refl

pub number_above : (most n : ℕ) (o : Option ℕ) → Some n ≡ option_map held o → most < n → Err why.Range ≡ number_up_to most o
number_above most n None is above = cc
number_above most n (Some m) is above =
    let read : n ≡ held m = cc in
    rw (lt-leb m most (omega arith)) refl

pub no_number : (most : ℕ) (o : Option ℕ) → None ≡ option_map held o → Err why.Number ≡ number_up_to most o
no_number most None is = refl
no_number most (Some m) is = cc

-- two numbers and their limits
abbrev judged_two : Bool → Bool → ℕ → ℕ → Result (ℕ × ℕ) WordWhy
judged_two p q x y = cond (p && (q && true)) (Ok (x, y)) (Err why.Range)

abbrev judged_one : Bool → ℕ → Result (ℕ × ℕ) WordWhy
judged_one p x = cond (p && true) (Ok (x, 0)) (Err why.Range)

two_ranges : (p q : Bool) (x y : ℕ) → both (cond p (Ok x) (Err why.Range)) (cond q (Ok y) (Err why.Range)) ≡ judged_two p q x y
two_ranges true true x y = refl
two_ranges true false x y = refl
two_ranges false true x y = refl
two_ranges false false x y = refl

first_is_none : (q : Bool) (y : ℕ) → both (Err why.Number) (cond q (Ok y) (Err why.Range)) ≡ Err why.Number
first_is_none true y = refl
first_is_none false y = refl

second_is_none : (p : Bool) (x : ℕ) → both (cond p (Ok x) (Err why.Range)) (Err why.Number) ≡ Err why.Number
second_is_none true x = refl
second_is_none false x = refl

pub judged-two : (m l : ℕ) (a b : Option ℕ) → both (number_up_to m a) (number_up_to l b) ≡ judged (m ∷ l ∷ []) (a ∷ b ∷ [])
judged-two m l None None = refl
judged-two m l None (Some y) = first_is_none (nat_le y l) y
judged-two m l (Some x) None = second_is_none (nat_le x m) x
judged-two m l (Some x) (Some y) = two_ranges (nat_le x m) (nat_le y l) x y

one_range : (p : Bool) (x : ℕ) → both (cond p (Ok x) (Err why.Range)) (Ok 0) ≡ judged_one p x
one_range true x = refl
one_range false x = refl

judged-one : (m : ℕ) (a : Option ℕ) → both (number_up_to m a) (Ok 0) ≡ judged (m ∷ []) (a ∷ [])
judged-one m None = refl
judged-one m (Some x) = one_range (nat_le x m) x

-- the same of parts
pub one_number_of : (most : ℕ) (part : List ℕ) → both (number_up_to most (number_of part)) (Ok 0) ≡ numbers_of (most ∷ []) (part ∷ [])
one_number_of most part = judged-one most (number_of part)

pub two_numbers_of : (first second : ℕ) (one other : List ℕ) → both (number_up_to first (number_of one)) (number_up_to second (number_of other)) ≡ numbers_of (first ∷ second ∷ []) (one ∷ other ∷ [])
two_numbers_of first second one other = judged-two first second (number_of one) (number_of other)

-- another count of parts than of limits
pub wrong_count : (limits : List ℕ) (parts : List (List ℕ)) → length parts ≢ length limits → numbers_of limits parts ≡ Err why.Count
wrong_count limits parts differ =
    let other : (length (map number_of parts) == length limits) ≡ false = ne_eqb _ _ (λ e. differ (sym (length-map parts number_of) ∙ e)) in
    rw other refl
