-- The byte of two digits by the crate `hex`, neither of which is a lower case letter, is what a listing reads of them.
use Rattle.std.proofs.Common.{◌≡◌, ℕ, ◌+◌, ◌*◌, true, false, List, [], ◌∷◌, refl, ap, ◌∙◌, arith}
use Rattle.std.specs.Prelude.{Option, Some, None, Result, Ok, Err, MatchResult, slice_index}
use Rattle.std.proofs.lemmas.Bool.Decides.{nat_tests}
use Rattle.hex.specs.Hex.{decode_pairs, decode_sized, hex_digit_value, digit_or_error, value_at, pair_value}
use Rattle.hex.proofs.Pairs.{decode_pairs-ok_pair}
use Rattle.hex.specs.declared.error.FromHexError.TheVariants.{InvalidHexCharacter}
use Rattle.hex.specs.declared.error.FromHexError.{FromHexError}
use Rattle.mpt_line.specs.Reading.{◌>>=◌, digit_of, digit_in, hex_in, byte_of, pair_in, is_lower_case}

-- a digit that is no lower case letter has one value
pub digit_same : (c : ℕ) → is_lower_case c ≡ false → hex_digit_value c ≡ digit_of c
digit_same c h = grind (arith, nat_tests)

-- a lower case letter is no digit
pub digit_lower : (c : ℕ) → is_lower_case c ≡ true → digit_of c ≡ None
digit_lower c h = grind (arith, nat_tests)

-- two digits of which one is a lower case letter are no byte
pub byte_of-lower_high : (high low : ℕ) → is_lower_case high ≡ true → byte_of high low ≡ None
byte_of-lower_high high low h = ap (λ o. o >>= λ x. digit_of low >>= λ l. Some (16 * x + l)) (digit_lower high h)

pub byte_of-lower_low : (high low : ℕ) → is_lower_case low ≡ true → byte_of high low ≡ None
byte_of-lower_low high low h = none (digit_of high) ∙ refl
  where
    none : (o : Option ℕ) → (o >>= λ x. digit_of low >>= λ l. Some (16 * x + l)) ≡ None
    none None = refl
    none (Some x) = ap (λ o. o >>= λ l. Some (16 * x + l)) (digit_lower low h)

-- the byte that `hex` decodes
abbrev pub byte_in : Result (List ℕ) FromHexError → Option ℕ
byte_in (Ok bytes) = Some (slice_index bytes 0)
byte_in (Err e) = None

pub byte_in-pair : (high low : ℕ) → is_lower_case high ≡ false → is_lower_case low ≡ false → byte_in (decode_sized (high ∷ low ∷ []) 1) ≡ byte_of high low
unfolding decode_pairs
byte_in-pair high low h l =
    by_values (hex_digit_value high) (hex_digit_value low) refl refl
    ∙ ap (λ o. o >>= λ x. hex_digit_value low >>= λ y. Some (16 * x + y)) (digit_same high h)
    ∙ second (digit_of high)
  where
    second : (o : Option ℕ) → (o >>= λ x. hex_digit_value low >>= λ y. Some (16 * x + y)) ≡ (o >>= λ x. digit_of low >>= λ y. Some (16 * x + y))
    second None = refl
    second (Some x) = ap (λ o. o >>= λ y. Some (16 * x + y)) (digit_same low l)

    by_values : (p q : Option ℕ) → hex_digit_value high ≡ p → hex_digit_value low ≡ q → byte_in (decode_sized (high ∷ low ∷ []) 1) ≡ (p >>= λ x. q >>= λ y. Some (16 * x + y))
    by_values (Some x) (Some y) e f =
        let first : value_at high 0 ≡ Ok x = ap (digit_or_error high 0) e in
        let other : value_at low 1 ≡ Ok y = ap (digit_or_error low 1) f in
        let pair : pair_value high low 0 ≡ Ok (x * 16 + y) = rw (first, other) refl in
        ap byte_in (decode_pairs-ok_pair 0 high low (x * 16 + y) [] pair) ∙ ap (λ n. Some n) (omega arith)
    by_values (Some x) None e f =
        let first : value_at high 0 ≡ Ok x = ap (digit_or_error high 0) e in
        let other : value_at low 1 ≡ Err (InvalidHexCharacter low 1) = ap (digit_or_error low 1) f in
        rw (first, other) refl
    by_values None q e f =
        let first : value_at high 0 ≡ Err (InvalidHexCharacter high 0) = ap (digit_or_error high 0) e in
        rw first refl

-- what a call of `decode_to_slice` says of the byte
pub byte_in-ok : (r : Result (List ℕ) FromHexError) (answer : Result Unit FromHexError) (new : List ℕ) → MatchResult r (λ bytes. (answer ≡ Ok tt) × (new ≡ bytes)) (λ e. answer ≡ Err e) → answer ≡ Ok tt → Some (slice_index new 0) ≡ byte_in r
byte_in-ok (Ok bytes) answer new h o = ap (λ (xs : List ℕ). Some (slice_index xs 0)) h.1
byte_in-ok (Err e) answer new h o = absurd (cc)

pub byte_in-err : (r : Result (List ℕ) FromHexError) (answer : Result Unit FromHexError) (new : List ℕ) (f : FromHexError) → MatchResult r (λ bytes. (answer ≡ Ok tt) × (new ≡ bytes)) (λ e. answer ≡ Err e) → answer ≡ Err f → None ≡ byte_in r
byte_in-err (Ok bytes) answer new f h o = absurd (cc (h.0))
byte_in-err (Err e) answer new f h o = refl

-- a byte of two digits is read by one after the other
pub hex_in_pair : (line : List ℕ) → hex_in 2 line ≡ pair_in line
unfolding hex_in digit_in pair_in
hex_in_pair [] = refl
hex_in_pair (high ∷ []) = by_value (digit_of high) refl
  where
    by_value : (p : Option ℕ) → digit_of high ≡ p → hex_in 2 (high ∷ []) ≡ None
    by_value (Some x) e = rw e refl
    by_value None e = rw e refl
hex_in_pair (high ∷ low ∷ rest) = by_values (digit_of high) (digit_of low) refl refl
  where
    by_values : (p q : Option ℕ) → digit_of high ≡ p → digit_of low ≡ q → hex_in 2 (high ∷ low ∷ rest) ≡ pair_in (high ∷ low ∷ rest)
    by_values (Some x) (Some y) e f = rw (e, f) (ap (λ n. Some (n, rest)) (omega arith))
    by_values (Some x) None e f = rw (e, f) refl
    by_values None q e f = rw e refl
