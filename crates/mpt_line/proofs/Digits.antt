-- Digits, numbers, several bytes and bytes in quotes are read exactly.
use Rattle.std.proofs.Common.{◌≡◌, ℕ, zero, suc, ◌+◌, ◌*◌, ◌/◌, ◌%◌, ◌^◌, ◌<◌, Bool, true, false, cond, List, [], ◌∷◌, ◌++◌, length, sym, refl, ap, ◌∙◌, subst, arith, append_assoc}
use Rattle.std.specs.Prelude.{Option, Some, None, codes}
use Rattle.std.specs.List.{flat_map, AllByRecursion}
use Rattle.std.proofs.Math.Nat.{pow-suc}
use Rattle.std.proofs.lemmas.Bool.Decides.{nat_tests}
use Rattle.mpt_listing.specs.Listing.{hex, hex_digit, hex_bytes, is_plain_byte, quoted_byte, quoted}
use Rattle.mpt_line.specs.Reading.{◌>>=◌, text_in, digit_of, digit_in, hex_in, many_in, escaped_in, quoted_byte_in, quoted_in, field_in, bytes_field_in, quoted_field_in}
use Rattle.mpt_line.proofs.Exact.{bind_some, some_is, IsExact, text_again, text_takes, after-exact}

-- digits
digit_again : (d : ℕ) (rest : List ℕ) → d < 16 → digit_in (hex_digit d ∷ rest) ≡ Some (d, rest)
unfolding digit_in
digit_again d rest h = let e : digit_of (hex_digit d) ≡ Some d = grind (arith, nat_tests) in ap (λ o. o >>= λ x. Some (x, rest)) e

digit_takes : (line : List ℕ) (d : ℕ) (rest : List ℕ) → digit_in line ≡ Some (d, rest) → (d < 16) × (line ≡ hex_digit d ∷ rest)
unfolding digit_in
digit_takes [] d rest h = absurd (cc)
digit_takes (c ∷ cs) d rest h =
    let k = bind_some (digit_of c) (λ x. Some (x, cs)) (d, rest) h in
    let both_is : (k.0, cs) ≡ (d, rest) = some_is (k.0, cs) (d, rest) k.2 in
    let value : k.0 ≡ d = ap (λ x. x.0) both_is in
    let end : cs ≡ rest = ap (λ x. x.1) both_is in
    let is : digit_of c ≡ Some d = k.1 ∙ ap (λ x. Some x) value in
    let low : d < 16 = small c d is in
    let back : c ≡ hex_digit d = digit c d is in
    (low, ap (λ x. x ∷ cs) back ∙ ap (λ x. hex_digit d ∷ x) end)
  where
    small : (c d : ℕ) → digit_of c ≡ Some d → d < 16
    small c d h = grind (arith, nat_tests)

    digit : (c d : ℕ) → digit_of c ≡ Some d → c ≡ hex_digit d
    digit c d h = grind (arith, nat_tests)

pub hex-exact : (k : ℕ) → IsExact (hex k) (λ n. n < 16 ^ k) (hex_in k)
unfolding hex hex_in
hex-exact zero = record {
  again = λ n rest v. let none : 0 ≡ n = omega arith in ap (λ x. Some (x, rest)) none;
  takes = λ line n rest h. let both_is : (0, line) ≡ (n, rest) = some_is (0, line) (n, rest) h in let value : 0 ≡ n = ap (λ x. x.0) both_is in (omega arith, ap (λ x. x.1) both_is);
}
hex-exact (suc k) =
    let f = hex-exact k in record {
      again = λ n rest v.
          let high : n / 16 < 16 ^ k = part n (16 ^ k) (rw (pow-suc 16 k) at v) in
          ap (λ l. hex_in k l >>= λ high. digit_in high.1 >>= λ low. Some (16 * high.0 + low.0, low.1)) (append_assoc (hex k (n / 16)) (hex_digit (n % 16) ∷ []) rest)
          ∙ ap (λ o. o >>= λ high. digit_in high.1 >>= λ low. Some (16 * high.0 + low.0, low.1)) (f.again (n / 16) (hex_digit (n % 16) ∷ rest) high)
          ∙ ap (λ o. o >>= λ low. Some (16 * (n / 16) + low.0, low.1)) (digit_again (n % 16) rest (omega arith))
          ∙ ap (λ x. Some (x, rest)) (omega arith);
      takes = λ line n rest h.
          let a = bind_some (hex_in k line) (λ high. digit_in high.1 >>= λ low. Some (16 * high.0 + low.0, low.1)) (n, rest) h in
          let b = bind_some (digit_in a.0.1) (λ low. Some (16 * a.0.0 + low.0, low.1)) (n, rest) a.2 in
          let both_is : (16 * a.0.0 + b.0.0, b.0.1) ≡ (n, rest) = some_is (16 * a.0.0 + b.0.0, b.0.1) (n, rest) b.2 in
          let value : 16 * a.0.0 + b.0.0 ≡ n = ap (λ x. x.0) both_is in
          let end : b.0.1 ≡ rest = ap (λ x. x.1) both_is in
          let p = f.takes line a.0.0 a.0.1 a.1 in
          let q = digit_takes a.0.1 b.0.0 b.0.1 b.1 in
          let high : a.0.0 ≡ n / 16 = quotient a.0.0 b.0.0 n q.0 value in
          let low : b.0.0 ≡ n % 16 = remainder a.0.0 b.0.0 n q.0 value in
          let below : n < 16 ^ suc k = rw (pow-suc 16 k) (bound a.0.0 b.0.0 n (16 ^ k) p.0 q.0 value) in
          (below, p.1 ∙ ap (λ x. hex k a.0.0 ++ x) q.1 ∙ (λ i. hex k (high i) ++ hex_digit (low i) ∷ end i) ∙ sym (append_assoc (hex k (n / 16)) (hex_digit (n % 16) ∷ []) rest));
    }
  where
    part : (n p : ℕ) → n < p * 16 → n / 16 < p
    part n p h = omega arith

    quotient : (a b n : ℕ) → b < 16 → 16 * a + b ≡ n → a ≡ n / 16
    quotient a b n h e = omega arith

    remainder : (a b n : ℕ) → b < 16 → 16 * a + b ≡ n → b ≡ n % 16
    remainder a b n h e = omega arith

    bound : (a b n p : ℕ) → a < p → b < 16 → 16 * a + b ≡ n → n < p * 16
    bound a b n p h l e = omega arith

-- what several bytes are read as
abbrev read_as : List ℕ → List ℕ → Option (List ℕ × List ℕ)
read_as bytes rest = Some (bytes, rest)

-- several bytes
module _ {t : ℕ → List ℕ} {V : ℕ → Type 0} {r : List ℕ → Option (ℕ × List ℕ)} (f : IsExact t V r) where
  pub many-exact : (n : ℕ) → IsExact (λ (bytes : List ℕ). flat_map t bytes) (λ bytes. (length bytes ≡ n) × AllByRecursion V bytes) (many_in r n)
  unfolding many_in
  many-exact zero = record {
    again = λ bytes rest v. none bytes rest v.0;
    takes = λ line bytes rest h.
        let start : List ℕ × List ℕ = ([], line) in
        let end : List ℕ × List ℕ = (bytes, rest) in
        let both_is : start ≡ end = some_is start end h in
        let empty : [] ≡ bytes = ap (λ x. x.0) both_is in
        ((ap length (sym empty), subst (λ (xs : List ℕ). AllByRecursion V xs) empty tt), ap (λ x. x.1) both_is ∙ ap (λ (xs : List ℕ). flat_map t xs ++ rest) empty);
  }
    where
      none : (bytes rest : List ℕ) → length bytes ≡ 0 → read_as [] (flat_map t bytes ++ rest) ≡ read_as bytes rest
      none [] rest h = refl
      none (b ∷ bytes) rest h = absurd (omega arith)
  many-exact (suc n) =
      let g = many-exact n in record {
        again = λ bytes rest v. more g bytes rest v.0 v.1;
        takes = λ line bytes rest h.
            let a = bind_some (r line) (λ first. many_in r n first.1 >>= λ more. Some (first.0 ∷ more.0, more.1)) (bytes, rest) h in
            let b = bind_some (many_in r n a.0.1) (λ more. Some (a.0.0 ∷ more.0, more.1)) (bytes, rest) a.2 in
            let both_is : (a.0.0 ∷ b.0.0, b.0.1) ≡ (bytes, rest) = some_is (a.0.0 ∷ b.0.0, b.0.1) (bytes, rest) b.2 in
            let whole : a.0.0 ∷ b.0.0 ≡ bytes = ap (λ x. x.0) both_is in
            let end : b.0.1 ≡ rest = ap (λ x. x.1) both_is in
            let p = f.takes line a.0.0 a.0.1 a.1 in
            let q = g.takes a.0.1 b.0.0 b.0.1 b.1 in (
              (ap length (sym whole) ∙ ap suc q.0.0, subst (λ (xs : List ℕ). AllByRecursion V xs) whole (p.0, q.0.1)),
              p.1 ∙ ap (λ (x : List ℕ). t a.0.0 ++ x) q.1 ∙ sym (append_assoc (t a.0.0) (flat_map t b.0.0) b.0.1) ∙ (λ i. flat_map t (whole i) ++ end i),
            );
      }
    where
      more : IsExact (λ (bytes : List ℕ). flat_map t bytes) (λ bytes. (length bytes ≡ n) × AllByRecursion V bytes) (many_in r n) → (bytes rest : List ℕ) → length bytes ≡ suc n → AllByRecursion V bytes → many_in r (suc n) (flat_map t bytes ++ rest) ≡ Some (bytes, rest)
      more g [] rest h v = absurd (omega arith)
      more g (b ∷ bytes) rest h v =
          ap (λ (l : List ℕ). r l >>= λ first. many_in r n first.1 >>= λ more. Some (first.0 ∷ more.0, more.1)) (append_assoc (t b) (flat_map t bytes) rest)
          ∙ ap (λ o. o >>= λ first. many_in r n first.1 >>= λ more. Some (first.0 ∷ more.0, more.1)) (f.again b (flat_map t bytes ++ rest) v.0)
          ∙ ap (λ o. o >>= λ more. Some (b ∷ more.0, more.1)) (g.again bytes rest (omega arith, v.1))

-- a byte in quotes
pub quoted_byte-exact : IsExact quoted_byte (λ b. b < 16 ^ 2) quoted_byte_in
unfolding quoted_byte_in escaped_in
quoted_byte-exact = record {
  again = λ b rest v. written b rest v (is_plain_byte b) refl;
  takes = λ line b rest h. read line b rest h;
}
  where
    written : (b : ℕ) (rest : List ℕ) → b < 16 ^ 2 → (p : Bool) → is_plain_byte b ≡ p → quoted_byte_in (cond (is_plain_byte b) (b ∷ []) (92 ∷ 120 ∷ hex 2 b) ++ rest) ≡ Some (b, rest)
    written b rest v true h =
        ap (λ (x : Bool). quoted_byte_in (cond x (b ∷ []) (92 ∷ 120 ∷ hex 2 b) ++ rest)) h ∙ ap (λ (x : Bool). cond x (Some (b, rest)) (escaped_in (b ∷ rest))) h
    written b rest v false h =
        ap (λ (x : Bool). quoted_byte_in (cond x (b ∷ []) (92 ∷ 120 ∷ hex 2 b) ++ rest)) h
        ∙ ap (λ o. o >>= λ rest. hex_in 2 rest >>= λ b. cond (is_plain_byte b.0) None (Some b)) (text_again (codes "\\x") (hex 2 b ++ rest))
        ∙ ap (λ o. o >>= λ (b : ℕ × List ℕ). cond (is_plain_byte b.0) None (Some b)) ((hex-exact 2).again b rest v)
        ∙ ap (λ (x : Bool). cond x None (Some (b, rest))) h

    low : (b : ℕ) → is_plain_byte b ≡ true → b < 16 ^ 2
    low b h = grind (arith, nat_tests)

    last : (c : ℕ) (cs : List ℕ) (b : ℕ) (rest tail : List ℕ) (y : ℕ × List ℕ) → text_in (codes "\\x") (c ∷ cs) ≡ Some tail → hex_in 2 tail ≡ Some y → (p : Bool) → is_plain_byte y.0 ≡ p
        → cond (is_plain_byte y.0) None (Some y) ≡ Some (b, rest) → (b < 16 ^ 2) × (c ∷ cs ≡ quoted_byte b ++ rest)
    last c cs b rest tail y t n true e h = let none : None ≡ Some (b, rest) = ap (λ (x : Bool). cond x None (Some y)) (sym e) ∙ h in absurd (cc)
    last c cs b rest tail y t n false e h =
        let some : Some y ≡ Some (b, rest) = ap (λ (x : Bool). cond x None (Some y)) (sym e) ∙ h in
        let is : y ≡ (b, rest) = some_is y (b, rest) some in
        let number : hex_in 2 tail ≡ Some (b, rest) = n ∙ ap (λ x. Some x) is in
        let k = (hex-exact 2).takes tail b rest number in
        let not_plain : is_plain_byte b ≡ false = ap (λ (x : ℕ × List ℕ). is_plain_byte x.0) (sym is) ∙ e in
        (k.0, text_takes (codes "\\x") (c ∷ cs) tail t ∙ ap (λ (x : List ℕ). codes "\\x" ++ x) k.1 ∙ ap (λ (x : Bool). cond x (b ∷ []) (92 ∷ 120 ∷ hex 2 b) ++ rest) (sym not_plain))

    at : (c : ℕ) (cs : List ℕ) (b : ℕ) (rest : List ℕ) (p : Bool) → is_plain_byte c ≡ p → cond (is_plain_byte c) (Some (c, cs)) (escaped_in (c ∷ cs)) ≡ Some (b, rest) → (b < 16 ^ 2) × (c ∷ cs ≡ quoted_byte b ++ rest)
    at c cs b rest true e h =
        let plain : Some (c, cs) ≡ Some (b, rest) = ap (λ (x : Bool). cond x (Some (c, cs)) (escaped_in (c ∷ cs))) (sym e) ∙ h in
        let both_is : (c, cs) ≡ (b, rest) = some_is (c, cs) (b, rest) plain in
        let value : c ≡ b = ap (λ x. x.0) both_is in
        let is_b : is_plain_byte b ≡ true = ap is_plain_byte (sym value) ∙ e in
        (low b is_b, (λ i. (both_is i).0 ∷ (both_is i).1) ∙ ap (λ (x : Bool). cond x (b ∷ []) (92 ∷ 120 ∷ hex 2 b) ++ rest) (sym is_b))
    at c cs b rest false e h =
        let escaped : escaped_in (c ∷ cs) ≡ Some (b, rest) = ap (λ (x : Bool). cond x (Some (c, cs)) (escaped_in (c ∷ cs))) (sym e) ∙ h in
        let x = bind_some (text_in (codes "\\x") (c ∷ cs)) (λ rest. hex_in 2 rest >>= λ b. cond (is_plain_byte b.0) None (Some b)) (b, rest) escaped in
        let y = bind_some (hex_in 2 x.0) (λ (b : ℕ × List ℕ). cond (is_plain_byte b.0) None (Some b)) (b, rest) x.2 in
        last c cs b rest x.0 y.0 x.1 y.1 (is_plain_byte y.0.0) refl y.2

    read : (line : List ℕ) (b : ℕ) (rest : List ℕ) → quoted_byte_in line ≡ Some (b, rest) → (b < 16 ^ 2) × (line ≡ quoted_byte b ++ rest)
    read [] b rest h = absurd (cc)
    read (c ∷ cs) b rest h = at c cs b rest (is_plain_byte c) refl h

-- bytes in quotes
pub quoted-exact : (n : ℕ) → IsExact quoted (λ bytes. (length bytes ≡ n) × AllByRecursion (λ b. b < 16 ^ 2) bytes) (quoted_in n)
unfolding quoted quoted_in
quoted-exact n =
    let many = many-exact quoted_byte-exact n in record {
      again = λ bytes rest v.
          let f : List ℕ = flat_map quoted_byte bytes in
          ap (λ (l : List ℕ). text_in (34 ∷ []) (34 ∷ l) >>= λ rest. many_in quoted_byte_in n rest >>= λ bytes. text_in (34 ∷ []) bytes.1 >>= λ rest. Some (bytes.0, rest)) (append_assoc f (34 ∷ []) rest)
          ∙ ap (λ o. o >>= λ rest. many_in quoted_byte_in n rest >>= λ bytes. text_in (34 ∷ []) bytes.1 >>= λ rest. Some (bytes.0, rest)) (text_again (34 ∷ []) (f ++ 34 ∷ rest))
          ∙ ap (λ o. o >>= λ bytes. text_in (34 ∷ []) bytes.1 >>= λ rest. Some (bytes.0, rest)) (many.again bytes (34 ∷ rest) v)
          ∙ ap (λ o. o >>= λ rest. Some (bytes, rest)) (text_again (34 ∷ []) rest);
      takes = λ line bytes rest h.
          let a = bind_some (text_in (34 ∷ []) line) (λ rest. many_in quoted_byte_in n rest >>= λ bytes. text_in (34 ∷ []) bytes.1 >>= λ rest. Some (bytes.0, rest)) (bytes, rest) h in
          let b = bind_some (many_in quoted_byte_in n a.0) (λ bytes. text_in (34 ∷ []) bytes.1 >>= λ rest. Some (bytes.0, rest)) (bytes, rest) a.2 in
          let d = bind_some (text_in (34 ∷ []) b.0.1) (λ rest. Some (b.0.0, rest)) (bytes, rest) b.2 in
          let start : List ℕ × List ℕ = (b.0.0, d.0) in
          let end : List ℕ × List ℕ = (bytes, rest) in
          let both_is : start ≡ end = some_is start end d.2 in
          let p = many.takes a.0 b.0.0 b.0.1 b.1 in
          let whole : b.0.0 ≡ bytes = ap (λ x. x.0) both_is in
          let tail : d.0 ≡ rest = ap (λ x. x.1) both_is in (
            subst (λ (xs : List ℕ). (length xs ≡ n) × AllByRecursion (λ b. b < 16 ^ 2) xs) whole p.0,
            text_takes (34 ∷ []) line a.0 a.1
                ∙ ap (λ (x : List ℕ). 34 ∷ x) (p.1 ∙ ap (λ (x : List ℕ). flat_map quoted_byte b.0.0 ++ x) (text_takes (34 ∷ []) b.0.1 d.0 d.1) ∙ (λ i. flat_map quoted_byte (whole i) ++ 34 ∷ tail i) ∙ sym (append_assoc (flat_map quoted_byte bytes) (34 ∷ []) rest)),
          );
    }

-- behind a text
pub field-exact : (text : List ℕ) (k : ℕ) → IsExact (λ n. text ++ hex k n) (λ n. n < 16 ^ k) (field_in text k)
unfolding field_in
field-exact text k = after-exact (hex-exact k) text

pub bytes_field-exact : (text : List ℕ) (n : ℕ) → IsExact (λ (bytes : List ℕ). text ++ hex_bytes bytes) (λ bytes. (length bytes ≡ n) × AllByRecursion (λ b. b < 16 ^ 2) bytes) (bytes_field_in text n)
unfolding bytes_field_in hex_bytes
bytes_field-exact text n = after-exact (many-exact (hex-exact 2) n) text

pub quoted_field-exact : (text : List ℕ) (n : ℕ) → IsExact (λ (bytes : List ℕ). text ++ quoted bytes) (λ bytes. (length bytes ≡ n) × AllByRecursion (λ b. b < 16 ^ 2) bytes) (quoted_field_in text n)
unfolding quoted_field_in
quoted_field-exact text n = after-exact (quoted-exact n) text
