-- The parts of a call's line are read exactly.
use Rattle.std.proofs.Common.{◌≡◌, ℕ, ◌+◌, ◌*◌, ◌^◌, ◌<◌, Bool, true, false, List, ◌++◌, sym, refl, ap, ◌∙◌, inl, inr, ◌⊎◌, arith}
use Rattle.std.specs.Prelude.{Option, Some, None, codes}
use Rattle.mpt_listing.specs.Listing.{hex}
use Rattle.mpt_line.specs.Reading.{◌>>=◌, text_in, digit_in, hex_in}
use Rattle.mpt_line.proofs.Exact.{bind_some, some_is, IsExact, text_again, text_takes, either-exact}
use Rattle.mpt_line.proofs.Digits.{hex-exact}
use Rattle.mpf_pic_lines.specs.Forms.{byte_in, naming, saying, way_in}

-- a digit more
abbrev more_digit : ℕ → ℕ × List ℕ → Option (ℕ × List ℕ)
more_digit a x = Some (16 * a + x.0, x.1)

-- a byte of two digits is a number of two digits
second_digit : (a : ℕ) (o : Option (ℕ × List ℕ)) → (o >>= more_digit (16 * 0 + a)) ≡ (o >>= more_digit a)
second_digit a None = refl
second_digit a (Some x) = let same : 16 * 0 + a ≡ a = omega arith in ap (λ (n : ℕ). more_digit n x) same

first_digit : (o : Option (ℕ × List ℕ)) → ((o >>= more_digit 0) >>= λ high. digit_in high.1 >>= more_digit high.0) ≡ (o >>= λ high. digit_in high.1 >>= more_digit high.0)
first_digit None = refl
first_digit (Some x) = second_digit x.0 (digit_in x.1)

byte_is_hex : (line : List ℕ) → hex_in 2 line ≡ byte_in line
unfolding byte_in hex_in
byte_is_hex line = first_digit (digit_in line)

pub byte-exact : IsExact (hex 2) (λ n. n < 16 ^ 2) byte_in
byte-exact = record {
  again = λ a rest v. sym (byte_is_hex (hex 2 a ++ rest)) ∙ (hex-exact 2).again a rest v;
  takes = λ line a rest h. (hex-exact 2).takes line a rest (byte_is_hex line ∙ h);
}

-- a digit is a number of one digit
only_digit : (o : Option (ℕ × List ℕ)) → (o >>= more_digit 0) ≡ o
only_digit None = refl
only_digit (Some x) = let same : 16 * 0 + x.0 ≡ x.0 = omega arith in ap (λ (n : ℕ). Some (n, x.1)) same

digit_is_hex : (line : List ℕ) → hex_in 1 line ≡ digit_in line
unfolding hex_in
digit_is_hex line = only_digit (digit_in line)

pub digit-exact : IsExact (hex 1) (λ n. n < 16 ^ 1) digit_in
digit-exact = record {
  again = λ a rest v. sym (digit_is_hex (hex 1 a ++ rest)) ∙ (hex-exact 1).again a rest v;
  takes = λ line a rest h. (hex-exact 1).takes line a rest (digit_is_hex line ∙ h);
}

-- a part whose value names another: each right one is named by one value
module _ {A : Type 0} {t : A → List ℕ} {V : A → Type 0} {r : List ℕ → Option (A × List ℕ)} (f : IsExact t V r) where
  pub naming-exact : {B : Type 0} (u : B → List ℕ) (W : B → Type 0) (name : A → Option B) (back : B → A)
      → ((b : B) → W b → (name (back b) ≡ Some b) × V (back b) × (u b ≡ t (back b)))
      → ((a : A) (b : B) → V a → name a ≡ Some b → W b × (u b ≡ t a)) → IsExact u W (naming name r)
  naming-exact {B} u W name back from to = record {
    again = λ b rest w.
        let k = from b w in
        ap (λ (l : List ℕ). naming name r (l ++ rest)) k.2
        ∙ ap (λ o. o >>= λ x. name x.0 >>= λ y. Some (y, x.1)) (f.again (back b) rest k.1)
        ∙ ap (λ o. o >>= λ y. Some (y, rest)) k.0;
    takes = λ line b rest h.
        let k = bind_some (r line) (λ x. name x.0 >>= λ y. Some (y, x.1)) (b, rest) h in
        let m = bind_some (name k.0.0) (λ y. Some (y, k.0.1)) (b, rest) k.2 in
        let both_is : (m.0, k.0.1) ≡ (b, rest) = some_is (m.0, k.0.1) (b, rest) m.2 in
        let value : m.0 ≡ b = ap (λ x. x.0) both_is in
        let end : k.0.1 ≡ rest = ap (λ x. x.1) both_is in
        let p = f.takes line k.0.0 k.0.1 k.1 in
        let q = to k.0.0 b p.0 (m.1 ∙ ap (λ x. Some x) value) in
        (q.0, p.1 ∙ ap (λ (l : List ℕ). l ++ k.0.1) (sym q.1) ∙ ap (λ (l : List ℕ). u b ++ l) end);
  }

-- a text that says this
pub saying-exact : {A : Type 0} (u : A → List ℕ) (a : A) → IsExact u (λ b. b ≡ a) (saying a (u a))
saying-exact {A} u a = record {
  again = λ b rest w. ap (λ (x : A). saying a (u a) (u x ++ rest)) w ∙ ap (λ o. o >>= λ l. Some (a, l)) (text_again (u a) rest) ∙ ap (λ (x : A). Some (x, rest)) (sym w);
  takes = λ line b rest h.
      let k = bind_some (text_in (u a) line) (λ l. Some (a, l)) (b, rest) h in
      let both_is : (a, k.0) ≡ (b, rest) = some_is (a, k.0) (b, rest) k.2 in
      let value : a ≡ b = ap (λ x. x.0) both_is in
      let end : k.0 ≡ rest = ap (λ x. x.1) both_is in
      (sym value, text_takes (u a) line k.0 k.1 ∙ ap (λ (l : List ℕ). u a ++ l) end ∙ ap (λ (x : A). u x ++ rest) value);
}

-- whether a line goes up
abbrev pub way_text : Bool → List ℕ
way_text true = codes " up\n"
way_text false = codes " down\n"

no_up : (b : Bool) (rest : List ℕ) → b ≡ false → saying true (codes " up\n") (way_text b ++ rest) ≡ None
unfolding text_in
no_up b rest e = ap (λ (x : Bool). saying true (codes " up\n") (way_text x ++ rest)) e

pub way-exact : IsExact way_text (λ b. (b ≡ true) ⊎ (b ≡ false)) way_in
unfolding way_in
way-exact = either-exact (saying-exact way_text true) (saying-exact way_text false) no_up

pub either_way : (b : Bool) → (b ≡ true) ⊎ (b ≡ false)
either_way true = inl refl
either_way false = inr refl
