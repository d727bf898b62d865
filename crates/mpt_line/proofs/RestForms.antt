-- The bytes of an opaque entry are read exactly, where a line feed follows them.
use Rattle.std.proofs.Common.{◌≡◌, ℕ, zero, suc, ◌≤◌, List, [], ◌∷◌, ◌++◌, length, sym, refl, ap, ◌∙◌, subst, append_assoc, arith}
use Rattle.std.specs.Prelude.{Option, Some, None, codes}
use Rattle.std.specs.List.{flat_map}
use Rattle.mpt_listing.specs.Listing.{hex, hex_bytes, rest_field}
use Rattle.mpt_line.specs.Reading.{◌>>=◌, text_in, digit_in, hex_in, run_in, grown, filled, first_of_two, rest_in, ended}
use Rattle.mpt_line.proofs.Exact.{IsExact, bind_some, some_is, text_again, text_takes}
use Rattle.mpt_line.proofs.Digits.{hex-exact}
use Rattle.mpt_line.proofs.ByteValues.{AreAllBytes}

-- a run that is written is read again up to the line feed
pub run_again : (n : ℕ) (bytes rest : List ℕ) → length bytes ≤ n → AreAllBytes bytes → run_in n (flat_map (hex 2) bytes ++ 10 ∷ rest) ≡ (bytes, 10 ∷ rest)
unfolding run_in hex_in digit_in
run_again zero [] rest h v = refl
run_again zero (b ∷ bytes) rest h v = absurd (omega arith)
run_again (suc n) [] rest h v = refl
run_again (suc n) (b ∷ bytes) rest h v =
    let tail : List ℕ = flat_map (hex 2) bytes ++ 10 ∷ rest in
    let one : hex_in 2 ((hex 2 b ++ flat_map (hex 2) bytes) ++ 10 ∷ rest) ≡ Some (b, tail) = ap (hex_in 2) (append_assoc (hex 2 b) (flat_map (hex 2) bytes) (10 ∷ rest)) ∙ (hex-exact 2).again b tail v.0 in
    ap (λ o. grown o ((hex 2 b ++ flat_map (hex 2) bytes) ++ 10 ∷ rest) (run_in n)) one
    ∙ ap (λ (x : List ℕ × List ℕ). (b ∷ x.0, x.1)) (run_again n bytes rest (omega arith) v.1)

-- a run that is read is one
pub record IsRun (n : ℕ) (line : List ℕ) (run : List ℕ × List ℕ) : Type 0 where
  pub short : length run.0 ≤ n
  pub bytes : AreAllBytes run.0
  pub whole : line ≡ flat_map (hex 2) run.0 ++ run.1

pub run_takes : (n : ℕ) (line : List ℕ) → IsRun n line (run_in n line)
unfolding run_in
run_takes zero line = record { short = omega arith; bytes = tt; whole = refl }
run_takes (suc n) line = grows (run_takes n) (hex_in 2 line) refl
  where
    grows : ((l : List ℕ) → IsRun n l (run_in n l)) → (o : Option (ℕ × List ℕ)) → hex_in 2 line ≡ o → IsRun (suc n) line (grown o line (run_in n))
    grows more None e = record { short = omega arith; bytes = tt; whole = refl }
    grows more (Some b) e =
        let p = (hex-exact 2).takes line b.0 b.1 e in
        let q : IsRun n b.1 (run_in n b.1) = more b.1 in
        let short : length (run_in n b.1).0 ≤ n = q.short in
        record {
          short = omega arith;
          bytes = (p.0, q.bytes);
          whole = p.1 ∙ ap (λ x. hex 2 b.0 ++ x) q.whole ∙ sym (append_assoc (hex 2 b.0) (flat_map (hex 2) (run_in n b.1).0) (run_in n b.1).1);
        }

-- no digit is a dash
no_dash : (line : List ℕ) (x : ℕ × List ℕ) → hex_in 2 line ≡ Some x → text_in (codes "-") line ≡ None
unfolding hex_in digit_in
no_dash line x h = at (text_in (codes "-") line) refl
  where
    at : (o : Option (List ℕ)) → text_in (codes "-") line ≡ o → text_in (codes "-") line ≡ None
    at None e = e
    at (Some r) e =
        let dash : line ≡ 45 ∷ r = text_takes (codes "-") line r e in
        let none : hex_in 2 (45 ∷ r) ≡ None = refl in
        let both_ways : None ≡ Some x = sym none ∙ ap (hex_in 2) (sym dash) ∙ h in
        absurd (cc (both_ways))

rest_again : (bytes rest : List ℕ) → length bytes ≤ 253 → AreAllBytes bytes → rest_in (rest_field bytes ++ 10 ∷ rest) ≡ Some (bytes, 10 ∷ rest)
unfolding rest_in hex_bytes
rest_again [] rest h v = ap (λ o. first_of_two (o >>= λ rest. Some ([], rest)) (filled (run_in 253 (45 ∷ 10 ∷ rest)))) (text_again (codes "-") (10 ∷ rest))
rest_again (b ∷ bytes) rest h v =
    let line : List ℕ = flat_map (hex 2) (b ∷ bytes) ++ 10 ∷ rest in
    let tail : List ℕ = flat_map (hex 2) bytes ++ 10 ∷ rest in
    let one : hex_in 2 line ≡ Some (b, tail) = ap (hex_in 2) (append_assoc (hex 2 b) (flat_map (hex 2) bytes) (10 ∷ rest)) ∙ (hex-exact 2).again b tail v.0 in
    ap (λ o. first_of_two (o >>= λ rest. Some ([], rest)) (filled (run_in 253 line))) (no_dash line (b, tail) one)
    ∙ ap filled (run_again 253 (b ∷ bytes) rest h v)

-- what is read of a rest
record IsRest (line : List ℕ) (bytes end : List ℕ) : Type 0 where
  pub short : length bytes ≤ 253
  pub values : AreAllBytes bytes
  pub whole : line ≡ rest_field bytes ++ end

rest_takes : (line : List ℕ) (x : List ℕ × List ℕ) → rest_in line ≡ Some x → IsRest line x.0 x.1
unfolding rest_in hex_bytes
rest_takes line x h = at (text_in (codes "-") line) refl h
  where
    run : (r : List ℕ × List ℕ) → IsRun 253 line r → filled r ≡ Some x → IsRest line x.0 x.1
    run ([], end) p e = absurd (cc (e))
    run (b ∷ bytes, end) p e = let is : (b ∷ bytes, end) ≡ x = some_is (b ∷ bytes, end) x e in subst (λ (y : List ℕ × List ℕ). IsRest line y.0 y.1) is (record { short = p.short; values = p.bytes; whole = p.whole })

    at : (o : Option (List ℕ)) → text_in (codes "-") line ≡ o → first_of_two (o >>= λ rest. Some ([], rest)) (filled (run_in 253 line)) ≡ Some x → IsRest line x.0 x.1
    at None e k = run (run_in 253 line) (run_takes 253 line) k
    at (Some r) e k = let is : ([], r) ≡ x = some_is ([], r) x k in subst (λ (y : List ℕ × List ℕ). IsRest line y.0 y.1) is (record { short = omega arith; values = tt; whole = text_takes (codes "-") line r e })

pub rest-exact : IsExact (λ (bytes : List ℕ). rest_field bytes ++ 10 ∷ []) (λ bytes. (length bytes ≤ 253) × AreAllBytes bytes) (ended rest_in)
rest-exact = record {
  again = λ bytes rest v.
      ap (λ l. rest_in l >>= λ x. text_in (10 ∷ []) x.1 >>= λ rest. Some (x.0, rest)) (append_assoc (rest_field bytes) (10 ∷ []) rest)
      ∙ ap (λ o. o >>= λ x. text_in (10 ∷ []) x.1 >>= λ rest. Some (x.0, rest)) (rest_again bytes rest v.0 v.1)
      ∙ ap (λ o. o >>= λ rest. Some (bytes, rest)) (text_again (10 ∷ []) rest);
  takes = λ line bytes rest h.
      let k = bind_some (rest_in line) (λ x. text_in (10 ∷ []) x.1 >>= λ rest. Some (x.0, rest)) (bytes, rest) h in
      let m = bind_some (text_in (10 ∷ []) k.0.1) (λ rest. Some (k.0.0, rest)) (bytes, rest) k.2 in
      let both_is : (k.0.0, m.0) ≡ (bytes, rest) = some_is (k.0.0, m.0) (bytes, rest) m.2 in
      let value : k.0.0 ≡ bytes = ap (λ x. x.0) both_is in
      let end : m.0 ≡ rest = ap (λ x. x.1) both_is in
      let p : IsRest line bytes k.0.1 = subst (λ (y : List ℕ). IsRest line y k.0.1) value (rest_takes line k.0 k.1) in
      ((p.short, p.values), p.whole ∙ ap (λ x. rest_field bytes ++ x) (text_takes (10 ∷ []) k.0.1 m.0 m.1 ∙ ap (λ x. 10 ∷ x) end) ∙ sym (append_assoc (rest_field bytes) (10 ∷ []) rest));
}
