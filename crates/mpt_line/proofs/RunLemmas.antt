-- The reading of as many bytes as there are, one more at a time.
use Rattle.std.proofs.Common.{◌≡◌, ℕ, suc, List, [], ◌∷◌, ◌++◌, sym, ap, ◌∙◌, append_assoc, append-nil}
use Rattle.std.specs.Prelude.{Some, None}
use Rattle.mpt_line.specs.Reading.{hex_in, run_in, grown}

-- the bytes read so far, and the run from here on, are the run of the whole
pub record IsRunOf (bytes : List ℕ) (n : ℕ) (rest : List ℕ) (whole : List ℕ) (end : List ℕ) : Type 0 where
  pub bytes_are : bytes ++ (run_in n rest).0 ≡ whole
  pub end_is : (run_in n rest).1 ≡ end

pub run_more : (n m : ℕ) (bytes : List ℕ) (v : ℕ) (rest next whole end : List ℕ) → n ≡ suc m → IsRunOf bytes n rest whole end → hex_in 2 rest ≡ Some (v, next) → IsRunOf (bytes ++ v ∷ []) m next whole end
unfolding run_in
run_more n m bytes v rest next whole end e h r =
    let run : run_in n rest ≡ (v ∷ (run_in m next).0, (run_in m next).1) = ap (λ k. run_in k rest) e ∙ ap (λ o. grown o rest (run_in m)) r in record {
      bytes_are = append_assoc bytes (v ∷ []) (run_in m next).0 ∙ ap (λ x. bytes ++ x.0) (sym run) ∙ h.bytes_are;
      end_is = ap (λ x. x.1) (sym run) ∙ h.end_is;
    }

pub run_stop : (n m : ℕ) (bytes rest whole end : List ℕ) → n ≡ suc m → IsRunOf bytes n rest whole end → hex_in 2 rest ≡ None → (bytes ≡ whole) × (rest ≡ end)
unfolding run_in
run_stop n m bytes rest whole end e h r =
    let run : run_in n rest ≡ ([], rest) = ap (λ k. run_in k rest) e ∙ ap (λ o. grown o rest (run_in m)) r in
    (sym (append-nil bytes) ∙ ap (λ x. bytes ++ x.0) (sym run) ∙ h.bytes_are, ap (λ x. x.1) (sym run) ∙ h.end_is)

pub run_all : (n : ℕ) (bytes rest whole end : List ℕ) → n ≡ 0 → IsRunOf bytes n rest whole end → (bytes ≡ whole) × (rest ≡ end)
unfolding run_in
run_all n bytes rest whole end e h =
    let run : run_in n rest ≡ ([], rest) = ap (λ k. run_in k rest) e in
    (sym (append-nil bytes) ∙ ap (λ x. bytes ++ x.0) (sym run) ∙ h.bytes_are, ap (λ x. x.1) (sym run) ∙ h.end_is)
