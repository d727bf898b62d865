-- The reading of as many items as there are, one more at a time.
use Rattle.std.proofs.Common.{◌≡◌, ℕ, suc, List, [], ◌∷◌, ◌++◌, Option, Some, None, sym, ap, ◌∙◌, append_assoc, append-nil}
use Rattle.mpb_report_line.specs.Reading.{run_of, grown_by}

-- the items read so far, and the run from here on, are the run of the whole
pub record IsRunFrom {A : Type 0} (item : List ℕ → Option (A × List ℕ)) (items : List A) (n : ℕ) (rest : List ℕ) (whole : List A) (end : List ℕ) : Type 0 where
  pub items_are : items ++ (run_of item n rest).0 ≡ whole
  pub end_is : (run_of item n rest).1 ≡ end

pub run_more : {A : Type 0} (item : List ℕ → Option (A × List ℕ)) (n m : ℕ) (items : List A) (v : A) (rest next : List ℕ) (whole : List A) (end : List ℕ) → n ≡ suc m → IsRunFrom item items n rest whole end → item rest ≡ Some (v, next) → IsRunFrom item (items ++ v ∷ []) m next whole end
unfolding run_of
run_more {A} item n m items v rest next whole end e h r =
    let run : run_of item n rest ≡ (v ∷ (run_of item m next).0, (run_of item m next).1) = ap (λ k. run_of item k rest) e ∙ ap (λ o. grown_by o rest (run_of item m)) r in record {
      items_are = append_assoc items (v ∷ []) (run_of item m next).0 ∙ ap (λ x. items ++ x.0) (sym run) ∙ h.items_are;
      end_is = ap (λ x. x.1) (sym run) ∙ h.end_is;
    }

pub run_stop : {A : Type 0} (item : List ℕ → Option (A × List ℕ)) (n m : ℕ) (items : List A) (rest : List ℕ) (whole : List A) (end : List ℕ) → n ≡ suc m → IsRunFrom item items n rest whole end → item rest ≡ None → (items ≡ whole) × (rest ≡ end)
unfolding run_of
run_stop {A} item n m items rest whole end e h r =
    let run : run_of item n rest ≡ ([], rest) = ap (λ k. run_of item k rest) e ∙ ap (λ o. grown_by o rest (run_of item m)) r in
    (sym (append-nil items) ∙ ap (λ x. items ++ x.0) (sym run) ∙ h.items_are, ap (λ x. x.1) (sym run) ∙ h.end_is)

pub run_all : {A : Type 0} (item : List ℕ → Option (A × List ℕ)) (n : ℕ) (items : List A) (rest : List ℕ) (whole : List A) (end : List ℕ) → n ≡ 0 → IsRunFrom item items n rest whole end → (items ≡ whole) × (rest ≡ end)
unfolding run_of
run_all {A} item n items rest whole end e h =
    let run : run_of item n rest ≡ ([], rest) = ap (λ k. run_of item k rest) e in
    (sym (append-nil items) ∙ ap (λ x. items ++ x.0) (sym run) ∙ h.items_are, ap (λ x. x.1) (sym run) ∙ h.end_is)
