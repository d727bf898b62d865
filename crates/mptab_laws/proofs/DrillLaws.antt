-- What a drill is answered.
use Rattle.std.proofs.Common.{◌≡◌, ℕ, ◌⊎◌, List, Option, Some, sym, subst, ◌∙◌, inl, inr}
use Rattle.mpt_base.specs.Outside.{Files}
use Rattle.mpb_tally.specs.Summary.{IsSummaryOf}
use Rattle.mptab_walk.specs.Forms.{Form, Drill, IsForm}
use Rattle.mptab_walk.specs.Walk.{Outside, IsAnswer, IsAnswerOf, IsDueOf, IsFailure, Answers}
use Rattle.mptab_walk.proofs.FormReading.{same_form}

of_drill : (told : Option Files) (n s : ℕ) (t : List ℕ) → IsAnswerOf told (Drill n) s t → (s ≡ 0) × IsSummaryOf n t
of_drill told n s t (inl a) = absurd a.1
of_drill told n s t (inr a) = a.1

-- an answer is its summary
pub drill_summed : (listed : Form → Type 0) (told : Option Files) (words : List (List ℕ)) (n s : ℕ) (t : List ℕ) → listed (Drill n) → IsForm (Drill n) words → IsAnswer listed told words s t → (s ≡ 0) × IsSummaryOf n t
drill_summed listed told words n s t l is (inl a) = absurd (a.0 (Drill n) l is)
drill_summed listed told words n s t l is (inr (form, k, is', a)) = of_drill told n s t (subst (λ (x : Form). IsAnswerOf told x s t) (same_form form (Drill n) words is' is) a)

due : (told : Option Files) (before after : Outside) (n s : ℕ) (t : List ℕ) → IsDueOf told before after (Drill n) s t → (s ≡ 0) ⊎ (s ≡ 9)
due told before after n s t (inl a) = inl (of_drill told n s t a.0).0
due told before after n s t (inr (inl a)) = absurd a.3
due told before after n s t (inr (inr a)) = inr a.0

-- what is given to its words has status 0, 5 or 9
pub drill_status : (listed : Form → Type 0) (told : Option Files) (before after : Outside) (words : List (List ℕ)) (n result : ℕ) → listed (Drill n) → IsForm (Drill n) words → Answers listed told before after words result → (result ≡ 0) ⊎ ((result ≡ 5) ⊎ (result ≡ 9))
drill_status listed told before after words n result l is (s, t, d, inr x) = inr (inl x.0)
drill_status listed told before after words n result l is (s, t, inl d, inl x) = absurd (d.0.0 (Drill n) l is)
drill_status listed told before after words n result l is (s, t, inr (form, k, is', d), inl x) = by_due (due told before after n s t (subst (λ (y : Form). IsDueOf told before after y s t) (same_form form (Drill n) words is' is) d))
  where
    by_due : (s ≡ 0) ⊎ (s ≡ 9) → (result ≡ 0) ⊎ ((result ≡ 5) ⊎ (result ≡ 9))
    by_due (inl e) = inl (x.0 ∙ e)
    by_due (inr e) = inr (inr (x.0 ∙ e))
