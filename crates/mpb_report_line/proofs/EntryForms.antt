-- The lines of entries are read exactly.
use Rattle.std.proofs.Common.{◌≡◌, ℕ, ◌≤◌, true, List, [], ◌∷◌, ◌++◌, length, refl, append_assoc, arith}
use Rattle.std.specs.Prelude.{codes, decimal}
use Rattle.std.specs.List.{flat_map}
use Rattle.mpt_line.proofs.Exact.{IsExact, after-exact, both-exact, seen_as-exact, value-exact}
use Rattle.mpb_spec.specs.declared.entry.Entry.{Entry}
use Rattle.mpb_spec.specs.declared.entry.Outcome.{Outcome}
use Rattle.mpb_report_spec.specs.EntryLines.{agent_text, op_text, further_outcome, entry_line}
use Rattle.mpb_report_line.specs.Values.{IsRightEntry}
use Rattle.mpb_report_line.specs.Reading.{is_filled}
use Rattle.mpb_report_line.specs.Forms.{entry_in}
use Rattle.mpb_report_line.proofs.Parts.{before-exact, retold}
use Rattle.mpb_report_line.proofs.OpForms.{agent-exact, op-exact}
use Rattle.mpb_report_line.proofs.OutcomeForms.{outcomes-exact}

filled : (os : List Outcome) → is_filled os ≡ true → 1 ≤ length os
filled [] h = absurd (cc (h))
filled (o ∷ os) h = omega arith

some_filled : (os : List Outcome) → 1 ≤ length os → is_filled os ≡ true
some_filled [] h = absurd (omega arith)
some_filled (o ∷ os) h = refl

regroup : (k gap g o c os : List ℕ) → k ++ (gap ++ (g ++ (gap ++ (o ++ (c ++ os))))) ≡ (k ++ gap) ++ ((g ++ gap) ++ ((o ++ c) ++ os))
regroup k gap g o c os = simp append_assoc

pub entry-exact : (k : ℕ) → IsExact (entry_line k) IsRightEntry (entry_in k)
unfolding entry_in
entry-exact k =
    value-exact
    (retold
    (after-exact
    (seen_as-exact (both-exact (before-exact agent-exact (codes " ")) (both-exact op-exact outcomes-exact))
    (λ v. record { agent = v.0; op = v.1.0; outcomes = record { items = v.1.1 } })
    (λ (x : Entry). (x.agent, (x.op, x.outcomes.items))) (λ _. refl) (λ _. refl))
    (decimal k ++ codes " "))
    (entry_line k)
    (λ x v. regroup (decimal k) (codes " ") (agent_text x.agent) (op_text x.op) (codes " :") (flat_map further_outcome x.outcomes.items ++ 10 ∷ [])))
    IsRightEntry
    (λ x v. record { agent = v.0; op = v.1.0; some = filled x.outcomes.items v.1.1.1; few = v.1.1.0.0; outcomes = v.1.1.0.1 })
    (λ x v. (v.agent, (v.op, ((v.few, v.outcomes), some_filled x.outcomes.items v.some))))
