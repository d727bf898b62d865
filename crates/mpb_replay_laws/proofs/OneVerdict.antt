-- A report has one verdict.
use Rattle.std.proofs.Common.{◌≡◌, ◌⊎◌, inl, inr, ℕ, ◌<◌, List, map, ap, ap₂, sym, refl, arith, ◌∙◌, Option, Some, None}
use Rattle.std.proofs.lemmas.Bool.{cases_lt}
use Rattle.mpb_spec.specs.declared.agent.Agent.{Agent}
use Rattle.mpb_spec.specs.declared.agent.Agent.TheVariants.{Cpu, Io, Dev}
use Rattle.mpb_spec.specs.declared.agent.Op.{Op}
use Rattle.mpb_spec.specs.declared.entry.Entry.{Entry}
use Rattle.mpb_spec.specs.State.{BoardState}
use Rattle.mpb_spec.specs.Steps.{next_op}
use Rattle.mpb_spec.specs.Plan.{Plan}
use Rattle.mpb_spec.specs.Journal.{final_state_of}
use Rattle.mpb_spec.specs.declared.pulse.Pulse.{Pulse}
use Rattle.mpb_spec.specs.declared.pulse.Hit.{Hit}
use Rattle.mpb_spec.specs.Pulses.{pulses_of, pulses_in}
use Rattle.mpb_report_line.specs.declared.report.Report.{Report}
use Rattle.mpb_replay_laws.specs.declared.verdict.BadWhy.{BadWhy}
use Rattle.mpb_replay_laws.specs.declared.verdict.Verdict.{Verdict}
use Rattle.mpb_replay_laws.specs.declared.verdict.Verdict.TheVariants.{Legal, Bad, Unfinished, Log, Accounts, State}
use Rattle.mpb_replay_laws.specs.Differences.{IsBefore, IsFirstAble, IsFirstUnaccounted}
use Rattle.mpb_replay_laws.specs.Lines.{lines_in, lines_of}
use Rattle.mpb_replay_laws.specs.Verdict.{Applies, IsVerdict, verdict_number}
use Rattle.mpb_replay_laws.proofs.Reasons.{one_bad}
use Rattle.mpb_replay_laws.proofs.Firsts.{one_difference}

-- ---- numbers, agents and pins are in order

three : (m n : ℕ) → (m < n) ⊎ ((n < m) ⊎ (m ≡ n))
three m n = elim (cases_lt m n) [ inl lt ↦ inl lt | inr le ↦ elim (cases_lt n m) [ inl lt ↦ inr (inl lt) | inr ge ↦ inr (inr (omega (arith, le, ge))) ] ]

agents : (g h : Agent) → IsBefore g h ⊎ (IsBefore h g ⊎ (g ≡ h))
agents (Cpu i) (Cpu j) = elim (three i j) [ inl lt ↦ inl lt | inr r ↦ elim r [ inl gt ↦ inr (inl gt) | inr e ↦ inr (inr (ap Cpu e)) ] ]
agents (Cpu i) (Io b) = inl tt
agents (Cpu i) (Dev e) = inl tt
agents (Io a) (Cpu j) = inr (inl tt)
agents (Io a) (Io b) = elim (three a b) [ inl lt ↦ inl lt | inr r ↦ elim r [ inl gt ↦ inr (inl gt) | inr e ↦ inr (inr (ap Io e)) ] ]
agents (Io a) (Dev e) = inl tt
agents (Dev d) (Cpu j) = inr (inl tt)
agents (Dev d) (Io b) = inr (inl tt)
agents (Dev d) (Dev e) = elim (three d e) [ inl lt ↦ inl lt | inr r ↦ elim r [ inl gt ↦ inr (inl gt) | inr e ↦ inr (inr (ap Dev e)) ] ]

none-some : (o : Op) (r : Option Op) → r ≡ None → r ≡ Some o → ⊥
none-some o r e f = (let t : None ≡ Some o = sym e ∙ f in cc)

not-before : (s : BoardState) (g h : Agent) → IsFirstAble s g → IsFirstAble s h → IsBefore g h → ⊥
not-before s g h one two lt = none-some one.may.1.0 (next_op s g one.may.0) (two.first g lt one.may.0) one.may.1.1

one-able : (s : BoardState) (g h : Agent) → IsFirstAble s g → IsFirstAble s h → g ≡ h
one-able s g h one two = elim (agents g h) [
  | inl lt ↦ absurd (not-before s g h one two lt)
  | inr r ↦ elim r [ inl gt ↦ absurd (not-before s h g two one gt) | inr e ↦ e ]
]

one-pin : (c : Plan) (a pin b p : ℕ) (journal : List Entry) (logs : List (List (Pulse × Hit))) → IsFirstUnaccounted c a pin journal logs → IsFirstUnaccounted c b p journal logs → (a ≡ b) × (pin ≡ p)
one-pin c a pin b p journal logs one two = elim (three a b) [
  | inl lt ↦ absurd (one.wrong (two.first a pin one.place one.low (inl lt)))
  | inr r ↦ elim r [
    | inl gt ↦ absurd (two.wrong (one.first b p two.place two.low (inl gt)))
    | inr e ↦ elim (three pin p) [
      | inl lt ↦ absurd (one.wrong (two.first a pin one.place one.low (inr (e, lt))))
      | inr q ↦ elim q [ inl gt ↦ absurd (two.wrong (one.first b p two.place two.low (inr (sym e, gt)))) | inr f ↦ (e, f) ]
    ]
  ]
]

-- ---- verdicts

same-kind : (c : Plan) (r : Report) (v w : Verdict) → verdict_number v ≡ verdict_number w → Applies c r v → Applies c r w → v ≡ w
same-kind c r (Bad m v) (Bad n w) e one two = (let h = one_bad c r.entries m n v w one two in ap₂ (λ (k : ℕ) (y : BadWhy). Bad k y) h.0 h.1)
same-kind c r (Unfinished g) (Unfinished h) e one two = ap Unfinished (one-able (final_state_of c r.entries) g h one two)
same-kind c r (Log m) (Log n) e one two = ap Log (one_difference (map pulses_of r.logs) (map pulses_in c.devices) m n one two)
same-kind c r (Accounts a pin) (Accounts b p) e one two = (let h = one-pin c a pin b p r.entries r.logs one two in ap₂ (λ (k n : ℕ). Accounts k n) h.0 h.1)
same-kind c r (State m) (State n) e one two = ap State (one_difference (lines_in r) (lines_of (final_state_of c r.entries)) m n one two)
same-kind c r Legal Legal e one two = refl
same-kind c r v w e one two = absurd (omega (arith, e))

pub same_verdict : (c : Plan) (r : Report) (v w : Verdict) → IsVerdict c r v → IsVerdict c r w → v ≡ w
same_verdict c r v w one two = elim (three (verdict_number v) (verdict_number w)) [
  | inl lt ↦ absurd (two.first v lt one.applies)
  | inr q ↦ elim q [ inl gt ↦ absurd (one.first w gt two.applies) | inr e ↦ same-kind c r v w e one.applies two.applies ]
]
