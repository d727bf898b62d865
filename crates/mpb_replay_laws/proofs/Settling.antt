-- Each report has a verdict; and where none but Legal applies, the run is complete, all pulses are accounted for, and the lines
-- of the state are the board's.
use Rattle.std.proofs.Common.{rules, ◌≡◌, ◌≢◌, ◌⊎◌, inl, inr, ℕ, ◌<◌, Bool, true, false, List, length, map, refl, sym, ap, ap₂, subst, arith, MatchBool}
use Rattle.std.specs.Bool.{Decides}
use Rattle.std.proofs.lemmas.Bool.{cases_eq}
use Rattle.mpb_spec.specs.declared.config.Life.{Life}
use Rattle.mpb_spec.specs.declared.config.Imcr.{Imcr}
use Rattle.mpb_spec.specs.declared.entry.Entry.{Entry}
use Rattle.mpb_spec.specs.contracts.config.LifePartialEq.TheImpl as lives
use Rattle.mpb_spec.specs.contracts.config.ImcrPartialEq.TheImpl as imcrs
use Rattle.mpb_spec.specs.Plan.{Plan}
use Rattle.mpb_spec.specs.Configs.{IsConfig}
use Rattle.mpb_spec.specs.Journal.{IsComplete, final_state_of}
use Rattle.mpb_spec.specs.declared.pulse.Pulse.{Pulse}
use Rattle.mpb_spec.specs.declared.pulse.Hit.{Hit}
use Rattle.mpb_spec.specs.Pulses.{pulses_of, pulses_in}
use Rattle.mpb_robin.specs.Account.{AccountsForPulses, collected_count}
use Rattle.mpb_report_line.specs.declared.report.Report.{Report}
use Rattle.mpb_replay_laws.specs.declared.verdict.Verdict.{Verdict}
use Rattle.mpb_replay_laws.specs.declared.verdict.Verdict.TheVariants.{Legal, Bad, Unfinished, Log, Accounts, State}
use Rattle.mpb_replay_laws.specs.Differences.{IsAccountedAt, IsFirstUnaccounted}
use Rattle.mpb_replay_laws.specs.Lines.{StateLine, RegisterLine, ProcessorLine, PlaceLine, lines_in, lines_of}
use Rattle.mpb_replay_laws.specs.Verdict.{IsVerdict, verdict_number}
use Rattle.mpb_replay_laws.specs.Asked.{AllAccounted, HasPulses, is_accounted}
use Rattle.mpb_replay_laws.proofs.Reasons.{legal_or_bad}
use Rattle.mpb_replay_laws.proofs.Firsts.{IsLeast, least_or_none, same_or_differ, same_lists}
use Rattle.mpb_replay_laws.proofs.Verdicts.{bad, unfinished, log, accounts, state, legal}
use Rattle.mpb_replay_laws.proofs.Accounted.{accounted_or_not, accounts_for_pulses, all_accounted}
use Rattle.mpb_replay_laws.proofs.Able.{able_or_quiet}

-- ---- values are the same or aren't

either : (b : Bool) (P : Type 0) → Decides b P → P ⊎ (P → ⊥)
either true P d = inl (d.0 refl)
either false P d = inr (λ p. (let t = d.1 p in cc))

life-decides : (a b : Life) → Decides (lives.ghosts.eq a b) (a ≡ b)
life-decides a b = search rules

imcr-decides : (a b : Imcr) → Decides (imcrs.ghosts.eq a b) (a ≡ b)
imcr-decides a b = search rules

same-numbers : (xs ys : List ℕ) → (xs ≡ ys) ⊎ (xs ≢ ys)
same-numbers xs ys = same_lists cases_eq xs ys

same-pulse : (a b : Pulse) → (a ≡ b) ⊎ (a ≢ b)
same-pulse a b = elim (cases_eq a.io b.io) [
  | inr ne ↦ inr (λ e. ne (ap (λ (p : Pulse). p.io) e))
  | inl io ↦ elim (cases_eq a.pin b.pin) [ inr ne ↦ inr (λ e. ne (ap (λ (p : Pulse). p.pin) e)) | inl pin ↦ inl (ap₂ (λ (i n : ℕ). record { io = i; pin = n }) io pin) ]
]

same-places : (a b c x y z : ℕ) → (PlaceLine a b c ≡ PlaceLine x y z) ⊎ (PlaceLine a b c ≢ PlaceLine x y z)
same-places a b c x y z = elim (cases_eq a x) [
  | inr ne ↦ inr (λ e. ne cc)
  | inl p ↦ elim (cases_eq b y) [ inr ne ↦ inr (λ e. ne cc) | inl q ↦ elim (cases_eq c z) [ inr ne ↦ inr (λ e. ne cc) | inl r ↦ inl cc ] ]
]

same-line : (a b : StateLine) → (a ≡ b) ⊎ (a ≢ b)
same-line (RegisterLine a) (RegisterLine b) = elim (either (imcrs.ghosts.eq a b) (a ≡ b) (imcr-decides a b)) [ inl e ↦ inl (ap RegisterLine e) | inr ne ↦ inr (λ e. ne cc) ]
same-line (PlaceLine a b c) (PlaceLine x y z) = same-places a b c x y z
same-line (ProcessorLine i l t a b c) (ProcessorLine j m u x y z) = elim (cases_eq i j) [
  | inr ne ↦ inr (λ e. ne cc)
  | inl i' ↦ elim (either (lives.ghosts.eq l m) (l ≡ m) (life-decides l m)) [
    | inr ne ↦ inr (λ e. ne cc)
    | inl l' ↦ elim (cases_eq t u) [
      | inr ne ↦ inr (λ e. ne cc)
      | inl t' ↦ elim (same-numbers a x) [
        | inr ne ↦ inr (λ e. ne cc)
        | inl a' ↦ elim (same-numbers b y) [ inr ne ↦ inr (λ e. ne cc) | inl b' ↦ elim (same-numbers c z) [ inr ne ↦ inr (λ e. ne cc) | inl c' ↦ inl cc ] ]
      ]
    ]
  ]
]
same-line a b = inr (λ e. cc)

-- ---- pins

told : (journal : List Entry) (logs : List (List (Pulse × Hit))) (a pin : ℕ) → (IsAccountedAt a pin journal logs) ⊎ (¬ IsAccountedAt a pin journal logs)
told journal logs a pin = go (is_accounted a pin (collected_count a pin journal) logs) (accounted_or_not a pin (collected_count a pin journal) journal logs refl) where
  go : (b : Bool) → MatchBool b (IsAccountedAt a pin journal logs) (¬ IsAccountedAt a pin journal logs) → (IsAccountedAt a pin journal logs) ⊎ (¬ IsAccountedAt a pin journal logs)
  go true m = inl m
  go false m = inr m

-- a pin of this I/O APIC isn't accounted for, or all are
abbrev Fails : List Entry → List (List (Pulse × Hit)) → ℕ → ℕ → Type 0
Fails journal logs a pin = ¬ IsAccountedAt a pin journal logs

flip : (journal : List Entry) (logs : List (List (Pulse × Hit))) (a pin : ℕ) → Fails journal logs a pin ⊎ (¬ Fails journal logs a pin)
flip journal logs a pin = elim (told journal logs a pin) [ inl h ↦ inr (λ f. f h) | inr not ↦ inl not ]

back : (journal : List Entry) (logs : List (List (Pulse × Hit))) (a pin : ℕ) → ¬ Fails journal logs a pin → IsAccountedAt a pin journal logs
back journal logs a pin not = elim (told journal logs a pin) [ inl h ↦ h | inr f ↦ absurd (not f) ]

abbrev Pin : List Entry → List (List (Pulse × Hit)) → ℕ → Type 0
Pin journal logs a = (pin : ℕ) × (pin < 24) × IsLeast (Fails journal logs a) pin

abbrev AllPins : List Entry → List (List (Pulse × Hit)) → ℕ → Type 0
AllPins journal logs a = (pin : ℕ) → pin < 24 → IsAccountedAt a pin journal logs

pins : (journal : List Entry) (logs : List (List (Pulse × Hit))) (a : ℕ) → AllPins journal logs a ⊎ Pin journal logs a
pins journal logs a = elim (least_or_none (Fails journal logs a) (flip journal logs a) 24) [ inl none ↦ inl (λ pin lt. back journal logs a pin (none pin lt)) | inr p ↦ inr p ]

some-pin : (journal : List Entry) (logs : List (List (Pulse × Hit))) (a : ℕ) → Pin journal logs a ⊎ (¬ Pin journal logs a)
some-pin journal logs a = elim (pins journal logs a) [ inl all ↦ inr (λ p. p.2.holds (all p.0 p.1)) | inr p ↦ inl p ]

no-pin : (journal : List Entry) (logs : List (List (Pulse × Hit))) (a : ℕ) → ¬ Pin journal logs a → AllPins journal logs a
no-pin journal logs a not = elim (pins journal logs a) [ inl all ↦ all | inr p ↦ absurd (not p) ]

pub accounted_or_first : (c : Plan) (journal : List Entry) (logs : List (List (Pulse × Hit))) → AllAccounted c journal logs ⊎ ((a pin : ℕ) × IsFirstUnaccounted c a pin journal logs)
accounted_or_first c journal logs = elim (least_or_none (Pin journal logs) (some-pin journal logs) (length c.ios)) [
  | inl none ↦ inl (λ a pin lt low. no-pin journal logs a (none a lt) pin low)
  | inr h ↦ inr (
    h.0,
    h.2.holds.0,
    record {
      place = h.1;
      low = h.2.holds.1;
      wrong = h.2.holds.2.holds;
      first = λ b p lt low before. elim before [
        | inl less ↦ no-pin journal logs b (h.2.first b less) p low
        | inr same ↦ subst (λ (k : ℕ). IsAccountedAt k p journal logs) (sym same.0) (back journal logs h.0 p (h.2.holds.2.first p same.1))
      ];
    },
  )
]

-- ---- the whole

-- what is so where Legal is left
pub record IsLawful (c : Plan) (r : Report) : Type 0 where
  pub complete : IsComplete c r.entries
  pub pulses : HasPulses c r.logs
  pub accounted : AllAccounted c r.entries r.logs
  pub lines : lines_in r ≡ lines_of (final_state_of c r.entries)

-- an earlier verdict, or that
abbrev pub Settled : Plan → Report → Type 0
Settled c r = ((v : Verdict) × (verdict_number v < 5) × IsVerdict c r v) ⊎ IsLawful c r

lines-told : (c : Plan) (r : Report) → IsComplete c r.entries → HasPulses c r.logs → AllAccounted c r.entries r.logs → Settled c r
lines-told c r complete pulses all = elim (same_or_differ same-line (lines_in r) (lines_of (final_state_of c r.entries))) [
  | inl e ↦ inr (record { complete = complete; pulses = pulses; accounted = all; lines = e })
  | inr d ↦ inl (State d.0, omega arith, state c r d.0 complete pulses all d.1)
]

pins-told : (c : Plan) (r : Report) → IsComplete c r.entries → HasPulses c r.logs → Settled c r
pins-told c r complete pulses = elim (accounted_or_first c r.entries r.logs) [
  | inl all ↦ lines-told c r complete pulses all
  | inr h ↦ inl (Accounts h.0 h.1, omega arith, accounts c r h.0 h.1 complete pulses h.2)
]

logs-told : (c : Plan) (r : Report) → IsComplete c r.entries → Settled c r
logs-told c r complete = elim (same_or_differ (same_lists same-pulse) (map pulses_of r.logs) (map pulses_in c.devices)) [
  | inl e ↦ pins-told c r complete e
  | inr d ↦ inl (Log d.0, omega arith, log c r d.0 complete d.1)
]

pub settled : (c : Plan) (r : Report) → IsConfig c → Settled c r
settled c r is = elim (legal_or_bad c r.entries) [
  | inr b ↦ inl (Bad b.0 b.1, omega arith, bad c r b.0 b.1 b.2)
  | inl lawful ↦ elim (able_or_quiet c r.entries is) [
    | inl g ↦ inl (Unfinished g.0, omega arith, unfinished c r g.0 lawful g.1)
    | inr quiet ↦ logs-told c r (record { legal = lawful; quiescent = quiet })
  ]
]

-- a verdict
pub some_verdict : (c : Plan) (r : Report) → IsConfig c → (v : Verdict) × IsVerdict c r v
some_verdict c r is = elim (settled c r is) [ inl v ↦ (v.0, v.2) | inr h ↦ (Legal, legal c r h.complete h.pulses h.accounted h.lines) ]

-- where Legal is left
pub left_is : (c : Plan) (r : Report) → IsConfig c → IsVerdict c r Legal → IsLawful c r
left_is c r is v = elim (settled c r is) [ inl w ↦ absurd (v.first w.0 w.1 w.2.applies) | inr h ↦ h ]

pub legal_is : (c : Plan) (r : Report) → IsConfig c → IsVerdict c r Legal → IsComplete c r.entries × AccountsForPulses c r.entries r.logs × (lines_in r ≡ lines_of (final_state_of c r.entries))
legal_is c r is v = (let h = left_is c r is v in (h.complete, accounts_for_pulses c r.entries r.logs is h.pulses h.accounted, h.lines))

pub is_legal : (c : Plan) (r : Report) → IsComplete c r.entries × AccountsForPulses c r.entries r.logs × (lines_in r ≡ lines_of (final_state_of c r.entries)) → IsVerdict c r Legal
is_legal c r h = legal c r h.0 h.1.pulses (all_accounted c r.entries r.logs h.1) h.2
