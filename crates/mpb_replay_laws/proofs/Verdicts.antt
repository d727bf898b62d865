-- Each verdict, where it applies and what stands before it is so.
use Rattle.std.proofs.Common.{◌≡◌, ℕ, ◌<◌, map, sym, ◌∙◌, arith, Option, Some, None}
use Rattle.mpb_spec.specs.declared.agent.Agent.{Agent}
use Rattle.mpb_spec.specs.declared.agent.Op.{Op}
use Rattle.mpb_spec.specs.State.{BoardState}
use Rattle.mpb_spec.specs.Steps.{next_op}
use Rattle.mpb_spec.specs.May.{IsQuiescent}
use Rattle.mpb_spec.specs.Plan.{Plan}
use Rattle.mpb_spec.specs.Journal.{IsLegal, IsComplete, final_state_of}
use Rattle.mpb_spec.specs.Pulses.{pulses_of, pulses_in}
use Rattle.mpb_report_line.specs.declared.report.Report.{Report}
use Rattle.mpb_replay_laws.specs.declared.verdict.BadWhy.{BadWhy}
use Rattle.mpb_replay_laws.specs.declared.verdict.Verdict.{Verdict}
use Rattle.mpb_replay_laws.specs.declared.verdict.Verdict.TheVariants.{Legal, Bad, Unfinished, Log, Accounts, State}
use Rattle.mpb_replay_laws.specs.Wrong.{IsFirstBad}
use Rattle.mpb_replay_laws.specs.Asked.{AllAccounted, HasPulses}
use Rattle.mpb_replay_laws.specs.Differences.{IsFirstDifference, IsFirstAble, IsFirstUnaccounted}
use Rattle.mpb_replay_laws.specs.Lines.{lines_in, lines_of}
use Rattle.mpb_replay_laws.specs.Verdict.{Applies, IsVerdict, verdict_number}
use Rattle.mpb_replay_laws.proofs.Reasons.{bad_is_not_legal}
use Rattle.mpb_replay_laws.proofs.Firsts.{none_differs}

none-some : (o : Op) (r : Option Op) → r ≡ None → r ≡ Some o → ⊥
none-some o r e f = (let t : None ≡ Some o = sym e ∙ f in cc)

-- where none may step there is no least that may
pub none_able : (s : BoardState) (g : Agent) → IsQuiescent s → ¬ IsFirstAble s g
none_able s g quiet able = none-some able.may.1.0 (next_op s g able.may.0) (quiet g able.may.0) able.may.1.1

pub bad : (c : Plan) (r : Report) (n : ℕ) (why : BadWhy) → IsFirstBad c r.entries n why → IsVerdict c r (Bad n why)
bad c r n why h = record { applies = h; first = λ w lt. absurd (omega (arith, lt)) }

pub unfinished : (c : Plan) (r : Report) (g : Agent) → IsLegal c r.entries → IsFirstAble (final_state_of c r.entries) g → IsVerdict c r (Unfinished g)
unfinished c r g legal h = record { applies = h; first = first } where
  first : (w : Verdict) → verdict_number w < 1 → ¬ Applies c r w
  first (Bad n why) lt b = bad_is_not_legal c r.entries n why b legal
  first w lt b = absurd (omega (arith, lt))

pub log : (c : Plan) (r : Report) (d : ℕ) → IsComplete c r.entries → IsFirstDifference (map pulses_of r.logs) (map pulses_in c.devices) d → IsVerdict c r (Log d)
log c r d complete h = record { applies = h; first = first } where
  first : (w : Verdict) → verdict_number w < 2 → ¬ Applies c r w
  first (Bad n why) lt b = bad_is_not_legal c r.entries n why b complete.legal
  first (Unfinished g) lt b = none_able (final_state_of c r.entries) g complete.quiescent b
  first w lt b = absurd (omega (arith, lt))

pub accounts : (c : Plan) (r : Report) (a pin : ℕ) → IsComplete c r.entries → HasPulses c r.logs → IsFirstUnaccounted c a pin r.entries r.logs → IsVerdict c r (Accounts a pin)
accounts c r a pin complete pulses h = record { applies = h; first = first } where
  first : (w : Verdict) → verdict_number w < 3 → ¬ Applies c r w
  first (Bad n why) lt b = bad_is_not_legal c r.entries n why b complete.legal
  first (Unfinished g) lt b = none_able (final_state_of c r.entries) g complete.quiescent b
  first (Log d) lt b = none_differs (map pulses_of r.logs) (map pulses_in c.devices) d pulses b
  first w lt b = absurd (omega (arith, lt))

pub state : (c : Plan) (r : Report) (n : ℕ) → IsComplete c r.entries → HasPulses c r.logs → AllAccounted c r.entries r.logs → IsFirstDifference (lines_in r) (lines_of (final_state_of c r.entries)) n → IsVerdict c r (State n)
state c r n complete pulses all h = record { applies = h; first = first } where
  first : (w : Verdict) → verdict_number w < 4 → ¬ Applies c r w
  first (Bad m why) lt b = bad_is_not_legal c r.entries m why b complete.legal
  first (Unfinished g) lt b = none_able (final_state_of c r.entries) g complete.quiescent b
  first (Log d) lt b = none_differs (map pulses_of r.logs) (map pulses_in c.devices) d pulses b
  first (Accounts a pin) lt b = b.wrong (all a pin b.place b.low)
  first w lt b = absurd (omega (arith, lt))

pub legal : (c : Plan) (r : Report) → IsComplete c r.entries → HasPulses c r.logs → AllAccounted c r.entries r.logs → lines_in r ≡ lines_of (final_state_of c r.entries) → IsVerdict c r Legal
legal c r complete pulses all lines = record { applies = tt; first = first } where
  first : (w : Verdict) → verdict_number w < 5 → ¬ Applies c r w
  first (Bad m why) lt b = bad_is_not_legal c r.entries m why b complete.legal
  first (Unfinished g) lt b = none_able (final_state_of c r.entries) g complete.quiescent b
  first (Log d) lt b = none_differs (map pulses_of r.logs) (map pulses_in c.devices) d pulses b
  first (Accounts a pin) lt b = b.wrong (all a pin b.place b.low)
  first (State n) lt b = none_differs (lines_in r) (lines_of (final_state_of c r.entries)) n lines b
  first Legal lt b = absurd (omega (arith, lt))
