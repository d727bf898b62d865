-- The verdict on a report of any origin (this project's own).
--     Applies c r v      the verdict applies to the report of a board of this plan
--     IsVerdict c r v    it is the first that applies
use Rattle.std.specs.Prelude.{◌<◌, ℕ, map}
use Rattle.mpb_spec.specs.Plan.{Plan}
use Rattle.mpb_spec.specs.Journal.{final_state_of}
use Rattle.mpb_spec.specs.Pulses.{pulses_of, pulses_in}
use Rattle.mpb_report_line.specs.declared.report.Report.{Report}
use Rattle.mpb_replay_laws.specs.declared.verdict.Verdict.{Verdict}
use Rattle.mpb_replay_laws.specs.declared.verdict.Verdict.TheVariants.{Legal, Bad, Unfinished, Log, Accounts, State}
use Rattle.mpb_replay_laws.specs.Wrong.{IsFirstBad}
use Rattle.mpb_replay_laws.specs.Differences.{IsFirstDifference, IsFirstAble, IsFirstUnaccounted}
use Rattle.mpb_replay_laws.specs.Lines.{lines_in, lines_of}

-- the verdict applies to the report of a board of the plan
abbrev pub Applies : Plan → Report → Verdict → Type 0
-- entry n is the first that is no step, and this is why
Applies c r (Bad n why) = IsFirstBad c r.entries n why
-- after all entries, this agent is the least that may step
Applies c r (Unfinished g) = IsFirstAble (final_state_of c r.entries) g
-- device d is the least whose log isn't its pulses, in order
Applies c r (Log d) = IsFirstDifference (map pulses_of r.logs) (map pulses_in c.devices) d
-- this pin is the least that isn't accounted for
Applies c r (Accounts a pin) = IsFirstUnaccounted c a pin r.entries r.logs
-- line n of the state is the first that isn't the board's after all entries
Applies c r (State n) = IsFirstDifference (lines_in r) (lines_of (final_state_of c r.entries)) n
-- always
Applies c r Legal = Unit {0}

-- the order of the verdicts
abbrev pub verdict_number : Verdict → ℕ
verdict_number (Bad n why) = 0
verdict_number (Unfinished g) = 1
verdict_number (Log d) = 2
verdict_number (Accounts a pin) = 3
verdict_number (State n) = 4
verdict_number Legal = 5

-- the verdict is the first that applies: none of those before it does
pub record IsVerdict (c : Plan) (r : Report) (v : Verdict) : Type 0 where
  pub applies : Applies c r v
  pub first : (w : Verdict) → verdict_number w < verdict_number v → ¬ Applies c r w
