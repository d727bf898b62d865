-- Which values the lines of a report can say.
--     IsRightEntry x, IsRightLog log, IsRightCpu p, IsRightIo x   the line of this value is right
use Rattle.std.specs.Prelude.{◌≡◌, ℕ, ◌^◌, ◌<◌, ◌≤◌, ◌⊎◌, Bool, true, false, List, length, ⊤}
use Rattle.std.specs.List.{AllByRecursion}
use Rattle.mpb_spec.specs.declared.agent.Agent.{Agent}
use Rattle.mpb_spec.specs.declared.agent.Agent.TheVariants.{Cpu, Io, Dev}
use Rattle.mpb_spec.specs.declared.agent.Op.{Op}
use Rattle.mpb_spec.specs.declared.agent.Op.TheVariants as op
use Rattle.mpb_spec.specs.declared.entry.Entry.{Entry}
use Rattle.mpb_spec.specs.declared.entry.Outcome.{Outcome}
use Rattle.mpb_spec.specs.declared.entry.What.{What}
use Rattle.mpb_spec.specs.declared.entry.What.TheVariants as what
use Rattle.mpb_spec.specs.declared.config.Life.{Life}
use Rattle.mpb_spec.specs.declared.config.Life.TheVariants as life
use Rattle.mpb_spec.specs.declared.config.Imcr.{Imcr}
use Rattle.mpb_spec.specs.Numbers.{IsAscending}
use Rattle.mpb_spec.specs.declared.pulse.Pulse.{Pulse}
use Rattle.mpb_spec.specs.declared.pulse.Hit.{Hit}
use Rattle.mpb_spec.specs.Pulses.{IsInRange}
use Rattle.mpb_report_spec.specs.EntryLines.{has_target}
use Rattle.mpb_report_line.specs.declared.report.CpuLine.{CpuLine}
use Rattle.mpb_report_line.specs.declared.report.IoLine.{IoLine}

-- an agent: an id of eight bits, or one of four places or devices
abbrev pub IsRightAgent : Agent → Type 0
IsRightAgent (Cpu id) = id < 256
IsRightAgent (Io a) = a < 4
IsRightAgent (Dev d) = d < 4

-- the numbers of an op: four places, 24 pins, two models of logical destinations, all else as wide as its digits; a time has
-- 32 bits
abbrev pub IsRightOp : Op → Type 0
IsRightOp op.Imcr = ⊤
IsRightOp (op.Warm page) = page < 256
IsRightOp (op.Init d) = d < 256
IsRightOp (op.Startup d page) = (d < 256) × (page < 256)
IsRightOp (op.Check d) = d < 256
IsRightOp (op.Ipi d v) = (d < 256) × (v < 256)
IsRightOp (op.Ipl d v) = (d < 256) × (v < 256)
IsRightOp (op.Nmi d) = d < 256
IsRightOp op.Take = ⊤
IsRightOp op.Poll = ⊤
IsRightOp op.Eoi = ⊤
IsRightOp (op.Tpr n) = n < 256
IsRightOp (op.Ldr n) = n < 256
IsRightOp (op.Dfr n) = (n ≡ 0) ⊎ (n ≡ 15)
IsRightOp (op.IoSel a r) = (a < 4) × (r < 256)
IsRightOp (op.IoWin a v) = (a < 4) × (v < 2 ^ 32)
IsRightOp (op.IoRead a) = a < 4
IsRightOp (op.Pause t) = t < 2 ^ 32
IsRightOp op.Begin = ⊤
IsRightOp (op.High a pin) = (a < 4) × (pin < 24)
IsRightOp (op.Low a pin) = (a < 4) × (pin < 24)
IsRightOp op.End = ⊤
IsRightOp (op.Collect pins) = pins < 2 ^ 24
IsRightOp (op.Send pin) = pin < 24
IsRightOp op.Sweep = ⊤

-- the numbers of what came of an op
abbrev pub IsRightWhat : What → Type 0
IsRightWhat (what.Started page) = page < 256
IsRightWhat (what.Runs page) = page < 256
IsRightWhat (what.Taken v) = v < 256
IsRightWhat (what.Ended v level) = v < 256
IsRightWhat (what.Read v) = v < 2 ^ 32
IsRightWhat (what.Pins due joined) = (due < 2 ^ 24) × (joined < 2 ^ 24)
IsRightWhat w = ⊤

-- an outcome: the id of its target, 0 where it has none
abbrev pub IsRightTarget : Bool → ℕ → Type 0
IsRightTarget true at = at < 256
IsRightTarget false at = at ≡ 0

abbrev pub IsRightOutcome : Outcome → Type 0
IsRightOutcome o = IsRightTarget (has_target o.what) o.at × IsRightWhat o.what

-- an entry: one outcome to eight
pub record IsRightEntry (x : Entry) : Type 0 where
  pub agent : IsRightAgent x.agent
  pub op : IsRightOp x.op
  pub some : 1 ≤ length x.outcomes.items
  pub few : length x.outcomes.items ≤ 8
  pub outcomes : AllByRecursion IsRightOutcome x.outcomes.items

-- a log: its pulses are on pins of four I/O APICs
abbrev pub IsRightLog : List (Pulse × Hit) → Type 0
IsRightLog log = AllByRecursion (λ x. IsInRange 4 x.0) log

-- a processor's life
abbrev pub IsRightLife : Life → Type 0
IsRightLife (life.Started page) = page < 256
IsRightLife l = ⊤

-- vectors: strictly ascending, of eight bits
abbrev pub AreRightVectors : List ℕ → Type 0
AreRightVectors vs = IsAscending vs × AllByRecursion (λ v. v < 256) vs

-- a processor
pub record IsRightCpu (p : CpuLine) : Type 0 where
  pub id : p.id < 256
  pub life : IsRightLife p.life
  pub tpr : p.tpr < 256
  pub irr : AreRightVectors p.irr
  pub isr : AreRightVectors p.isr
  pub tmr : AreRightVectors p.tmr

-- an I/O APIC: three sets of 24 pins
abbrev pub IsRightIo : IoLine → Type 0
IsRightIo x = (x.line < 2 ^ 24) × (x.due < 2 ^ 24) × (x.remote < 2 ^ 24)

-- every value of the interrupt mode register
abbrev pub IsRightImcr : Imcr → Type 0
IsRightImcr r = ⊤
