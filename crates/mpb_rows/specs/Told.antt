-- A run as a row tells it: each offer's op and outcomes, or that it is refused, and the state at the end.
--     entries_of s offers    what comes of the offers, one after another
--     final_of s offers      the state that they leave
--     lines_of s             the state as a report's lines tell it
--     shown_of s             the whole state
use Rattle.std.specs.Prelude.{ℕ, Bool, List, [], ◌∷◌, Option, None, Some, map}
use Rattle.mpb_spec.specs.declared.agent.Agent.{Agent}
use Rattle.mpb_spec.specs.declared.agent.Offer.{Offer}
use Rattle.mpb_spec.specs.declared.agent.Offer.TheVariants.{Next}
use Rattle.mpb_spec.specs.declared.agent.Op.{Op}
use Rattle.mpb_spec.specs.declared.entry.Outcome.{Outcome}
use Rattle.mpb_spec.specs.declared.entry.What.{What}
use Rattle.mpb_spec.specs.declared.apic.Pin.{Pin}
use Rattle.mpb_spec.specs.declared.config.DevWord.{DevWord}
use Rattle.mpb_spec.specs.declared.config.Imcr.{Imcr}
use Rattle.mpb_spec.specs.declared.config.Life.{Life}
use Rattle.mpb_spec.specs.IoApic.{mask_by}
use Rattle.mpb_spec.specs.State.{Processor, Place, Device, BoardState}
use Rattle.mpb_spec.specs.Steps.{next_op, after}
use Rattle.mpb_spec.specs.Outcomes.{outcomes_of}
use Rattle.mpb_spec.specs.Plan.{Plan, CpuPlan, initial_state_of}
use Rattle.mpb_spec.specs.Asks.{any_step}

-- a processor of a board, written short
abbrev pub cpu : ℕ → ℕ → List Op → CpuPlan
cpu id version program = record { id = id; version = version; program = program }

-- the board of these fields
abbrev pub plan : ℕ → ℕ → List CpuPlan → List ℕ → Bool → List (List DevWord) → Plan
plan boot boot_len cpus ios imcr devices = record { boot = boot; boot_len = boot_len; cpus = cpus; ios = ios; imcr = imcr; devices = devices }

-- an outcome at a target
abbrev pub at : ℕ → What → Outcome
at id w = record { at = id; what = w }

-- an offer that is taken: its op and outcomes
abbrev pub told : Op → List Outcome → Option (Op × List Outcome)
told o os = Some (o, os)

-- one that isn't
abbrev pub refused : Option (Op × List Outcome)
refused = None

-- the state after one offer
abbrev pub state_of : Agent → Option Op → BoardState → BoardState
state_of g None s = s
state_of g (Some o) s = after g o s

-- what comes of one offer
abbrev pub told_of : Agent → Option Op → BoardState → Option (Op × List Outcome)
told_of g None s = None
told_of g (Some o) s = Some (o, outcomes_of g o s)

-- what comes of the offers, one after another
abbrev pub entries_of : BoardState → List (Agent × Offer) → List (Option (Op × List Outcome))
entries_of s [] = []
entries_of s (x ∷ xs) = told_of x.0 (next_op s x.0 x.1) s ∷ entries_of (state_of x.0 (next_op s x.0 x.1) s) xs

-- the state that they leave
abbrev pub final_of : BoardState → List (Agent × Offer) → BoardState
final_of s [] = s
final_of s (x ∷ xs) = final_of (state_of x.0 (next_op s x.0 x.1) s) xs

-- a processor, without what never changes
pub record ShownCpu : Type 0 where
  pub id : ℕ
  pub position : ℕ
  pub life : Life
  pub irr : List ℕ
  pub isr : List ℕ
  pub tmr : List ℕ
  pub tpr : ℕ
  pub ldr : ℕ
  pub dfr : ℕ

-- an I/O APIC, without what never changes
pub record ShownIo : Type 0 where
  pub index : ℕ
  pub id : ℕ
  pub arbitration : ℕ
  pub swept : Bool
  pub line : ℕ
  pub due : ℕ
  pub remote : ℕ
  pub halves : List (ℕ × ℕ)

-- all of it
pub record Shown : Type 0 where
  pub cpus : List ShownCpu
  pub ios : List ShownIo
  pub devices : List ℕ
  pub imcr : Imcr
  pub warm : Option ℕ

-- a processor's part, written short
abbrev pub shown : ℕ → ℕ → Life → List ℕ → List ℕ → List ℕ → ℕ → ℕ → ℕ → ShownCpu
shown id position life irr isr tmr tpr ldr dfr = record { id = id; position = position; life = life; irr = irr; isr = isr; tmr = tmr; tpr = tpr; ldr = ldr; dfr = dfr }

-- an I/O APIC's part
abbrev pub shown_io : ℕ → ℕ → ℕ → Bool → ℕ → ℕ → ℕ → List (ℕ × ℕ) → ShownIo
shown_io index id arbitration swept line due remote halves = record { index = index; id = id; arbitration = arbitration; swept = swept; line = line; due = due; remote = remote; halves = halves }

-- that of a processor
abbrev pub shown_cpu_of : Processor → ShownCpu
shown_cpu_of p = shown p.id p.position p.life p.apic.irr p.apic.isr p.apic.tmr p.apic.tpr p.apic.ldr p.apic.dfr

-- that of a place
abbrev pub shown_io_of : Place → ShownIo
shown_io_of p =
    shown_io p.chip.index p.chip.id p.chip.arbitration p.swept (mask_by (λ (q : Pin). q.line) p.chip.pins) (mask_by (λ (q : Pin). q.due) p.chip.pins) (mask_by (λ (q : Pin). q.remote) p.chip.pins) (map (λ (q : Pin). (q.low, q.high)) p.chip.pins)

-- that of a state
abbrev pub shown_of : BoardState → Shown
shown_of s = record { cpus = map shown_cpu_of s.processors; ios = map shown_io_of s.places; devices = map (λ (d : Device). d.position) s.devices; imcr = s.imcr; warm = s.warm }

-- a processor's line: its id, its life, its priority, and its requested, served and level-triggered vectors
pub record CpuLine : Type 0 where
  pub id : ℕ
  pub life : Life
  pub tpr : ℕ
  pub irr : List ℕ
  pub isr : List ℕ
  pub tmr : List ℕ

-- an I/O APIC's line: the masks of its asserted lines, due pins and remote IRR
pub record IoLine : Type 0 where
  pub line : ℕ
  pub due : ℕ
  pub remote : ℕ

-- the state lines of a report
pub record Lines : Type 0 where
  pub imcr : Imcr
  pub cpus : List CpuLine
  pub ios : List IoLine

-- a processor's line, written short
abbrev pub cpu_line : ℕ → Life → ℕ → List ℕ → List ℕ → List ℕ → CpuLine
cpu_line id life tpr irr isr tmr = record { id = id; life = life; tpr = tpr; irr = irr; isr = isr; tmr = tmr }

-- an I/O APIC's
abbrev pub io_line : ℕ → ℕ → ℕ → IoLine
io_line line due remote = record { line = line; due = due; remote = remote }

-- all of them
abbrev pub lines : Imcr → List CpuLine → List IoLine → Lines
lines imcr cpus ios = record { imcr = imcr; cpus = cpus; ios = ios }

-- that of a processor
abbrev pub cpu_line_of : Processor → CpuLine
cpu_line_of p = cpu_line p.id p.life p.apic.tpr p.apic.irr p.apic.isr p.apic.tmr

-- that of a place
abbrev pub io_line_of : Place → IoLine
io_line_of p = io_line (mask_by (λ (q : Pin). q.line) p.chip.pins) (mask_by (λ (q : Pin). q.due) p.chip.pins) (mask_by (λ (q : Pin). q.remote) p.chip.pins)

-- those of a state
abbrev pub lines_of : BoardState → Lines
lines_of s = lines s.imcr (map cpu_line_of s.processors) (map io_line_of s.places)

-- the agent's next op is offered
abbrev pub next : Agent → Agent × Offer
next g = (g, Next)

-- a board's run: the entries or refusals, the state lines at the end, and whether an agent may still step
pub record Run : Type 0 where
  pub entries : List (Option (Op × List Outcome))
  pub lines : Lines
  pub goes_on : Bool

-- the run of the offers from the opening state
abbrev pub run_of : Plan → List (Agent × Offer) → Run
run_of c offers =
    let s = final_of (initial_state_of c) offers in
    record { entries = entries_of (initial_state_of c) offers; lines = lines_of s; goes_on = any_step s }
