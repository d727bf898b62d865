-- The line of an entry of a journal, this project's own: who made the step, its op, and what came of it at each target.
--     agent_text g       who makes a step
--     op_text o          an op, with its numbers
--     what_text w        what came of it
--     outcome_text o     the same, after the id of the target where there is one
--     entry_line k x     the line of entry k
use Rattle.std.specs.Prelude.{ℕ, Bool, true, false, List, [], ◌∷◌, ◌++◌, codes, decimal, if◌then◌else◌}
use Rattle.std.specs.List.{concat, flat_map}
use Rattle.mpt_listing.specs.Listing.{line, hex}
use Rattle.mpb_spec.specs.declared.agent.Agent.{Agent}
use Rattle.mpb_spec.specs.declared.agent.Agent.TheVariants.{Cpu, Io, Dev}
use Rattle.mpb_spec.specs.declared.agent.Op.{Op}
use Rattle.mpb_spec.specs.declared.agent.Op.TheVariants as op
use Rattle.mpb_spec.specs.declared.entry.Entry.{Entry}
use Rattle.mpb_spec.specs.declared.entry.Outcome.{Outcome}
use Rattle.mpb_spec.specs.declared.entry.What.{What}
use Rattle.mpb_spec.specs.declared.entry.What.TheVariants as what

-- who makes a step: a processor by its id, an I/O APIC by its place, a device by its number
abbrev pub agent_text : Agent → List ℕ
agent_text (Cpu id) = concat (codes "cpu " ∷ hex 2 id ∷ [])
agent_text (Io a) = concat (codes "io " ∷ decimal a ∷ [])
agent_text (Dev d) = concat (codes "dev " ∷ decimal d ∷ [])

-- an op and its numbers: places, pins and times in decimal, ids, vectors, pages, registers, values and masks in hexadecimal
abbrev pub op_text : Op → List ℕ
op_text op.Imcr = codes "imcr"
op_text (op.Warm page) = concat (codes "warm " ∷ hex 2 page ∷ [])
op_text (op.Init d) = concat (codes "init " ∷ hex 2 d ∷ [])
op_text (op.Startup d page) = concat (codes "startup " ∷ hex 2 d ∷ codes " " ∷ hex 2 page ∷ [])
op_text (op.Check d) = concat (codes "check " ∷ hex 2 d ∷ [])
op_text (op.Ipi d v) = concat (codes "ipi " ∷ hex 2 d ∷ codes " " ∷ hex 2 v ∷ [])
op_text (op.Ipl d v) = concat (codes "ipl " ∷ hex 2 d ∷ codes " " ∷ hex 2 v ∷ [])
op_text (op.Nmi d) = concat (codes "nmi " ∷ hex 2 d ∷ [])
op_text op.Take = codes "take"
op_text op.Poll = codes "poll"
op_text op.Eoi = codes "eoi"
op_text (op.Tpr n) = concat (codes "tpr " ∷ hex 2 n ∷ [])
op_text (op.Ldr n) = concat (codes "ldr " ∷ hex 2 n ∷ [])
op_text (op.Dfr n) = concat (codes "dfr " ∷ hex 2 n ∷ [])
op_text (op.IoSel a r) = concat (codes "iosel " ∷ decimal a ∷ codes " " ∷ hex 2 r ∷ [])
op_text (op.IoWin a v) = concat (codes "iowin " ∷ decimal a ∷ codes " " ∷ hex 8 v ∷ [])
op_text (op.IoRead a) = concat (codes "ioread " ∷ decimal a ∷ [])
op_text (op.Pause t) = concat (codes "pause " ∷ decimal t ∷ [])
op_text op.Begin = codes "begin"
op_text (op.High a pin) = concat (codes "high " ∷ decimal a ∷ codes " " ∷ decimal pin ∷ [])
op_text (op.Low a pin) = concat (codes "low " ∷ decimal a ∷ codes " " ∷ decimal pin ∷ [])
op_text op.End = codes "end"
op_text (op.Collect pins) = concat (codes "collect " ∷ hex 6 pins ∷ [])
op_text (op.Send pin) = concat (codes "send " ∷ decimal pin ∷ [])
op_text op.Sweep = codes "sweep"

-- how an interrupt was triggered
abbrev pub trigger_text : Bool → List ℕ
trigger_text true = codes "level"
trigger_text false = codes "edge"

-- what came of an op
abbrev pub what_text : What → List ℕ
what_text what.Done = codes "done"
what_text what.Set = codes "set"
what_text what.Merged = codes "merged"
what_text what.Illegal = codes "illegal"
what_text what.Asleep = codes "asleep"
what_text what.Absent = codes "absent"
what_text what.Waiting = codes "waiting"
what_text (what.Started page) = concat (codes "started." ∷ hex 2 page ∷ [])
what_text what.Ignored = codes "ignored"
what_text what.Nmi = codes "nmi"
what_text what.Passed = codes "passed"
what_text what.Unheard = codes "unheard"
what_text (what.Runs page) = concat (codes "runs." ∷ hex 2 page ∷ [])
what_text what.RunsFirst = codes "runs.first"
what_text (what.Taken v) = concat (codes "taken." ∷ hex 2 v ∷ [])
what_text what.Nothing = codes "nothing"
what_text (what.Ended v level) = concat (codes "ended." ∷ hex 2 v ∷ codes "." ∷ trigger_text level ∷ [])
what_text what.Plain = codes "plain"
what_text what.Due = codes "due"
what_text what.Withdrawn = codes "withdrawn"
what_text (what.Read v) = concat (codes "read." ∷ hex 8 v ∷ [])
what_text (what.Pins due joined) = concat (codes "pins." ∷ hex 6 due ∷ codes "." ∷ hex 6 joined ∷ [])

-- it came so at a target
abbrev pub has_target : What → Bool
has_target what.Set = true
has_target what.Merged = true
has_target what.Illegal = true
has_target what.Asleep = true
has_target what.Absent = true
has_target what.Waiting = true
has_target (what.Started page) = true
has_target what.Ignored = true
has_target what.Nmi = true
has_target what.Passed = true
has_target (what.Runs page) = true
has_target what.RunsFirst = true
has_target w = false

-- an outcome: after the id of its target where there is one
abbrev pub outcome_text : Outcome → List ℕ
outcome_text o = if has_target o.what then concat (hex 2 o.at ∷ codes "=" ∷ what_text o.what ∷ []) else what_text o.what

-- an outcome after a space
abbrev pub further_outcome : Outcome → List ℕ
further_outcome o = codes " " ++ outcome_text o

-- the line of entry k, counted from 0
abbrev pub entry_line : ℕ → Entry → List ℕ
entry_line k x = line (decimal k ∷ codes " " ∷ agent_text x.agent ∷ codes " " ∷ op_text x.op ∷ codes " :" ∷ flat_map further_outcome x.outcomes.items ∷ [])
