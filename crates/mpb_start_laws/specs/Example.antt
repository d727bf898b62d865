-- A worked boot: processor 0 starts processor 1, whose local APIC has version 14h, by INIT and STARTUP, and processor 2, of
-- version 1, by the warm-reset vector and INIT (MultiProcessor Specification 1.4, appendix B.4), both at page 8.
--     small_boot        the board, with one I/O APIC and no device
--     small_journal     a complete journal of it
use Rattle.std.specs.Prelude.{ℕ, List, [], ◌∷◌, false}
use Rattle.mpb_spec.specs.declared.agent.Agent.{Agent}
use Rattle.mpb_spec.specs.declared.agent.Agent.TheVariants.{Cpu, Io}
use Rattle.mpb_spec.specs.declared.agent.Op.{Op}
use Rattle.mpb_spec.specs.declared.agent.Op.TheVariants as op
use Rattle.mpb_spec.specs.declared.entry.Entry.{Entry}
use Rattle.mpb_spec.specs.declared.entry.What.{What}
use Rattle.mpb_spec.specs.declared.entry.What.TheVariants as what
use Rattle.mpb_spec.specs.Plan.{Plan, CpuPlan}

-- the boot processor: the second STARTUP is ignored
abbrev pub small_first : CpuPlan
small_first = record { id = 0; version = 20; program = op.Init 1 ∷ op.Startup 1 8 ∷ op.Startup 1 8 ∷ op.Warm 8 ∷ op.Init 2 ∷ op.Check 2 ∷ [] }

-- the new one, which waits for an interrupt that never comes
abbrev pub small_new : CpuPlan
small_new = record { id = 1; version = 20; program = op.Take ∷ [] }

-- the old one
abbrev pub small_old : CpuPlan
small_old = record { id = 2; version = 1; program = [] }

-- the board
abbrev pub small_boot : Plan
small_boot = record { boot = 0; boot_len = 6; cpus = small_first ∷ small_new ∷ small_old ∷ []; ios = 4 ∷ []; imcr = false; devices = [] }

-- an entry with one outcome
abbrev pub small_entry : Agent → Op → ℕ → What → Entry
small_entry g o at w = record { agent = g; op = o; outcomes = record { items = record { at = at; what = w } ∷ [] } }

-- its journal
abbrev pub small_journal : List Entry
small_journal =
    small_entry (Cpu 0) (op.Init 1) 1 what.Waiting
    ∷ small_entry (Cpu 0) (op.Startup 1 8) 1 (what.Started 8)
    ∷ small_entry (Cpu 0) (op.Startup 1 8) 1 what.Ignored
    ∷ small_entry (Cpu 0) (op.Warm 8) 0 what.Done
    ∷ small_entry (Io 0) op.Sweep 0 what.Done
    ∷ small_entry (Cpu 0) (op.Init 2) 2 (what.Started 8)
    ∷ small_entry (Cpu 0) (op.Check 2) 2 (what.Runs 8)
    ∷ []
