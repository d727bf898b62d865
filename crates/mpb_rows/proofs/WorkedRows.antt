-- Worked boards, entry by entry, with the state lines at the end. The check computes them.
use Rattle.std.proofs.Common.{◌≡◌, ◌++◌, true, false, List, [], ◌∷◌, replicate, refl}
use Rattle.mpb_spec.specs.declared.agent.Agent.TheVariants.{Cpu, Io, Dev}
use Rattle.mpb_spec.specs.declared.agent.Offer.TheVariants.{Collect, Sweep}
use Rattle.mpb_spec.specs.declared.agent.Op.{Op}
use Rattle.mpb_spec.specs.declared.agent.Op.TheVariants as op
use Rattle.mpb_spec.specs.declared.entry.What.TheVariants as what
use Rattle.mpb_spec.specs.declared.config.DevWord.TheVariants as word
use Rattle.mpb_spec.specs.declared.config.Imcr.TheVariants as imcr
use Rattle.mpb_spec.specs.declared.config.Life.TheVariants as life
use Rattle.mpb_spec.specs.Plan.{Plan}
use Rattle.mpb_rows.specs.Told.{plan, cpu, at, told, refused, next, lines, cpu_line, io_line, run_of}

-- two processors with STARTUP
two_processors : Plan
two_processors =
    plan 0 7
    (cpu 0 16 (op.Init 1 ∷ op.Pause 10000 ∷ op.Startup 1 0x9F ∷ op.Pause 200 ∷ op.Startup 1 0x9F ∷ op.Pause 200 ∷ op.Check 1 ∷ []) ∷ cpu 1 16 [] ∷ [])
    [] false []

starts_a_processor_once
    : run_of two_processors (replicate 7 (next (Cpu 0)))
    ≡ record {
      entries =
          told (op.Init 1) (at 1 what.Waiting ∷ [])
          ∷ told (op.Pause 10000) (at 0 what.Done ∷ [])
          ∷ told (op.Startup 1 0x9F) (at 1 (what.Started 0x9F) ∷ [])
          ∷ told (op.Pause 200) (at 0 what.Done ∷ [])
          ∷ told (op.Startup 1 0x9F) (at 1 what.Ignored ∷ [])
          ∷ told (op.Pause 200) (at 0 what.Done ∷ [])
          ∷ told (op.Check 1) (at 1 (what.Runs 0x9F) ∷ [])
          ∷ [];
      lines = lines imcr.Absent (cpu_line 0 life.First 0 [] [] [] ∷ cpu_line 1 (life.Started 0x9F) 0 [] [] [] ∷ []) [];
      goes_on = false;
    }
unfolding two_processors
starts_a_processor_once = refl

-- an old processor, and one that isn't present
old_and_absent : Plan
old_and_absent =
    plan 0 11
    (cpu 0 16
    (op.Warm 0x9F ∷ op.Init 1 ∷ op.Pause 10000 ∷ op.Check 1
    ∷ op.Init 2 ∷ op.Pause 10000 ∷ op.Startup 2 0x9F ∷ op.Pause 200 ∷ op.Startup 2 0x9F ∷ op.Pause 200 ∷ op.Check 2 ∷ [])
    ∷ cpu 1 1 [] ∷ [])
    [] false []

starts_an_old_processor_by_its_vector
    : run_of old_and_absent (replicate 11 (next (Cpu 0)))
    ≡ record {
      entries =
          told (op.Warm 0x9F) (at 0 what.Done ∷ [])
          ∷ told (op.Init 1) (at 1 (what.Started 0x9F) ∷ [])
          ∷ told (op.Pause 10000) (at 0 what.Done ∷ [])
          ∷ told (op.Check 1) (at 1 (what.Runs 0x9F) ∷ [])
          ∷ told (op.Init 2) (at 2 what.Absent ∷ [])
          ∷ told (op.Pause 10000) (at 0 what.Done ∷ [])
          ∷ told (op.Startup 2 0x9F) (at 2 what.Absent ∷ [])
          ∷ told (op.Pause 200) (at 0 what.Done ∷ [])
          ∷ told (op.Startup 2 0x9F) (at 2 what.Absent ∷ [])
          ∷ told (op.Pause 200) (at 0 what.Done ∷ [])
          ∷ told (op.Check 2) (at 2 what.Absent ∷ [])
          ∷ [];
      lines = lines imcr.Absent (cpu_line 0 life.First 0 [] [] [] ∷ cpu_line 1 (life.Started 0x9F) 0 [] [] [] ∷ []) [];
      goes_on = false;
    }
unfolding old_and_absent
starts_an_old_processor_by_its_vector = refl

-- one processor with this script, and pin 1 an edge pin of vector 21h on which three devices pulse
three_pulses : List Op → Plan
three_pulses script =
    plan 0 4
    (cpu 0 16 (op.IoSel 0 0x13 ∷ op.IoWin 0 0 ∷ op.IoSel 0 0x12 ∷ op.IoWin 0 0x21 ∷ script) ∷ [])
    (1 ∷ []) false
    ((word.Pulse 0 1 ∷ []) ∷ (word.Pulse 0 1 ∷ []) ∷ (word.Pulse 0 1 ∷ []) ∷ [])

gathers_three_pulses
    : run_of (three_pulses (op.Take ∷ op.Eoi ∷ []))
    (replicate 4 (next (Cpu 0))
    ++ (next (Dev 0) ∷ next (Dev 1) ∷ next (Dev 2) ∷ (Io 0, Collect 2) ∷ next (Dev 0) ∷ next (Dev 1) ∷ next (Dev 2)
    ∷ next (Io 0) ∷ next (Cpu 0) ∷ (Io 0, Sweep) ∷ next (Cpu 0) ∷ []))
    ≡ record {
      entries =
          told (op.IoSel 0 0x13) (at 0 what.Done ∷ [])
          ∷ told (op.IoWin 0 0) (at 0 what.Plain ∷ [])
          ∷ told (op.IoSel 0 0x12) (at 0 what.Done ∷ [])
          ∷ told (op.IoWin 0 0x21) (at 0 what.Plain ∷ [])
          ∷ told op.Begin (at 0 what.Done ∷ [])
          ∷ told op.Begin (at 0 what.Done ∷ [])
          ∷ told op.Begin (at 0 what.Done ∷ [])
          ∷ told (op.Collect 2) (at 0 (what.Pins 2 0) ∷ [])
          ∷ told op.End (at 0 what.Done ∷ [])
          ∷ told op.End (at 0 what.Done ∷ [])
          ∷ told op.End (at 0 what.Done ∷ [])
          ∷ told (op.Send 1) (at 0 what.Set ∷ [])
          ∷ told op.Take (at 0 (what.Taken 0x21) ∷ [])
          ∷ told op.Sweep (at 0 what.Done ∷ [])
          ∷ told op.Eoi (at 0 (what.Ended 0x21 false) ∷ [])
          ∷ [];
      lines = lines imcr.Absent (cpu_line 0 life.First 0 [] [] [] ∷ []) (io_line 0 0 0 ∷ []);
      goes_on = false;
    }
unfolding three_pulses
gathers_three_pulses = refl

-- with a further take the processor waits at its last word, and no agent may step
waits_at_its_last_take
    : run_of (three_pulses (op.Take ∷ op.Eoi ∷ op.Take ∷ []))
    (replicate 4 (next (Cpu 0))
    ++ (next (Dev 0) ∷ next (Dev 1) ∷ next (Dev 2) ∷ (Io 0, Collect 2) ∷ next (Dev 0) ∷ next (Dev 1) ∷ next (Dev 2)
    ∷ next (Io 0) ∷ next (Cpu 0) ∷ (Io 0, Sweep) ∷ next (Cpu 0) ∷ next (Cpu 0) ∷ []))
    ≡ record {
      entries =
          told (op.IoSel 0 0x13) (at 0 what.Done ∷ [])
          ∷ told (op.IoWin 0 0) (at 0 what.Plain ∷ [])
          ∷ told (op.IoSel 0 0x12) (at 0 what.Done ∷ [])
          ∷ told (op.IoWin 0 0x21) (at 0 what.Plain ∷ [])
          ∷ told op.Begin (at 0 what.Done ∷ [])
          ∷ told op.Begin (at 0 what.Done ∷ [])
          ∷ told op.Begin (at 0 what.Done ∷ [])
          ∷ told (op.Collect 2) (at 0 (what.Pins 2 0) ∷ [])
          ∷ told op.End (at 0 what.Done ∷ [])
          ∷ told op.End (at 0 what.Done ∷ [])
          ∷ told op.End (at 0 what.Done ∷ [])
          ∷ told (op.Send 1) (at 0 what.Set ∷ [])
          ∷ told op.Take (at 0 (what.Taken 0x21) ∷ [])
          ∷ told op.Sweep (at 0 what.Done ∷ [])
          ∷ told op.Eoi (at 0 (what.Ended 0x21 false) ∷ [])
          ∷ refused
          ∷ [];
      lines = lines imcr.Absent (cpu_line 0 life.First 0 [] [] [] ∷ []) (io_line 0 0 0 ∷ []);
      goes_on = false;
    }
unfolding three_pulses
waits_at_its_last_take = refl

-- a register read, and a poll before a pulse is collected
reads_the_version
    : run_of (three_pulses (op.IoSel 0 1 ∷ op.IoRead 0 ∷ op.Poll ∷ [])) (replicate 7 (next (Cpu 0)))
    ≡ record {
      entries =
          told (op.IoSel 0 0x13) (at 0 what.Done ∷ [])
          ∷ told (op.IoWin 0 0) (at 0 what.Plain ∷ [])
          ∷ told (op.IoSel 0 0x12) (at 0 what.Done ∷ [])
          ∷ told (op.IoWin 0 0x21) (at 0 what.Plain ∷ [])
          ∷ told (op.IoSel 0 1) (at 0 what.Done ∷ [])
          ∷ told (op.IoRead 0) (at 0 (what.Read 0x170011) ∷ [])
          ∷ told op.Poll (at 0 what.Nothing ∷ [])
          ∷ [];
      lines = lines imcr.Absent (cpu_line 0 life.First 0 [] [] [] ∷ []) (io_line 0 0 0 ∷ []);
      goes_on = true;
    }
unfolding three_pulses
reads_the_version = refl

-- one processor that takes and ends an interrupt, and pin 16 a low-active level pin of vector 30h which a device drives
level_pin : List Rattle.mpb_spec.specs.declared.config.DevWord.DevWord → Plan
level_pin words =
    plan 0 4
    (cpu 0 16 (op.IoSel 0 0x31 ∷ op.IoWin 0 0 ∷ op.IoSel 0 0x30 ∷ op.IoWin 0 0xA030 ∷ op.Take ∷ op.Eoi ∷ []) ∷ [])
    (1 ∷ []) false (words ∷ [])

sends_again_while_the_line_stays_high
    : run_of (level_pin (word.High 0 16 ∷ []))
    (replicate 4 (next (Cpu 0))
    ++ (next (Dev 0) ∷ next (Dev 0) ∷ next (Io 0) ∷ next (Dev 0) ∷ next (Cpu 0) ∷ (Io 0, Sweep) ∷ next (Cpu 0) ∷ next (Io 0) ∷ []))
    ≡ record {
      entries =
          told (op.IoSel 0 0x31) (at 0 what.Done ∷ [])
          ∷ told (op.IoWin 0 0) (at 0 what.Plain ∷ [])
          ∷ told (op.IoSel 0 0x30) (at 0 what.Done ∷ [])
          ∷ told (op.IoWin 0 0xA030) (at 0 what.Plain ∷ [])
          ∷ told op.Begin (at 0 what.Done ∷ [])
          ∷ told (op.High 0 16) (at 0 what.Due ∷ [])
          ∷ told (op.Send 16) (at 0 what.Set ∷ [])
          ∷ told op.End (at 0 what.Done ∷ [])
          ∷ told op.Take (at 0 (what.Taken 0x30) ∷ [])
          ∷ told op.Sweep (at 0 what.Done ∷ [])
          ∷ told op.Eoi (at 0 (what.Ended 0x30 true) ∷ [])
          ∷ told (op.Send 16) (at 0 what.Set ∷ [])
          ∷ [];
      lines = lines imcr.Absent (cpu_line 0 life.First 0 (0x30 ∷ []) [] (0x30 ∷ []) ∷ []) (io_line 0x10000 0 0x10000 ∷ []);
      goes_on = false;
    }
unfolding level_pin
sends_again_while_the_line_stays_high = refl

-- the line falls before the end of interrupt: one send
sends_once_where_the_line_falls
    : run_of (level_pin (word.High 0 16 ∷ word.Low 0 16 ∷ []))
    (replicate 4 (next (Cpu 0))
    ++ (next (Dev 0) ∷ next (Dev 0) ∷ next (Io 0) ∷ next (Dev 0) ∷ next (Cpu 0) ∷ next (Dev 0) ∷ next (Cpu 0) ∷ (Io 0, Sweep) ∷ next (Io 0) ∷ []))
    ≡ record {
      entries =
          told (op.IoSel 0 0x31) (at 0 what.Done ∷ [])
          ∷ told (op.IoWin 0 0) (at 0 what.Plain ∷ [])
          ∷ told (op.IoSel 0 0x30) (at 0 what.Done ∷ [])
          ∷ told (op.IoWin 0 0xA030) (at 0 what.Plain ∷ [])
          ∷ told op.Begin (at 0 what.Done ∷ [])
          ∷ told (op.High 0 16) (at 0 what.Due ∷ [])
          ∷ told (op.Send 16) (at 0 what.Set ∷ [])
          ∷ told (op.Low 0 16) (at 0 what.Plain ∷ [])
          ∷ told op.Take (at 0 (what.Taken 0x30) ∷ [])
          ∷ told op.End (at 0 what.Done ∷ [])
          ∷ told op.Eoi (at 0 (what.Ended 0x30 true) ∷ [])
          ∷ told op.Sweep (at 0 what.Done ∷ [])
          ∷ refused
          ∷ [];
      lines = lines imcr.Absent (cpu_line 0 life.First 0 [] [] (0x30 ∷ []) ∷ []) (io_line 0 0 0 ∷ []);
      goes_on = false;
    }
unfolding level_pin
sends_once_where_the_line_falls = refl
