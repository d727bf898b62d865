-- Worked boards of logical destinations and of lowest priority (Intel SDM volume 3, sections 10.6.2.2 and 10.6.2.4), entry by
-- entry. The check computes them.
use Rattle.std.proofs.Common.{◌≡◌, ◌++◌, true, false, List, [], ◌∷◌, ℕ, replicate, refl}
use Rattle.mpb_spec.specs.declared.agent.Agent.TheVariants.{Cpu, Io, Dev}
use Rattle.mpb_spec.specs.declared.agent.Offer.TheVariants.{Collect, Sweep}
use Rattle.mpb_spec.specs.declared.agent.Op.{Op}
use Rattle.mpb_spec.specs.declared.agent.Op.TheVariants as op
use Rattle.mpb_spec.specs.declared.entry.What.TheVariants as what
use Rattle.mpb_spec.specs.declared.config.DevWord.TheVariants as word
use Rattle.mpb_spec.specs.declared.config.Imcr.TheVariants as imcr
use Rattle.mpb_spec.specs.declared.config.Life.TheVariants as life
use Rattle.mpb_spec.specs.Plan.{Plan}
use Rattle.mpb_rows.specs.Told.{plan, cpu, at, told, refused, next, lines, cpu_line, io_line, run_of}

-- three processors, of which the first starts the others, with these scripts
three_of : List Op → List Op → List Op → Plan
three_of first second third =
    plan 0 4
    (cpu 0 16 (op.Init 1 ∷ op.Startup 1 0x9F ∷ op.Init 2 ∷ op.Startup 2 0x9F ∷ first) ∷ cpu 1 16 second ∷ cpu 2 16 third ∷ [])
    [] false []

-- the flat model: each processor has a bit of its own, and the third none
flat_model
    : run_of (three_of (op.Ldr 1 ∷ op.Ipl 3 0x40 ∷ op.Ipl 3 0x40 ∷ op.Ipl 8 0x40 ∷ op.Ipl 255 0x41 ∷ op.Ipl 2 0x0F ∷ []) (op.Ldr 2 ∷ []) [])
    (replicate 4 (next (Cpu 0)) ++ (next (Cpu 1) ∷ replicate 6 (next (Cpu 0))))
    ≡ record {
      entries =
          told (op.Init 1) (at 1 what.Waiting ∷ [])
          ∷ told (op.Startup 1 0x9F) (at 1 (what.Started 0x9F) ∷ [])
          ∷ told (op.Init 2) (at 2 what.Waiting ∷ [])
          ∷ told (op.Startup 2 0x9F) (at 2 (what.Started 0x9F) ∷ [])
          ∷ told (op.Ldr 2) (at 0 what.Done ∷ [])
          ∷ told (op.Ldr 1) (at 0 what.Done ∷ [])
          ∷ told (op.Ipl 3 0x40) (at 0 what.Set ∷ at 1 what.Set ∷ [])
          ∷ told (op.Ipl 3 0x40) (at 0 what.Merged ∷ at 1 what.Merged ∷ [])
          ∷ told (op.Ipl 8 0x40) (at 8 what.Absent ∷ [])
          ∷ told (op.Ipl 255 0x41) (at 0 what.Set ∷ at 1 what.Set ∷ at 2 what.Set ∷ [])
          ∷ told (op.Ipl 2 0x0F) (at 1 what.Illegal ∷ [])
          ∷ [];
      lines =
          lines imcr.Absent
          (cpu_line 0 life.First 0 (0x40 ∷ 0x41 ∷ []) [] [] ∷ cpu_line 1 (life.Started 0x9F) 0 (0x40 ∷ 0x41 ∷ []) [] [] ∷ cpu_line 2 (life.Started 0x9F) 0 (0x41 ∷ []) [] [] ∷ [])
          [];
      goes_on = false;
    }
unfolding three_of
flat_model = refl

-- the cluster model: two processors of cluster 1, and one of cluster 2
cluster_model
    : run_of
    (three_of
    (op.Dfr 0 ∷ op.Ldr 0x11 ∷ op.Ipl 0x13 0x40 ∷ op.Ipl 0x23 0x40 ∷ op.Ipl 0x14 0x40 ∷ op.Ipl 0x33 0x40 ∷ op.Ipl 255 0x41 ∷ [])
    (op.Dfr 0 ∷ op.Ldr 0x12 ∷ []) (op.Dfr 0 ∷ op.Ldr 0x21 ∷ []))
    (replicate 4 (next (Cpu 0)) ++ (replicate 2 (next (Cpu 1)) ++ (replicate 2 (next (Cpu 2)) ++ replicate 7 (next (Cpu 0)))))
    ≡ record {
      entries =
          told (op.Init 1) (at 1 what.Waiting ∷ [])
          ∷ told (op.Startup 1 0x9F) (at 1 (what.Started 0x9F) ∷ [])
          ∷ told (op.Init 2) (at 2 what.Waiting ∷ [])
          ∷ told (op.Startup 2 0x9F) (at 2 (what.Started 0x9F) ∷ [])
          ∷ told (op.Dfr 0) (at 0 what.Done ∷ [])
          ∷ told (op.Ldr 0x12) (at 0 what.Done ∷ [])
          ∷ told (op.Dfr 0) (at 0 what.Done ∷ [])
          ∷ told (op.Ldr 0x21) (at 0 what.Done ∷ [])
          ∷ told (op.Dfr 0) (at 0 what.Done ∷ [])
          ∷ told (op.Ldr 0x11) (at 0 what.Done ∷ [])
          ∷ told (op.Ipl 0x13 0x40) (at 0 what.Set ∷ at 1 what.Set ∷ [])
          ∷ told (op.Ipl 0x23 0x40) (at 2 what.Set ∷ [])
          ∷ told (op.Ipl 0x14 0x40) (at 0x14 what.Absent ∷ [])
          ∷ told (op.Ipl 0x33 0x40) (at 0x33 what.Absent ∷ [])
          ∷ told (op.Ipl 255 0x41) (at 0 what.Set ∷ at 1 what.Set ∷ at 2 what.Set ∷ [])
          ∷ [];
      lines =
          lines imcr.Absent
          (cpu_line 0 life.First 0 (0x40 ∷ 0x41 ∷ []) [] [] ∷ cpu_line 1 (life.Started 0x9F) 0 (0x40 ∷ 0x41 ∷ []) [] [] ∷ cpu_line 2 (life.Started 0x9F) 0 (0x40 ∷ 0x41 ∷ []) [] [] ∷ [])
          [];
      goes_on = false;
    }
unfolding three_of
cluster_model = refl

-- a logical message to a processor that is asleep
asleep_by_its_bit
    : run_of (plan 0 0 (cpu 0 16 (op.Ldr 1 ∷ op.Ipl 255 0x40 ∷ []) ∷ cpu 1 16 [] ∷ []) [] false []) (replicate 2 (next (Cpu 0)))
    ≡ record {
      entries = told (op.Ldr 1) (at 0 what.Done ∷ []) ∷ told (op.Ipl 255 0x40) (at 0 what.Set ∷ at 1 what.Asleep ∷ []) ∷ [];
      lines = lines imcr.Absent (cpu_line 0 life.First 0 (0x40 ∷ []) [] [] ∷ cpu_line 1 life.Asleep 0 [] [] [] ∷ []) [];
      goes_on = false;
    }
asleep_by_its_bit = refl

-- two processors that run, with these scripts, and pin 1 with these halves, whose line a device asserts
two_on_a_pin : ℕ → ℕ → List Op → List Op → Plan
two_on_a_pin high low first second =
    plan 0 6
    (cpu 0 16 (op.Init 1 ∷ op.Startup 1 0x9F ∷ op.IoSel 0 0x13 ∷ op.IoWin 0 high ∷ op.IoSel 0 0x12 ∷ op.IoWin 0 low ∷ first) ∷ cpu 1 16 second ∷ [])
    (2 ∷ []) false ((word.High 0 1 ∷ []) ∷ [])

-- physical destination 15, lowest priority, level, vector 21h: both have priority 0, so it is the one of the least id
least_id_of_equals
    : run_of (two_on_a_pin 0x0F000000 0x8121 [] []) (replicate 6 (next (Cpu 0)) ++ (next (Dev 0) ∷ next (Dev 0) ∷ next (Io 0) ∷ []))
    ≡ record {
      entries =
          told (op.Init 1) (at 1 what.Waiting ∷ [])
          ∷ told (op.Startup 1 0x9F) (at 1 (what.Started 0x9F) ∷ [])
          ∷ told (op.IoSel 0 0x13) (at 0 what.Done ∷ [])
          ∷ told (op.IoWin 0 0x0F000000) (at 0 what.Plain ∷ [])
          ∷ told (op.IoSel 0 0x12) (at 0 what.Done ∷ [])
          ∷ told (op.IoWin 0 0x8121) (at 0 what.Plain ∷ [])
          ∷ told op.Begin (at 0 what.Done ∷ [])
          ∷ told (op.High 0 1) (at 0 what.Due ∷ [])
          ∷ told (op.Send 1) (at 0 what.Set ∷ [])
          ∷ [];
      lines =
          lines imcr.Absent
          (cpu_line 0 life.First 0 (0x21 ∷ []) [] (0x21 ∷ []) ∷ cpu_line 1 (life.Started 0x9F) 0 [] [] [] ∷ [])
          (io_line 2 0 2 ∷ []);
      goes_on = true;
    }
unfolding two_on_a_pin
least_id_of_equals = refl

-- the first has task priority 20h: it is the second
lower_task_priority
    : run_of (two_on_a_pin 0x0F000000 0x8121 (op.Tpr 32 ∷ []) []) (replicate 7 (next (Cpu 0)) ++ (next (Dev 0) ∷ next (Dev 0) ∷ next (Io 0) ∷ []))
    ≡ record {
      entries =
          told (op.Init 1) (at 1 what.Waiting ∷ [])
          ∷ told (op.Startup 1 0x9F) (at 1 (what.Started 0x9F) ∷ [])
          ∷ told (op.IoSel 0 0x13) (at 0 what.Done ∷ [])
          ∷ told (op.IoWin 0 0x0F000000) (at 0 what.Plain ∷ [])
          ∷ told (op.IoSel 0 0x12) (at 0 what.Done ∷ [])
          ∷ told (op.IoWin 0 0x8121) (at 0 what.Plain ∷ [])
          ∷ told (op.Tpr 32) (at 0 what.Done ∷ [])
          ∷ told op.Begin (at 0 what.Done ∷ [])
          ∷ told (op.High 0 1) (at 0 what.Due ∷ [])
          ∷ told (op.Send 1) (at 1 what.Set ∷ [])
          ∷ [];
      lines =
          lines imcr.Absent
          (cpu_line 0 life.First 32 [] [] [] ∷ cpu_line 1 (life.Started 0x9F) 0 (0x21 ∷ []) [] (0x21 ∷ []) ∷ [])
          (io_line 2 0 2 ∷ []);
      goes_on = true;
    }
unfolding two_on_a_pin
lower_task_priority = refl

-- logical destination 3, lowest priority: the first has vector 40h in service, so its priority is 40h; the second's is its task
-- priority, 3Fh
priority_counts_what_is_in_service
    : run_of (two_on_a_pin 0x03000000 0x8921 (op.Ldr 1 ∷ op.Ipl 1 0x40 ∷ op.Take ∷ []) (op.Ldr 2 ∷ op.Tpr 0x3F ∷ []))
    (replicate 9 (next (Cpu 0)) ++ (replicate 2 (next (Cpu 1)) ++ (next (Dev 0) ∷ next (Dev 0) ∷ next (Io 0) ∷ [])))
    ≡ record {
      entries =
          told (op.Init 1) (at 1 what.Waiting ∷ [])
          ∷ told (op.Startup 1 0x9F) (at 1 (what.Started 0x9F) ∷ [])
          ∷ told (op.IoSel 0 0x13) (at 0 what.Done ∷ [])
          ∷ told (op.IoWin 0 0x03000000) (at 0 what.Plain ∷ [])
          ∷ told (op.IoSel 0 0x12) (at 0 what.Done ∷ [])
          ∷ told (op.IoWin 0 0x8921) (at 0 what.Plain ∷ [])
          ∷ told (op.Ldr 1) (at 0 what.Done ∷ [])
          ∷ told (op.Ipl 1 0x40) (at 0 what.Set ∷ [])
          ∷ told op.Take (at 0 (what.Taken 0x40) ∷ [])
          ∷ told (op.Ldr 2) (at 0 what.Done ∷ [])
          ∷ told (op.Tpr 0x3F) (at 0 what.Done ∷ [])
          ∷ told op.Begin (at 0 what.Done ∷ [])
          ∷ told (op.High 0 1) (at 0 what.Due ∷ [])
          ∷ told (op.Send 1) (at 1 what.Set ∷ [])
          ∷ [];
      lines =
          lines imcr.Absent
          (cpu_line 0 life.First 0 [] (0x40 ∷ []) [] ∷ cpu_line 1 (life.Started 0x9F) 0x3F (0x21 ∷ []) [] (0x21 ∷ []) ∷ [])
          (io_line 2 0 2 ∷ []);
      goes_on = true;
    }
unfolding two_on_a_pin
priority_counts_what_is_in_service = refl

-- the same where the second's task priority is 41h: it is the first
priority_of_the_task_is_higher
    : run_of (two_on_a_pin 0x03000000 0x8921 (op.Ldr 1 ∷ op.Ipl 1 0x40 ∷ op.Take ∷ []) (op.Ldr 2 ∷ op.Tpr 0x41 ∷ []))
    (replicate 9 (next (Cpu 0)) ++ (replicate 2 (next (Cpu 1)) ++ (next (Dev 0) ∷ next (Dev 0) ∷ next (Io 0) ∷ [])))
    ≡ record {
      entries =
          told (op.Init 1) (at 1 what.Waiting ∷ [])
          ∷ told (op.Startup 1 0x9F) (at 1 (what.Started 0x9F) ∷ [])
          ∷ told (op.IoSel 0 0x13) (at 0 what.Done ∷ [])
          ∷ told (op.IoWin 0 0x03000000) (at 0 what.Plain ∷ [])
          ∷ told (op.IoSel 0 0x12) (at 0 what.Done ∷ [])
          ∷ told (op.IoWin 0 0x8921) (at 0 what.Plain ∷ [])
          ∷ told (op.Ldr 1) (at 0 what.Done ∷ [])
          ∷ told (op.Ipl 1 0x40) (at 0 what.Set ∷ [])
          ∷ told op.Take (at 0 (what.Taken 0x40) ∷ [])
          ∷ told (op.Ldr 2) (at 0 what.Done ∷ [])
          ∷ told (op.Tpr 0x41) (at 0 what.Done ∷ [])
          ∷ told op.Begin (at 0 what.Done ∷ [])
          ∷ told (op.High 0 1) (at 0 what.Due ∷ [])
          ∷ told (op.Send 1) (at 0 what.Set ∷ [])
          ∷ [];
      lines =
          lines imcr.Absent
          (cpu_line 0 life.First 0 (0x21 ∷ []) (0x40 ∷ []) (0x21 ∷ []) ∷ cpu_line 1 (life.Started 0x9F) 0x41 [] [] [] ∷ [])
          (io_line 2 0 2 ∷ []);
      goes_on = true;
    }
unfolding two_on_a_pin
priority_of_the_task_is_higher = refl

-- vector 0Fh is illegal: one outcome, and the message isn't accepted
illegal_at_the_lowest
    : run_of (two_on_a_pin 0x0F000000 0x810F [] []) (replicate 6 (next (Cpu 0)) ++ (next (Dev 0) ∷ next (Dev 0) ∷ next (Io 0) ∷ next (Io 0) ∷ []))
    ≡ record {
      entries =
          told (op.Init 1) (at 1 what.Waiting ∷ [])
          ∷ told (op.Startup 1 0x9F) (at 1 (what.Started 0x9F) ∷ [])
          ∷ told (op.IoSel 0 0x13) (at 0 what.Done ∷ [])
          ∷ told (op.IoWin 0 0x0F000000) (at 0 what.Plain ∷ [])
          ∷ told (op.IoSel 0 0x12) (at 0 what.Done ∷ [])
          ∷ told (op.IoWin 0 0x810F) (at 0 what.Plain ∷ [])
          ∷ told op.Begin (at 0 what.Done ∷ [])
          ∷ told (op.High 0 1) (at 0 what.Due ∷ [])
          ∷ told (op.Send 1) (at 0 what.Illegal ∷ [])
          ∷ refused
          ∷ [];
      lines = lines imcr.Absent (cpu_line 0 life.First 0 [] [] [] ∷ cpu_line 1 (life.Started 0x9F) 0 [] [] [] ∷ []) (io_line 2 0 0 ∷ []);
      goes_on = true;
    }
unfolding two_on_a_pin
illegal_at_the_lowest = refl

-- logical destination 12h, fixed, in the cluster model: the whole byte counts
whole_byte
    : run_of (two_on_a_pin 0x12000000 0x8830 (op.Dfr 0 ∷ op.Ldr 0x22 ∷ []) (op.Dfr 0 ∷ op.Ldr 0x12 ∷ []))
    (replicate 8 (next (Cpu 0)) ++ (replicate 2 (next (Cpu 1)) ++ (next (Dev 0) ∷ next (Dev 0) ∷ next (Io 0) ∷ [])))
    ≡ record {
      entries =
          told (op.Init 1) (at 1 what.Waiting ∷ [])
          ∷ told (op.Startup 1 0x9F) (at 1 (what.Started 0x9F) ∷ [])
          ∷ told (op.IoSel 0 0x13) (at 0 what.Done ∷ [])
          ∷ told (op.IoWin 0 0x12000000) (at 0 what.Plain ∷ [])
          ∷ told (op.IoSel 0 0x12) (at 0 what.Done ∷ [])
          ∷ told (op.IoWin 0 0x8830) (at 0 what.Plain ∷ [])
          ∷ told (op.Dfr 0) (at 0 what.Done ∷ [])
          ∷ told (op.Ldr 0x22) (at 0 what.Done ∷ [])
          ∷ told (op.Dfr 0) (at 0 what.Done ∷ [])
          ∷ told (op.Ldr 0x12) (at 0 what.Done ∷ [])
          ∷ told op.Begin (at 0 what.Done ∷ [])
          ∷ told (op.High 0 1) (at 0 what.Due ∷ [])
          ∷ told (op.Send 1) (at 1 what.Set ∷ [])
          ∷ [];
      lines =
          lines imcr.Absent
          (cpu_line 0 life.First 0 [] [] [] ∷ cpu_line 1 (life.Started 0x9F) 0 (0x30 ∷ []) [] (0x30 ∷ []) ∷ [])
          (io_line 2 0 2 ∷ []);
      goes_on = true;
    }
unfolding two_on_a_pin
whole_byte = refl

-- a processor that runs and one that is asleep, and pin 1 with these halves, whose line a device asserts; the first has task
-- priority 20h
one_asleep : ℕ → ℕ → Plan
one_asleep high low =
    plan 0 4
    (cpu 0 16 (op.IoSel 0 0x13 ∷ op.IoWin 0 high ∷ op.IoSel 0 0x12 ∷ op.IoWin 0 low ∷ op.Tpr 32 ∷ []) ∷ cpu 1 16 [] ∷ [])
    (2 ∷ []) false ((word.High 0 1 ∷ []) ∷ [])

-- the processor of the least priority is asleep: it is the one that runs
sleeper_has_the_least_priority
    : run_of (one_asleep 0x0F000000 0x8121) (replicate 5 (next (Cpu 0)) ++ (next (Dev 0) ∷ next (Dev 0) ∷ next (Io 0) ∷ []))
    ≡ record {
      entries =
          told (op.IoSel 0 0x13) (at 0 what.Done ∷ [])
          ∷ told (op.IoWin 0 0x0F000000) (at 0 what.Plain ∷ [])
          ∷ told (op.IoSel 0 0x12) (at 0 what.Done ∷ [])
          ∷ told (op.IoWin 0 0x8121) (at 0 what.Plain ∷ [])
          ∷ told (op.Tpr 32) (at 0 what.Done ∷ [])
          ∷ told op.Begin (at 0 what.Done ∷ [])
          ∷ told (op.High 0 1) (at 0 what.Due ∷ [])
          ∷ told (op.Send 1) (at 0 what.Set ∷ [])
          ∷ [];
      lines = lines imcr.Absent (cpu_line 0 life.First 32 (0x21 ∷ []) [] (0x21 ∷ []) ∷ cpu_line 1 life.Asleep 0 [] [] [] ∷ []) (io_line 2 0 2 ∷ []);
      goes_on = true;
    }
unfolding one_asleep
sleeper_has_the_least_priority = refl

-- no target runs: the outcomes are those of a fixed message
all_targets_asleep
    : run_of (one_asleep 0x01000000 0x8121) (replicate 5 (next (Cpu 0)) ++ (next (Dev 0) ∷ next (Dev 0) ∷ next (Io 0) ∷ []))
    ≡ record {
      entries =
          told (op.IoSel 0 0x13) (at 0 what.Done ∷ [])
          ∷ told (op.IoWin 0 0x01000000) (at 0 what.Plain ∷ [])
          ∷ told (op.IoSel 0 0x12) (at 0 what.Done ∷ [])
          ∷ told (op.IoWin 0 0x8121) (at 0 what.Plain ∷ [])
          ∷ told (op.Tpr 32) (at 0 what.Done ∷ [])
          ∷ told op.Begin (at 0 what.Done ∷ [])
          ∷ told (op.High 0 1) (at 0 what.Due ∷ [])
          ∷ told (op.Send 1) (at 1 what.Asleep ∷ [])
          ∷ [];
      lines = lines imcr.Absent (cpu_line 0 life.First 32 [] [] [] ∷ cpu_line 1 life.Asleep 0 [] [] [] ∷ []) (io_line 2 0 0 ∷ []);
      goes_on = true;
    }
unfolding one_asleep
all_targets_asleep = refl

-- there is no target: absent at the destination's byte
no_target_of_lowest_priority
    : run_of (one_asleep 0x24000000 0x8921) (replicate 5 (next (Cpu 0)) ++ (next (Dev 0) ∷ next (Dev 0) ∷ next (Io 0) ∷ []))
    ≡ record {
      entries =
          told (op.IoSel 0 0x13) (at 0 what.Done ∷ [])
          ∷ told (op.IoWin 0 0x24000000) (at 0 what.Plain ∷ [])
          ∷ told (op.IoSel 0 0x12) (at 0 what.Done ∷ [])
          ∷ told (op.IoWin 0 0x8921) (at 0 what.Plain ∷ [])
          ∷ told (op.Tpr 32) (at 0 what.Done ∷ [])
          ∷ told op.Begin (at 0 what.Done ∷ [])
          ∷ told (op.High 0 1) (at 0 what.Due ∷ [])
          ∷ told (op.Send 1) (at 0x24 what.Absent ∷ [])
          ∷ [];
      lines = lines imcr.Absent (cpu_line 0 life.First 32 [] [] [] ∷ cpu_line 1 life.Asleep 0 [] [] [] ∷ []) (io_line 2 0 0 ∷ []);
      goes_on = true;
    }
unfolding one_asleep
no_target_of_lowest_priority = refl

-- one processor, and pin 1 with this low half and logical destination 1, on which a device pulses
one_pulse : ℕ → Plan
one_pulse low =
    plan 0 4
    (cpu 0 16 (op.IoSel 0 0x13 ∷ op.IoWin 0 0x01000000 ∷ op.IoSel 0 0x12 ∷ op.IoWin 0 low ∷ op.Ldr 1 ∷ []) ∷ [])
    (2 ∷ []) false ((word.Pulse 0 1 ∷ []) ∷ [])

-- INIT as a delivery mode isn't heard, at a logical destination either
unheard_at_a_logical_destination
    : run_of (one_pulse 0x0D21) (replicate 5 (next (Cpu 0)) ++ ((Io 0, Collect 2) ∷ next (Io 0) ∷ []))
    ≡ record {
      entries =
          told (op.IoSel 0 0x13) (at 0 what.Done ∷ [])
          ∷ told (op.IoWin 0 0x01000000) (at 0 what.Plain ∷ [])
          ∷ told (op.IoSel 0 0x12) (at 0 what.Done ∷ [])
          ∷ told (op.IoWin 0 0x0D21) (at 0 what.Plain ∷ [])
          ∷ told (op.Ldr 1) (at 0 what.Done ∷ [])
          ∷ told (op.Collect 2) (at 0 (what.Pins 2 0) ∷ [])
          ∷ told (op.Send 1) (at 0 what.Unheard ∷ [])
          ∷ [];
      lines = lines imcr.Absent (cpu_line 0 life.First 0 [] [] [] ∷ []) (io_line 0 0 0 ∷ []);
      goes_on = true;
    }
unfolding one_pulse
unheard_at_a_logical_destination = refl

-- an NMI is heard there
nmi_at_a_logical_destination
    : run_of (one_pulse 0x0C00) (replicate 5 (next (Cpu 0)) ++ ((Io 0, Collect 2) ∷ next (Io 0) ∷ []))
    ≡ record {
      entries =
          told (op.IoSel 0 0x13) (at 0 what.Done ∷ [])
          ∷ told (op.IoWin 0 0x01000000) (at 0 what.Plain ∷ [])
          ∷ told (op.IoSel 0 0x12) (at 0 what.Done ∷ [])
          ∷ told (op.IoWin 0 0x0C00) (at 0 what.Plain ∷ [])
          ∷ told (op.Ldr 1) (at 0 what.Done ∷ [])
          ∷ told (op.Collect 2) (at 0 (what.Pins 2 0) ∷ [])
          ∷ told (op.Send 1) (at 0 what.Nmi ∷ [])
          ∷ [];
      lines = lines imcr.Absent (cpu_line 0 life.First 0 [] [] [] ∷ []) (io_line 0 0 0 ∷ []);
      goes_on = true;
    }
unfolding one_pulse
nmi_at_a_logical_destination = refl
