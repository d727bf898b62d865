-- Runs of a model that is independent of the definitions (scripts/board_rows), which the check computes.
use Rattle.std.proofs.Common.{◌≡◌, true, false, [], ◌∷◌, None, Some, refl}
use Rattle.mpb_spec.specs.declared.agent.Agent.TheVariants.{Cpu, Io, Dev}
use Rattle.mpb_spec.specs.declared.agent.Offer.TheVariants as offer
use Rattle.mpb_spec.specs.declared.agent.Op.TheVariants as op
use Rattle.mpb_spec.specs.declared.entry.What.TheVariants as what
use Rattle.mpb_spec.specs.declared.config.DevWord.TheVariants as word
use Rattle.mpb_spec.specs.declared.config.Imcr.TheVariants as imcr
use Rattle.mpb_spec.specs.declared.config.Life.TheVariants as life
use Rattle.mpb_spec.specs.Plan.{initial_state_of}
use Rattle.mpb_rows.specs.Told.{plan, cpu, at, told, refused, entries_of, final_of, shown, shown_io, shown_of}

-- run_0
pub run_0-entries : entries_of (initial_state_of (plan 1 8 ((cpu 1 16 ((op.IoSel 0 47) ∷ (op.IoWin 0 4278190080) ∷ (op.IoSel 0 46) ∷ (op.IoWin 0 9999) ∷ (op.IoSel 0 21) ∷ (op.IoWin 0 251658240) ∷ (op.IoSel 0 20) ∷ (op.IoWin 0 33087) ∷ op.Take ∷ (op.IoWin 0 2345972762) ∷ (op.Pause 5) ∷ [])) ∷ []) (1 ∷ []) false (((word.Pulse 0 8) ∷ (word.High 0 2) ∷ (word.Pulse 0 15) ∷ (word.High 0 2) ∷ []) ∷ ((word.Pulse 0 8) ∷ (word.High 0 8) ∷ (word.Pulse 0 2) ∷ []) ∷ []))) (((Cpu 1), offer.Next) ∷ ((Cpu 1), offer.Next) ∷ ((Cpu 1), offer.Next) ∷ ((Cpu 1), offer.Next) ∷ ((Cpu 1), offer.Next) ∷ ((Cpu 1), offer.Next) ∷ ((Cpu 1), offer.Next) ∷ ((Cpu 1), offer.Next) ∷ ((Dev 0), offer.Next) ∷ ((Io 0), (offer.Collect 256)) ∷ ((Dev 0), offer.Next) ∷ ((Io 0), (offer.Collect 32768)) ∷ ((Io 0), (offer.Collect 256)) ∷ ((Io 0), (offer.Collect 4)) ∷ ((Dev 0), offer.Next) ∷ ((Cpu 1), offer.Sweep) ∷ ((Io 0), offer.Next) ∷ ((Io 0), offer.Next) ∷ ((Io 0), (offer.Collect 0)) ∷ ((Dev 0), (offer.Collect 6709178)) ∷ ((Dev 1), offer.Next) ∷ ((Dev 1), offer.Next) ∷ ((Cpu 1), offer.Next) ∷ ((Cpu 1), offer.Next) ∷ ((Cpu 1), offer.Next) ∷ ((Dev 0), offer.Sweep) ∷ ((Io 0), (offer.Collect 16777216)) ∷ ((Dev 0), offer.Next) ∷ ((Dev 1), offer.Next) ∷ ((Io 0), offer.Sweep) ∷ ((Cpu 1), offer.Next) ∷ ((Io 0), offer.Next) ∷ ((Dev 0), offer.Next) ∷ ((Dev 1), offer.Next) ∷ []) ≡ ((told (op.IoSel 0 47) ((at 0 what.Done) ∷ [])) ∷ (told (op.IoWin 0 4278190080) ((at 0 what.Plain) ∷ [])) ∷ (told (op.IoSel 0 46) ((at 0 what.Done) ∷ [])) ∷ (told (op.IoWin 0 9999) ((at 0 what.Plain) ∷ [])) ∷ (told (op.IoSel 0 21) ((at 0 what.Done) ∷ [])) ∷ (told (op.IoWin 0 251658240) ((at 0 what.Plain) ∷ [])) ∷ (told (op.IoSel 0 20) ((at 0 what.Done) ∷ [])) ∷ (told (op.IoWin 0 33087) ((at 0 what.Plain) ∷ [])) ∷ (told op.Begin ((at 0 what.Done) ∷ [])) ∷ (told (op.Collect 256) ((at 0 (what.Pins 0 0)) ∷ [])) ∷ (told (op.High 0 2) ((at 0 what.Due) ∷ [])) ∷ (told (op.Collect 32768) ((at 0 (what.Pins 32768 0)) ∷ [])) ∷ (told (op.Collect 256) ((at 0 (what.Pins 0 0)) ∷ [])) ∷ (told (op.Collect 4) ((at 0 (what.Pins 0 0)) ∷ [])) ∷ (told (op.High 0 2) ((at 0 what.Plain) ∷ [])) ∷ (refused) ∷ (told (op.Send 2) ((at 1 what.Set) ∷ [])) ∷ (told (op.Send 15) ((at 1 what.Passed) ∷ [])) ∷ (refused) ∷ (refused) ∷ (told op.Begin ((at 0 what.Done) ∷ [])) ∷ (told (op.High 0 8) ((at 0 what.Plain) ∷ [])) ∷ (told op.Take ((at 0 (what.Taken 63)) ∷ [])) ∷ (told (op.IoWin 0 2345972762) ((at 0 what.Plain) ∷ [])) ∷ (told (op.Pause 5) ((at 0 what.Done) ∷ [])) ∷ (refused) ∷ (refused) ∷ (told op.End ((at 0 what.Done) ∷ [])) ∷ (told op.End ((at 0 what.Done) ∷ [])) ∷ (told op.Sweep ((at 0 what.Done) ∷ [])) ∷ (refused) ∷ (refused) ∷ (refused) ∷ (refused) ∷ [])
run_0-entries = refl

pub run_0-state : shown_of (final_of (initial_state_of (plan 1 8 ((cpu 1 16 ((op.IoSel 0 47) ∷ (op.IoWin 0 4278190080) ∷ (op.IoSel 0 46) ∷ (op.IoWin 0 9999) ∷ (op.IoSel 0 21) ∷ (op.IoWin 0 251658240) ∷ (op.IoSel 0 20) ∷ (op.IoWin 0 33087) ∷ op.Take ∷ (op.IoWin 0 2345972762) ∷ (op.Pause 5) ∷ [])) ∷ []) (1 ∷ []) false (((word.Pulse 0 8) ∷ (word.High 0 2) ∷ (word.Pulse 0 15) ∷ (word.High 0 2) ∷ []) ∷ ((word.Pulse 0 8) ∷ (word.High 0 8) ∷ (word.Pulse 0 2) ∷ []) ∷ []))) (((Cpu 1), offer.Next) ∷ ((Cpu 1), offer.Next) ∷ ((Cpu 1), offer.Next) ∷ ((Cpu 1), offer.Next) ∷ ((Cpu 1), offer.Next) ∷ ((Cpu 1), offer.Next) ∷ ((Cpu 1), offer.Next) ∷ ((Cpu 1), offer.Next) ∷ ((Dev 0), offer.Next) ∷ ((Io 0), (offer.Collect 256)) ∷ ((Dev 0), offer.Next) ∷ ((Io 0), (offer.Collect 32768)) ∷ ((Io 0), (offer.Collect 256)) ∷ ((Io 0), (offer.Collect 4)) ∷ ((Dev 0), offer.Next) ∷ ((Cpu 1), offer.Sweep) ∷ ((Io 0), offer.Next) ∷ ((Io 0), offer.Next) ∷ ((Io 0), (offer.Collect 0)) ∷ ((Dev 0), (offer.Collect 6709178)) ∷ ((Dev 1), offer.Next) ∷ ((Dev 1), offer.Next) ∷ ((Cpu 1), offer.Next) ∷ ((Cpu 1), offer.Next) ∷ ((Cpu 1), offer.Next) ∷ ((Dev 0), offer.Sweep) ∷ ((Io 0), (offer.Collect 16777216)) ∷ ((Dev 0), offer.Next) ∷ ((Dev 1), offer.Next) ∷ ((Io 0), offer.Sweep) ∷ ((Cpu 1), offer.Next) ∷ ((Io 0), offer.Next) ∷ ((Dev 0), offer.Next) ∷ ((Dev 1), offer.Next) ∷ [])) ≡ record { cpus = ((shown 1 11 life.First ([]) (63 ∷ []) (63 ∷ []) 0 0 15) ∷ []); ios = ((shown_io 20 1 1 true 260 0 0 ((65536, 0) ∷ (65536, 0) ∷ (42010, 251658240) ∷ (65536, 0) ∷ (65536, 0) ∷ (65536, 0) ∷ (65536, 0) ∷ (65536, 0) ∷ (65536, 0) ∷ (65536, 0) ∷ (65536, 0) ∷ (65536, 0) ∷ (65536, 0) ∷ (65536, 0) ∷ (65536, 0) ∷ (9999, 4278190080) ∷ (65536, 0) ∷ (65536, 0) ∷ (65536, 0) ∷ (65536, 0) ∷ (65536, 0) ∷ (65536, 0) ∷ (65536, 0) ∷ (65536, 0) ∷ [])) ∷ []); devices = (4 ∷ 3 ∷ []); imcr = imcr.Absent; warm = None }
run_0-state = refl

-- run_1
pub run_1-entries : entries_of (initial_state_of (plan 1 16 ((cpu 1 17 ((op.IoSel 0 47) ∷ (op.IoWin 0 0) ∷ (op.IoSel 0 46) ∷ (op.IoWin 0 34865) ∷ (op.IoSel 0 57) ∷ (op.IoWin 0 4278190080) ∷ (op.IoSel 0 56) ∷ (op.IoWin 0 2623) ∷ (op.IoSel 1 47) ∷ (op.IoWin 1 16777216) ∷ (op.IoSel 1 46) ∷ (op.IoWin 1 34047) ∷ (op.IoSel 1 57) ∷ (op.IoWin 1 4278190080) ∷ (op.IoSel 1 56) ∷ (op.IoWin 1 41231) ∷ (op.Tpr 53) ∷ (op.IoRead 0) ∷ (op.IoWin 0 395176907) ∷ (op.IoWin 0 2097) ∷ [])) ∷ []) (17 ∷ 1 ∷ []) false (((word.Low 0 20) ∷ (word.High 0 15) ∷ (word.Pulse 1 19) ∷ []) ∷ ((word.Low 0 20) ∷ (word.High 0 20) ∷ []) ∷ []))) (((Cpu 1), offer.Next) ∷ ((Cpu 1), offer.Next) ∷ ((Cpu 1), offer.Next) ∷ ((Cpu 1), (offer.Collect 0)) ∷ ((Cpu 1), offer.Next) ∷ ((Cpu 1), offer.Next) ∷ ((Cpu 1), offer.Next) ∷ ((Io 1), (offer.Collect 0)) ∷ ((Cpu 1), offer.Next) ∷ ((Cpu 1), offer.Next) ∷ ((Cpu 1), offer.Next) ∷ ((Cpu 1), offer.Next) ∷ ((Cpu 1), offer.Next) ∷ ((Cpu 1), offer.Next) ∷ ((Cpu 1), offer.Next) ∷ ((Cpu 1), offer.Next) ∷ ((Cpu 1), offer.Next) ∷ ((Cpu 1), offer.Next) ∷ ((Dev 0), offer.Next) ∷ ((Dev 0), offer.Next) ∷ ((Cpu 1), offer.Next) ∷ ((Dev 0), offer.Next) ∷ ((Dev 0), offer.Next) ∷ ((Io 0), offer.Next) ∷ ((Dev 1), offer.Next) ∷ ((Io 1), (offer.Collect 524288)) ∷ ((Dev 1), offer.Next) ∷ ((Cpu 1), offer.Next) ∷ ((Cpu 1), offer.Next) ∷ ((Cpu 1), offer.Next) ∷ ((Dev 1), offer.Next) ∷ ((Dev 1), offer.Next) ∷ ((Io 1), offer.Sweep) ∷ ((Io 0), offer.Sweep) ∷ ((Cpu 1), offer.Next) ∷ ((Io 0), offer.Next) ∷ ((Io 1), offer.Next) ∷ ((Dev 0), offer.Next) ∷ ((Dev 1), offer.Next) ∷ []) ≡ ((told (op.IoSel 0 47) ((at 0 what.Done) ∷ [])) ∷ (told (op.IoWin 0 0) ((at 0 what.Plain) ∷ [])) ∷ (told (op.IoSel 0 46) ((at 0 what.Done) ∷ [])) ∷ (refused) ∷ (told (op.IoWin 0 34865) ((at 0 what.Plain) ∷ [])) ∷ (told (op.IoSel 0 57) ((at 0 what.Done) ∷ [])) ∷ (told (op.IoWin 0 4278190080) ((at 0 what.Plain) ∷ [])) ∷ (refused) ∷ (told (op.IoSel 0 56) ((at 0 what.Done) ∷ [])) ∷ (told (op.IoWin 0 2623) ((at 0 what.Plain) ∷ [])) ∷ (told (op.IoSel 1 47) ((at 0 what.Done) ∷ [])) ∷ (told (op.IoWin 1 16777216) ((at 0 what.Plain) ∷ [])) ∷ (told (op.IoSel 1 46) ((at 0 what.Done) ∷ [])) ∷ (told (op.IoWin 1 34047) ((at 0 what.Plain) ∷ [])) ∷ (told (op.IoSel 1 57) ((at 0 what.Done) ∷ [])) ∷ (told (op.IoWin 1 4278190080) ((at 0 what.Plain) ∷ [])) ∷ (told (op.IoSel 1 56) ((at 0 what.Done) ∷ [])) ∷ (told (op.IoWin 1 41231) ((at 0 what.Plain) ∷ [])) ∷ (told op.Begin ((at 0 what.Done) ∷ [])) ∷ (told (op.Low 0 20) ((at 0 what.Plain) ∷ [])) ∷ (told (op.Tpr 53) ((at 0 what.Done) ∷ [])) ∷ (told (op.High 0 15) ((at 0 what.Due) ∷ [])) ∷ (told op.End ((at 0 what.Done) ∷ [])) ∷ (told (op.Send 15) ((at 0 what.Absent) ∷ [])) ∷ (told op.Begin ((at 0 what.Done) ∷ [])) ∷ (told (op.Collect 524288) ((at 0 (what.Pins 0 0)) ∷ [])) ∷ (told (op.Low 0 20) ((at 0 what.Plain) ∷ [])) ∷ (told (op.IoRead 0) ((at 0 (what.Read 2623)) ∷ [])) ∷ (told (op.IoWin 0 395176907) ((at 0 what.Plain) ∷ [])) ∷ (told (op.IoWin 0 2097) ((at 0 what.Plain) ∷ [])) ∷ (told (op.High 0 20) ((at 0 what.Plain) ∷ [])) ∷ (told op.End ((at 0 what.Done) ∷ [])) ∷ (told op.Sweep ((at 0 what.Done) ∷ [])) ∷ (told op.Sweep ((at 0 what.Done) ∷ [])) ∷ (refused) ∷ (refused) ∷ (refused) ∷ (refused) ∷ (refused) ∷ [])
run_1-entries = refl

pub run_1-state : shown_of (final_of (initial_state_of (plan 1 16 ((cpu 1 17 ((op.IoSel 0 47) ∷ (op.IoWin 0 0) ∷ (op.IoSel 0 46) ∷ (op.IoWin 0 34865) ∷ (op.IoSel 0 57) ∷ (op.IoWin 0 4278190080) ∷ (op.IoSel 0 56) ∷ (op.IoWin 0 2623) ∷ (op.IoSel 1 47) ∷ (op.IoWin 1 16777216) ∷ (op.IoSel 1 46) ∷ (op.IoWin 1 34047) ∷ (op.IoSel 1 57) ∷ (op.IoWin 1 4278190080) ∷ (op.IoSel 1 56) ∷ (op.IoWin 1 41231) ∷ (op.Tpr 53) ∷ (op.IoRead 0) ∷ (op.IoWin 0 395176907) ∷ (op.IoWin 0 2097) ∷ [])) ∷ []) (17 ∷ 1 ∷ []) false (((word.Low 0 20) ∷ (word.High 0 15) ∷ (word.Pulse 1 19) ∷ []) ∷ ((word.Low 0 20) ∷ (word.High 0 20) ∷ []) ∷ []))) (((Cpu 1), offer.Next) ∷ ((Cpu 1), offer.Next) ∷ ((Cpu 1), offer.Next) ∷ ((Cpu 1), (offer.Collect 0)) ∷ ((Cpu 1), offer.Next) ∷ ((Cpu 1), offer.Next) ∷ ((Cpu 1), offer.Next) ∷ ((Io 1), (offer.Collect 0)) ∷ ((Cpu 1), offer.Next) ∷ ((Cpu 1), offer.Next) ∷ ((Cpu 1), offer.Next) ∷ ((Cpu 1), offer.Next) ∷ ((Cpu 1), offer.Next) ∷ ((Cpu 1), offer.Next) ∷ ((Cpu 1), offer.Next) ∷ ((Cpu 1), offer.Next) ∷ ((Cpu 1), offer.Next) ∷ ((Cpu 1), offer.Next) ∷ ((Dev 0), offer.Next) ∷ ((Dev 0), offer.Next) ∷ ((Cpu 1), offer.Next) ∷ ((Dev 0), offer.Next) ∷ ((Dev 0), offer.Next) ∷ ((Io 0), offer.Next) ∷ ((Dev 1), offer.Next) ∷ ((Io 1), (offer.Collect 524288)) ∷ ((Dev 1), offer.Next) ∷ ((Cpu 1), offer.Next) ∷ ((Cpu 1), offer.Next) ∷ ((Cpu 1), offer.Next) ∷ ((Dev 1), offer.Next) ∷ ((Dev 1), offer.Next) ∷ ((Io 1), offer.Sweep) ∷ ((Io 0), offer.Sweep) ∷ ((Cpu 1), offer.Next) ∷ ((Io 0), offer.Next) ∷ ((Io 1), offer.Next) ∷ ((Dev 0), offer.Next) ∷ ((Dev 1), offer.Next) ∷ [])) ≡ record { cpus = ((shown 1 20 life.First ([]) ([]) ([]) 53 0 15) ∷ []); ios = ((shown_io 56 1 1 true 1081344 0 0 ((65536, 0) ∷ (65536, 0) ∷ (65536, 0) ∷ (65536, 0) ∷ (65536, 0) ∷ (65536, 0) ∷ (65536, 0) ∷ (65536, 0) ∷ (65536, 0) ∷ (65536, 0) ∷ (65536, 0) ∷ (65536, 0) ∷ (65536, 0) ∷ (65536, 0) ∷ (65536, 0) ∷ (34865, 0) ∷ (65536, 0) ∷ (65536, 0) ∷ (65536, 0) ∷ (65536, 0) ∷ (2097, 4278190080) ∷ (65536, 0) ∷ (65536, 0) ∷ (65536, 0) ∷ [])) ∷ (shown_io 56 1 1 true 0 0 0 ((65536, 0) ∷ (65536, 0) ∷ (65536, 0) ∷ (65536, 0) ∷ (65536, 0) ∷ (65536, 0) ∷ (65536, 0) ∷ (65536, 0) ∷ (65536, 0) ∷ (65536, 0) ∷ (65536, 0) ∷ (65536, 0) ∷ (65536, 0) ∷ (65536, 0) ∷ (65536, 0) ∷ (34047, 16777216) ∷ (65536, 0) ∷ (65536, 0) ∷ (65536, 0) ∷ (65536, 0) ∷ (41231, 4278190080) ∷ (65536, 0) ∷ (65536, 0) ∷ (65536, 0) ∷ [])) ∷ []); devices = (4 ∷ 4 ∷ []); imcr = imcr.Absent; warm = None }
run_1-state = refl

-- run_2
pub run_2-entries : entries_of (initial_state_of (plan 9 19 ((cpu 0 16 ((op.Ipi 1 16) ∷ (op.IoWin 0 8463) ∷ [])) ∷ (cpu 1 16 ((op.Pause 5) ∷ (op.Ldr 2) ∷ (op.IoRead 0) ∷ (op.Ldr 33) ∷ [])) ∷ (cpu 9 17 (op.Imcr ∷ (op.Init 0) ∷ (op.Pause 10000) ∷ (op.Startup 0 159) ∷ (op.Startup 0 159) ∷ (op.Check 0) ∷ (op.Init 1) ∷ (op.Pause 10000) ∷ (op.Startup 1 159) ∷ (op.Startup 1 159) ∷ (op.Check 1) ∷ (op.IoSel 0 53) ∷ (op.IoWin 0 16777216) ∷ (op.IoSel 0 52) ∷ (op.IoWin 0 255) ∷ (op.IoSel 0 27) ∷ (op.IoWin 0 251658240) ∷ (op.IoSel 0 26) ∷ (op.IoWin 0 41535) ∷ (op.Ldr 17) ∷ op.Take ∷ (op.Ldr 18) ∷ (op.IoWin 0 41505) ∷ (op.Ldr 1) ∷ [])) ∷ []) (17 ∷ []) true (((word.Low 0 18) ∷ []) ∷ ((word.Low 0 18) ∷ (word.Pulse 0 5) ∷ (word.Low 0 5) ∷ []) ∷ []))) (((Cpu 9), offer.Next) ∷ ((Cpu 9), offer.Next) ∷ ((Cpu 9), offer.Next) ∷ ((Cpu 1), (offer.Collect 0)) ∷ ((Cpu 9), offer.Next) ∷ ((Cpu 9), offer.Next) ∷ ((Cpu 0), offer.Next) ∷ ((Cpu 9), offer.Next) ∷ ((Cpu 0), offer.Next) ∷ ((Cpu 9), offer.Next) ∷ ((Cpu 9), offer.Next) ∷ ((Cpu 9), offer.Next) ∷ ((Cpu 9), (offer.Collect 0)) ∷ ((Cpu 9), offer.Next) ∷ ((Cpu 1), offer.Next) ∷ ((Cpu 9), offer.Next) ∷ ((Cpu 9), offer.Next) ∷ ((Cpu 9), offer.Next) ∷ ((Cpu 9), offer.Next) ∷ ((Dev 0), (offer.Collect 0)) ∷ ((Cpu 1), offer.Next) ∷ ((Dev 0), (offer.Collect 10526474)) ∷ ((Dev 1), (offer.Collect 0)) ∷ ((Cpu 9), offer.Next) ∷ ((Cpu 9), offer.Next) ∷ ((Cpu 1), offer.Next) ∷ ((Cpu 1), offer.Next) ∷ ((Cpu 9), offer.Next) ∷ ((Cpu 9), offer.Next) ∷ ((Cpu 9), offer.Next) ∷ ((Dev 0), offer.Next) ∷ ((Cpu 0), (offer.Collect 5211369)) ∷ ((Cpu 0), offer.Sweep) ∷ ((Dev 0), offer.Next) ∷ ((Io 0), (offer.Collect 32)) ∷ ((Cpu 9), offer.Next) ∷ ((Dev 1), offer.Next) ∷ ((Dev 1), (offer.Collect 15490839)) ∷ ((Dev 1), offer.Next) ∷ ((Io 0), (offer.Collect 14719012)) ∷ ((Dev 0), offer.Next) ∷ ((Dev 1), offer.Next) ∷ ((Io 0), offer.Next) ∷ ((Dev 1), offer.Next) ∷ ((Io 0), offer.Sweep) ∷ ((Cpu 0), offer.Next) ∷ ((Cpu 1), offer.Next) ∷ ((Cpu 9), offer.Next) ∷ ((Io 0), offer.Next) ∷ ((Dev 0), offer.Next) ∷ ((Dev 1), offer.Next) ∷ []) ≡ ((told op.Imcr ((at 0 what.Done) ∷ [])) ∷ (told (op.Init 0) ((at 0 what.Waiting) ∷ [])) ∷ (told (op.Pause 10000) ((at 0 what.Done) ∷ [])) ∷ (refused) ∷ (told (op.Startup 0 159) ((at 0 (what.Started 159)) ∷ [])) ∷ (told (op.Startup 0 159) ((at 0 what.Ignored) ∷ [])) ∷ (told (op.Ipi 1 16) ((at 1 what.Asleep) ∷ [])) ∷ (told (op.Check 0) ((at 0 (what.Runs 159)) ∷ [])) ∷ (told (op.IoWin 0 8463) ((at 0 what.Plain) ∷ [])) ∷ (told (op.Init 1) ((at 1 what.Waiting) ∷ [])) ∷ (told (op.Pause 10000) ((at 0 what.Done) ∷ [])) ∷ (told (op.Startup 1 159) ((at 1 (what.Started 159)) ∷ [])) ∷ (refused) ∷ (told (op.Startup 1 159) ((at 1 what.Ignored) ∷ [])) ∷ (told (op.Pause 5) ((at 0 what.Done) ∷ [])) ∷ (told (op.Check 1) ((at 1 (what.Runs 159)) ∷ [])) ∷ (told (op.IoSel 0 53) ((at 0 what.Done) ∷ [])) ∷ (told (op.IoWin 0 16777216) ((at 0 what.Plain) ∷ [])) ∷ (told (op.IoSel 0 52) ((at 0 what.Done) ∷ [])) ∷ (refused) ∷ (told (op.Ldr 2) ((at 0 what.Done) ∷ [])) ∷ (refused) ∷ (refused) ∷ (told (op.IoWin 0 255) ((at 0 what.Plain) ∷ [])) ∷ (told (op.IoSel 0 27) ((at 0 what.Done) ∷ [])) ∷ (told (op.IoRead 0) ((at 0 (what.Read 0)) ∷ [])) ∷ (told (op.Ldr 33) ((at 0 what.Done) ∷ [])) ∷ (told (op.IoWin 0 251658240) ((at 0 what.Plain) ∷ [])) ∷ (told (op.IoSel 0 26) ((at 0 what.Done) ∷ [])) ∷ (told (op.IoWin 0 41535) ((at 0 what.Plain) ∷ [])) ∷ (told op.Begin ((at 0 what.Done) ∷ [])) ∷ (refused) ∷ (refused) ∷ (told (op.Low 0 18) ((at 0 what.Plain) ∷ [])) ∷ (told (op.Collect 32) ((at 0 (what.Pins 32 0)) ∷ [])) ∷ (told (op.Ldr 17) ((at 0 what.Done) ∷ [])) ∷ (told op.Begin ((at 0 what.Done) ∷ [])) ∷ (refused) ∷ (told (op.Low 0 18) ((at 0 what.Plain) ∷ [])) ∷ (refused) ∷ (told op.End ((at 0 what.Done) ∷ [])) ∷ (told (op.Low 0 5) ((at 0 what.Plain) ∷ [])) ∷ (told (op.Send 5) ((at 0 what.Passed) ∷ (at 1 what.Passed) ∷ (at 9 what.Passed) ∷ [])) ∷ (told op.End ((at 0 what.Done) ∷ [])) ∷ (told op.Sweep ((at 0 what.Done) ∷ [])) ∷ (refused) ∷ (refused) ∷ (refused) ∷ (refused) ∷ (refused) ∷ (refused) ∷ [])
run_2-entries = refl

pub run_2-state : shown_of (final_of (initial_state_of (plan 9 19 ((cpu 0 16 ((op.Ipi 1 16) ∷ (op.IoWin 0 8463) ∷ [])) ∷ (cpu 1 16 ((op.Pause 5) ∷ (op.Ldr 2) ∷ (op.IoRead 0) ∷ (op.Ldr 33) ∷ [])) ∷ (cpu 9 17 (op.Imcr ∷ (op.Init 0) ∷ (op.Pause 10000) ∷ (op.Startup 0 159) ∷ (op.Startup 0 159) ∷ (op.Check 0) ∷ (op.Init 1) ∷ (op.Pause 10000) ∷ (op.Startup 1 159) ∷ (op.Startup 1 159) ∷ (op.Check 1) ∷ (op.IoSel 0 53) ∷ (op.IoWin 0 16777216) ∷ (op.IoSel 0 52) ∷ (op.IoWin 0 255) ∷ (op.IoSel 0 27) ∷ (op.IoWin 0 251658240) ∷ (op.IoSel 0 26) ∷ (op.IoWin 0 41535) ∷ (op.Ldr 17) ∷ op.Take ∷ (op.Ldr 18) ∷ (op.IoWin 0 41505) ∷ (op.Ldr 1) ∷ [])) ∷ []) (17 ∷ []) true (((word.Low 0 18) ∷ []) ∷ ((word.Low 0 18) ∷ (word.Pulse 0 5) ∷ (word.Low 0 5) ∷ []) ∷ []))) (((Cpu 9), offer.Next) ∷ ((Cpu 9), offer.Next) ∷ ((Cpu 9), offer.Next) ∷ ((Cpu 1), (offer.Collect 0)) ∷ ((Cpu 9), offer.Next) ∷ ((Cpu 9), offer.Next) ∷ ((Cpu 0), offer.Next) ∷ ((Cpu 9), offer.Next) ∷ ((Cpu 0), offer.Next) ∷ ((Cpu 9), offer.Next) ∷ ((Cpu 9), offer.Next) ∷ ((Cpu 9), offer.Next) ∷ ((Cpu 9), (offer.Collect 0)) ∷ ((Cpu 9), offer.Next) ∷ ((Cpu 1), offer.Next) ∷ ((Cpu 9), offer.Next) ∷ ((Cpu 9), offer.Next) ∷ ((Cpu 9), offer.Next) ∷ ((Cpu 9), offer.Next) ∷ ((Dev 0), (offer.Collect 0)) ∷ ((Cpu 1), offer.Next) ∷ ((Dev 0), (offer.Collect 10526474)) ∷ ((Dev 1), (offer.Collect 0)) ∷ ((Cpu 9), offer.Next) ∷ ((Cpu 9), offer.Next) ∷ ((Cpu 1), offer.Next) ∷ ((Cpu 1), offer.Next) ∷ ((Cpu 9), offer.Next) ∷ ((Cpu 9), offer.Next) ∷ ((Cpu 9), offer.Next) ∷ ((Dev 0), offer.Next) ∷ ((Cpu 0), (offer.Collect 5211369)) ∷ ((Cpu 0), offer.Sweep) ∷ ((Dev 0), offer.Next) ∷ ((Io 0), (offer.Collect 32)) ∷ ((Cpu 9), offer.Next) ∷ ((Dev 1), offer.Next) ∷ ((Dev 1), (offer.Collect 15490839)) ∷ ((Dev 1), offer.Next) ∷ ((Io 0), (offer.Collect 14719012)) ∷ ((Dev 0), offer.Next) ∷ ((Dev 1), offer.Next) ∷ ((Io 0), offer.Next) ∷ ((Dev 1), offer.Next) ∷ ((Io 0), offer.Sweep) ∷ ((Cpu 0), offer.Next) ∷ ((Cpu 1), offer.Next) ∷ ((Cpu 9), offer.Next) ∷ ((Io 0), offer.Next) ∷ ((Dev 0), offer.Next) ∷ ((Dev 1), offer.Next) ∷ [])) ≡ record { cpus = ((shown 0 2 (life.Started 159) ([]) ([]) ([]) 0 0 15) ∷ (shown 1 4 (life.Started 159) ([]) ([]) ([]) 0 33 15) ∷ (shown 9 20 life.First ([]) ([]) ([]) 0 17 15) ∷ []); ios = ((shown_io 26 0 0 true 0 0 0 ((65536, 0) ∷ (65536, 0) ∷ (65536, 0) ∷ (65536, 0) ∷ (65536, 0) ∷ (41535, 251658240) ∷ (65536, 0) ∷ (65536, 0) ∷ (65536, 0) ∷ (65536, 0) ∷ (65536, 0) ∷ (65536, 0) ∷ (65536, 0) ∷ (65536, 0) ∷ (65536, 0) ∷ (65536, 0) ∷ (65536, 0) ∷ (65536, 0) ∷ (255, 16777216) ∷ (65536, 0) ∷ (65536, 0) ∷ (65536, 0) ∷ (65536, 0) ∷ (65536, 0) ∷ [])) ∷ []); devices = (3 ∷ 4 ∷ []); imcr = imcr.Apic; warm = None }
run_2-state = refl

-- run_3
pub run_3-entries : entries_of (initial_state_of (plan 2 9 ((cpu 1 16 (op.Eoi ∷ op.Eoi ∷ (op.Ldr 33) ∷ (op.Pause 5) ∷ [])) ∷ (cpu 2 1 ((op.Init 1) ∷ (op.Pause 10000) ∷ (op.Startup 1 159) ∷ (op.Startup 1 159) ∷ (op.Check 1) ∷ (op.Warm 159) ∷ (op.Init 9) ∷ (op.Pause 10000) ∷ (op.Check 9) ∷ (op.Pause 5) ∷ (op.Tpr 32) ∷ op.Take ∷ (op.Tpr 37) ∷ (op.Ldr 1) ∷ [])) ∷ (cpu 9 1 ((op.Ipi 9 33) ∷ op.Poll ∷ op.Take ∷ (op.Pause 5) ∷ [])) ∷ []) ([]) false ([]))) (((Cpu 2), offer.Next) ∷ ((Cpu 9), (offer.Collect 13331515)) ∷ ((Cpu 2), offer.Next) ∷ ((Cpu 2), offer.Next) ∷ ((Cpu 1), offer.Next) ∷ ((Cpu 1), offer.Next) ∷ ((Cpu 1), offer.Next) ∷ ((Cpu 1), offer.Next) ∷ ((Cpu 2), offer.Next) ∷ ((Cpu 1), offer.Sweep) ∷ ((Cpu 2), offer.Next) ∷ ((Cpu 2), offer.Next) ∷ ((Cpu 2), offer.Next) ∷ ((Cpu 2), offer.Next) ∷ ((Cpu 2), offer.Next) ∷ ((Cpu 2), offer.Next) ∷ ((Cpu 9), offer.Next) ∷ ((Cpu 9), offer.Next) ∷ ((Cpu 2), offer.Next) ∷ ((Cpu 1), offer.Next) ∷ ((Cpu 2), offer.Next) ∷ ((Cpu 9), offer.Next) ∷ []) ≡ ((told (op.Init 1) ((at 1 what.Waiting) ∷ [])) ∷ (refused) ∷ (told (op.Pause 10000) ((at 0 what.Done) ∷ [])) ∷ (told (op.Startup 1 159) ((at 1 (what.Started 159)) ∷ [])) ∷ (told op.Eoi ((at 0 what.Nothing) ∷ [])) ∷ (told op.Eoi ((at 0 what.Nothing) ∷ [])) ∷ (told (op.Ldr 33) ((at 0 what.Done) ∷ [])) ∷ (told (op.Pause 5) ((at 0 what.Done) ∷ [])) ∷ (told (op.Startup 1 159) ((at 1 what.Ignored) ∷ [])) ∷ (refused) ∷ (told (op.Check 1) ((at 1 (what.Runs 159)) ∷ [])) ∷ (told (op.Warm 159) ((at 0 what.Done) ∷ [])) ∷ (told (op.Init 9) ((at 9 (what.Started 159)) ∷ [])) ∷ (told (op.Pause 10000) ((at 0 what.Done) ∷ [])) ∷ (told (op.Check 9) ((at 9 (what.Runs 159)) ∷ [])) ∷ (told (op.Pause 5) ((at 0 what.Done) ∷ [])) ∷ (told (op.Ipi 9 33) ((at 9 what.Set) ∷ [])) ∷ (told op.Poll ((at 0 (what.Taken 33)) ∷ [])) ∷ (told (op.Tpr 32) ((at 0 what.Done) ∷ [])) ∷ (refused) ∷ (refused) ∷ (refused) ∷ [])
run_3-entries = refl

pub run_3-state : shown_of (final_of (initial_state_of (plan 2 9 ((cpu 1 16 (op.Eoi ∷ op.Eoi ∷ (op.Ldr 33) ∷ (op.Pause 5) ∷ [])) ∷ (cpu 2 1 ((op.Init 1) ∷ (op.Pause 10000) ∷ (op.Startup 1 159) ∷ (op.Startup 1 159) ∷ (op.Check 1) ∷ (op.Warm 159) ∷ (op.Init 9) ∷ (op.Pause 10000) ∷ (op.Check 9) ∷ (op.Pause 5) ∷ (op.Tpr 32) ∷ op.Take ∷ (op.Tpr 37) ∷ (op.Ldr 1) ∷ [])) ∷ (cpu 9 1 ((op.Ipi 9 33) ∷ op.Poll ∷ op.Take ∷ (op.Pause 5) ∷ [])) ∷ []) ([]) false ([]))) (((Cpu 2), offer.Next) ∷ ((Cpu 9), (offer.Collect 13331515)) ∷ ((Cpu 2), offer.Next) ∷ ((Cpu 2), offer.Next) ∷ ((Cpu 1), offer.Next) ∷ ((Cpu 1), offer.Next) ∷ ((Cpu 1), offer.Next) ∷ ((Cpu 1), offer.Next) ∷ ((Cpu 2), offer.Next) ∷ ((Cpu 1), offer.Sweep) ∷ ((Cpu 2), offer.Next) ∷ ((Cpu 2), offer.Next) ∷ ((Cpu 2), offer.Next) ∷ ((Cpu 2), offer.Next) ∷ ((Cpu 2), offer.Next) ∷ ((Cpu 2), offer.Next) ∷ ((Cpu 9), offer.Next) ∷ ((Cpu 9), offer.Next) ∷ ((Cpu 2), offer.Next) ∷ ((Cpu 1), offer.Next) ∷ ((Cpu 2), offer.Next) ∷ ((Cpu 9), offer.Next) ∷ [])) ≡ record { cpus = ((shown 1 4 (life.Started 159) ([]) ([]) ([]) 0 33 15) ∷ (shown 2 11 life.First ([]) ([]) ([]) 32 0 15) ∷ (shown 9 2 (life.Started 159) ([]) (33 ∷ []) ([]) 0 0 15) ∷ []); ios = ([]); devices = ([]); imcr = imcr.Absent; warm = (Some 159) }
run_3-state = refl

-- run_4
pub run_4-entries : entries_of (initial_state_of (plan 9 6 ((cpu 2 16 (op.Poll ∷ (op.Ipl 19 48) ∷ (op.Nmi 2) ∷ (op.Dfr 0) ∷ op.Eoi ∷ [])) ∷ (cpu 9 16 (op.Imcr ∷ (op.Init 2) ∷ (op.Pause 10000) ∷ (op.Startup 2 159) ∷ (op.Startup 2 159) ∷ (op.Check 2) ∷ (op.Ldr 2) ∷ (op.Ldr 18) ∷ (op.Tpr 37) ∷ op.Poll ∷ [])) ∷ []) ([]) true ([]))) (((Cpu 9), offer.Next) ∷ ((Cpu 9), offer.Next) ∷ ((Cpu 9), offer.Next) ∷ ((Cpu 9), offer.Next) ∷ ((Cpu 2), offer.Next) ∷ ((Cpu 9), offer.Next) ∷ ((Cpu 9), offer.Next) ∷ ((Cpu 2), offer.Next) ∷ ((Cpu 9), offer.Next) ∷ ((Cpu 9), offer.Next) ∷ ((Cpu 9), offer.Next) ∷ ((Cpu 9), offer.Next) ∷ ((Cpu 2), offer.Next) ∷ ((Cpu 2), offer.Next) ∷ ((Cpu 2), offer.Next) ∷ ((Cpu 2), offer.Next) ∷ ((Cpu 9), offer.Next) ∷ []) ≡ ((told op.Imcr ((at 0 what.Done) ∷ [])) ∷ (told (op.Init 2) ((at 2 what.Waiting) ∷ [])) ∷ (told (op.Pause 10000) ((at 0 what.Done) ∷ [])) ∷ (told (op.Startup 2 159) ((at 2 (what.Started 159)) ∷ [])) ∷ (told op.Poll ((at 0 what.Nothing) ∷ [])) ∷ (told (op.Startup 2 159) ((at 2 what.Ignored) ∷ [])) ∷ (told (op.Check 2) ((at 2 (what.Runs 159)) ∷ [])) ∷ (told (op.Ipl 19 48) ((at 19 what.Absent) ∷ [])) ∷ (told (op.Ldr 2) ((at 0 what.Done) ∷ [])) ∷ (told (op.Ldr 18) ((at 0 what.Done) ∷ [])) ∷ (told (op.Tpr 37) ((at 0 what.Done) ∷ [])) ∷ (told op.Poll ((at 0 what.Nothing) ∷ [])) ∷ (told (op.Nmi 2) ((at 2 what.Nmi) ∷ [])) ∷ (told (op.Dfr 0) ((at 0 what.Done) ∷ [])) ∷ (told op.Eoi ((at 0 what.Nothing) ∷ [])) ∷ (refused) ∷ (refused) ∷ [])
run_4-entries = refl

pub run_4-state : shown_of (final_of (initial_state_of (plan 9 6 ((cpu 2 16 (op.Poll ∷ (op.Ipl 19 48) ∷ (op.Nmi 2) ∷ (op.Dfr 0) ∷ op.Eoi ∷ [])) ∷ (cpu 9 16 (op.Imcr ∷ (op.Init 2) ∷ (op.Pause 10000) ∷ (op.Startup 2 159) ∷ (op.Startup 2 159) ∷ (op.Check 2) ∷ (op.Ldr 2) ∷ (op.Ldr 18) ∷ (op.Tpr 37) ∷ op.Poll ∷ [])) ∷ []) ([]) true ([]))) (((Cpu 9), offer.Next) ∷ ((Cpu 9), offer.Next) ∷ ((Cpu 9), offer.Next) ∷ ((Cpu 9), offer.Next) ∷ ((Cpu 2), offer.Next) ∷ ((Cpu 9), offer.Next) ∷ ((Cpu 9), offer.Next) ∷ ((Cpu 2), offer.Next) ∷ ((Cpu 9), offer.Next) ∷ ((Cpu 9), offer.Next) ∷ ((Cpu 9), offer.Next) ∷ ((Cpu 9), offer.Next) ∷ ((Cpu 2), offer.Next) ∷ ((Cpu 2), offer.Next) ∷ ((Cpu 2), offer.Next) ∷ ((Cpu 2), offer.Next) ∷ ((Cpu 9), offer.Next) ∷ [])) ≡ record { cpus = ((shown 2 5 (life.Started 159) ([]) ([]) ([]) 0 0 0) ∷ (shown 9 10 life.First ([]) ([]) ([]) 37 18 15) ∷ []); ios = ([]); devices = ([]); imcr = imcr.Apic; warm = None }
run_4-state = refl

-- run_5
pub run_5-entries : entries_of (initial_state_of (plan 0 21 ((cpu 0 16 (op.Imcr ∷ (op.Warm 159) ∷ (op.Init 3) ∷ (op.Pause 10000) ∷ (op.Check 3) ∷ (op.IoSel 0 51) ∷ (op.IoWin 0 50331648) ∷ (op.IoSel 0 50) ∷ (op.IoWin 0 10511) ∷ (op.IoSel 0 43) ∷ (op.IoWin 0 16777216) ∷ (op.IoSel 0 42) ∷ (op.IoWin 0 34865) ∷ (op.IoSel 1 51) ∷ (op.IoWin 1 50331648) ∷ (op.IoSel 1 50) ∷ (op.IoWin 1 33023) ∷ (op.IoSel 1 43) ∷ (op.IoWin 1 251658240) ∷ (op.IoSel 1 42) ∷ (op.IoWin 1 33279) ∷ [])) ∷ (cpu 3 1 ([])) ∷ []) (17 ∷ 2 ∷ []) true (((word.High 0 6) ∷ (word.Pulse 1 17) ∷ (word.Pulse 1 17) ∷ []) ∷ []))) (((Cpu 0), offer.Next) ∷ ((Io 0), offer.Next) ∷ ((Cpu 0), offer.Next) ∷ ((Cpu 0), offer.Next) ∷ ((Cpu 0), offer.Next) ∷ ((Dev 0), offer.Next) ∷ ((Cpu 0), offer.Next) ∷ ((Cpu 0), offer.Next) ∷ ((Cpu 0), offer.Next) ∷ ((Cpu 0), offer.Next) ∷ ((Cpu 0), offer.Next) ∷ ((Cpu 0), offer.Next) ∷ ((Cpu 0), offer.Next) ∷ ((Cpu 0), offer.Next) ∷ ((Cpu 0), offer.Next) ∷ ((Cpu 0), offer.Next) ∷ ((Cpu 0), offer.Next) ∷ ((Cpu 0), offer.Next) ∷ ((Cpu 0), offer.Next) ∷ ((Cpu 0), offer.Next) ∷ ((Cpu 0), offer.Next) ∷ ((Cpu 0), offer.Next) ∷ ((Cpu 0), offer.Next) ∷ ((Io 1), (offer.Collect 131072)) ∷ ((Io 1), offer.Sweep) ∷ ((Dev 0), offer.Next) ∷ ((Dev 0), offer.Next) ∷ ((Cpu 3), offer.Sweep) ∷ ((Cpu 0), (offer.Collect 16504528)) ∷ ((Io 1), (offer.Collect 131072)) ∷ ((Dev 0), offer.Next) ∷ ((Io 1), offer.Next) ∷ ((Io 0), offer.Sweep) ∷ ((Io 1), offer.Sweep) ∷ ((Cpu 0), offer.Next) ∷ ((Cpu 3), offer.Next) ∷ ((Io 0), offer.Next) ∷ ((Io 1), offer.Next) ∷ ((Dev 0), offer.Next) ∷ []) ≡ ((told op.Imcr ((at 0 what.Done) ∷ [])) ∷ (refused) ∷ (told (op.Warm 159) ((at 0 what.Done) ∷ [])) ∷ (told (op.Init 3) ((at 3 (what.Started 159)) ∷ [])) ∷ (told (op.Pause 10000) ((at 0 what.Done) ∷ [])) ∷ (refused) ∷ (told (op.Check 3) ((at 3 (what.Runs 159)) ∷ [])) ∷ (told (op.IoSel 0 51) ((at 0 what.Done) ∷ [])) ∷ (told (op.IoWin 0 50331648) ((at 0 what.Plain) ∷ [])) ∷ (told (op.IoSel 0 50) ((at 0 what.Done) ∷ [])) ∷ (told (op.IoWin 0 10511) ((at 0 what.Plain) ∷ [])) ∷ (told (op.IoSel 0 43) ((at 0 what.Done) ∷ [])) ∷ (told (op.IoWin 0 16777216) ((at 0 what.Plain) ∷ [])) ∷ (told (op.IoSel 0 42) ((at 0 what.Done) ∷ [])) ∷ (told (op.IoWin 0 34865) ((at 0 what.Plain) ∷ [])) ∷ (told (op.IoSel 1 51) ((at 0 what.Done) ∷ [])) ∷ (told (op.IoWin 1 50331648) ((at 0 what.Plain) ∷ [])) ∷ (told (op.IoSel 1 50) ((at 0 what.Done) ∷ [])) ∷ (told (op.IoWin 1 33023) ((at 0 what.Plain) ∷ [])) ∷ (told (op.IoSel 1 43) ((at 0 what.Done) ∷ [])) ∷ (told (op.IoWin 1 251658240) ((at 0 what.Plain) ∷ [])) ∷ (told (op.IoSel 1 42) ((at 0 what.Done) ∷ [])) ∷ (told (op.IoWin 1 33279) ((at 0 what.Plain) ∷ [])) ∷ (told (op.Collect 131072) ((at 0 (what.Pins 0 0)) ∷ [])) ∷ (refused) ∷ (told op.Begin ((at 0 what.Done) ∷ [])) ∷ (told (op.High 0 6) ((at 0 what.Plain) ∷ [])) ∷ (refused) ∷ (refused) ∷ (told (op.Collect 131072) ((at 0 (what.Pins 0 0)) ∷ [])) ∷ (told op.End ((at 0 what.Done) ∷ [])) ∷ (refused) ∷ (told op.Sweep ((at 0 what.Done) ∷ [])) ∷ (told op.Sweep ((at 0 what.Done) ∷ [])) ∷ (refused) ∷ (refused) ∷ (refused) ∷ (refused) ∷ (refused) ∷ [])
run_5-entries = refl

pub run_5-state : shown_of (final_of (initial_state_of (plan 0 21 ((cpu 0 16 (op.Imcr ∷ (op.Warm 159) ∷ (op.Init 3) ∷ (op.Pause 10000) ∷ (op.Check 3) ∷ (op.IoSel 0 51) ∷ (op.IoWin 0 50331648) ∷ (op.IoSel 0 50) ∷ (op.IoWin 0 10511) ∷ (op.IoSel 0 43) ∷ (op.IoWin 0 16777216) ∷ (op.IoSel 0 42) ∷ (op.IoWin 0 34865) ∷ (op.IoSel 1 51) ∷ (op.IoWin 1 50331648) ∷ (op.IoSel 1 50) ∷ (op.IoWin 1 33023) ∷ (op.IoSel 1 43) ∷ (op.IoWin 1 251658240) ∷ (op.IoSel 1 42) ∷ (op.IoWin 1 33279) ∷ [])) ∷ (cpu 3 1 ([])) ∷ []) (17 ∷ 2 ∷ []) true (((word.High 0 6) ∷ (word.Pulse 1 17) ∷ (word.Pulse 1 17) ∷ []) ∷ []))) (((Cpu 0), offer.Next) ∷ ((Io 0), offer.Next) ∷ ((Cpu 0), offer.Next) ∷ ((Cpu 0), offer.Next) ∷ ((Cpu 0), offer.Next) ∷ ((Dev 0), offer.Next) ∷ ((Cpu 0), offer.Next) ∷ ((Cpu 0), offer.Next) ∷ ((Cpu 0), offer.Next) ∷ ((Cpu 0), offer.Next) ∷ ((Cpu 0), offer.Next) ∷ ((Cpu 0), offer.Next) ∷ ((Cpu 0), offer.Next) ∷ ((Cpu 0), offer.Next) ∷ ((Cpu 0), offer.Next) ∷ ((Cpu 0), offer.Next) ∷ ((Cpu 0), offer.Next) ∷ ((Cpu 0), offer.Next) ∷ ((Cpu 0), offer.Next) ∷ ((Cpu 0), offer.Next) ∷ ((Cpu 0), offer.Next) ∷ ((Cpu 0), offer.Next) ∷ ((Cpu 0), offer.Next) ∷ ((Io 1), (offer.Collect 131072)) ∷ ((Io 1), offer.Sweep) ∷ ((Dev 0), offer.Next) ∷ ((Dev 0), offer.Next) ∷ ((Cpu 3), offer.Sweep) ∷ ((Cpu 0), (offer.Collect 16504528)) ∷ ((Io 1), (offer.Collect 131072)) ∷ ((Dev 0), offer.Next) ∷ ((Io 1), offer.Next) ∷ ((Io 0), offer.Sweep) ∷ ((Io 1), offer.Sweep) ∷ ((Cpu 0), offer.Next) ∷ ((Cpu 3), offer.Next) ∷ ((Io 0), offer.Next) ∷ ((Io 1), offer.Next) ∷ ((Dev 0), offer.Next) ∷ [])) ≡ record { cpus = ((shown 0 21 life.First ([]) ([]) ([]) 0 0 15) ∷ (shown 3 0 (life.Started 159) ([]) ([]) ([]) 0 0 15) ∷ []); ios = ((shown_io 42 1 1 true 64 0 0 ((65536, 0) ∷ (65536, 0) ∷ (65536, 0) ∷ (65536, 0) ∷ (65536, 0) ∷ (65536, 0) ∷ (65536, 0) ∷ (65536, 0) ∷ (65536, 0) ∷ (65536, 0) ∷ (65536, 0) ∷ (65536, 0) ∷ (65536, 0) ∷ (34865, 16777216) ∷ (65536, 0) ∷ (65536, 0) ∷ (65536, 0) ∷ (10511, 50331648) ∷ (65536, 0) ∷ (65536, 0) ∷ (65536, 0) ∷ (65536, 0) ∷ (65536, 0) ∷ (65536, 0) ∷ [])) ∷ (shown_io 42 2 2 true 0 0 0 ((65536, 0) ∷ (65536, 0) ∷ (65536, 0) ∷ (65536, 0) ∷ (65536, 0) ∷ (65536, 0) ∷ (65536, 0) ∷ (65536, 0) ∷ (65536, 0) ∷ (65536, 0) ∷ (65536, 0) ∷ (65536, 0) ∷ (65536, 0) ∷ (33279, 251658240) ∷ (65536, 0) ∷ (65536, 0) ∷ (65536, 0) ∷ (33023, 50331648) ∷ (65536, 0) ∷ (65536, 0) ∷ (65536, 0) ∷ (65536, 0) ∷ (65536, 0) ∷ (65536, 0) ∷ [])) ∷ []); devices = (3 ∷ []); imcr = imcr.Apic; warm = (Some 159) }
run_5-state = refl

-- run_6
pub run_6-entries : entries_of (initial_state_of (plan 9 9 ((cpu 2 16 ((op.Ipl 17 33) ∷ op.Take ∷ op.Take ∷ (op.Ldr 1) ∷ op.Take ∷ [])) ∷ (cpu 3 1 ((op.Ipl 32 33) ∷ [])) ∷ (cpu 9 16 ((op.Init 2) ∷ (op.Pause 10000) ∷ (op.Startup 2 159) ∷ (op.Startup 2 159) ∷ (op.Check 2) ∷ (op.Warm 159) ∷ (op.Init 3) ∷ (op.Pause 10000) ∷ (op.Check 3) ∷ op.Take ∷ op.Eoi ∷ op.Poll ∷ [])) ∷ []) ([]) false ([]))) (((Cpu 9), (offer.Collect 16777216)) ∷ ((Cpu 9), offer.Next) ∷ ((Cpu 9), offer.Next) ∷ ((Cpu 9), offer.Next) ∷ ((Cpu 9), offer.Next) ∷ ((Cpu 2), offer.Next) ∷ ((Cpu 9), (offer.Collect 16777216)) ∷ ((Cpu 9), offer.Next) ∷ ((Cpu 9), offer.Next) ∷ ((Cpu 9), offer.Next) ∷ ((Cpu 3), offer.Next) ∷ ((Cpu 9), offer.Next) ∷ ((Cpu 2), (offer.Collect 0)) ∷ ((Cpu 3), (offer.Collect 3165440)) ∷ ((Cpu 9), offer.Next) ∷ ((Cpu 2), offer.Next) ∷ ((Cpu 3), offer.Next) ∷ ((Cpu 9), offer.Next) ∷ []) ≡ ((refused) ∷ (told (op.Init 2) ((at 2 what.Waiting) ∷ [])) ∷ (told (op.Pause 10000) ((at 0 what.Done) ∷ [])) ∷ (told (op.Startup 2 159) ((at 2 (what.Started 159)) ∷ [])) ∷ (told (op.Startup 2 159) ((at 2 what.Ignored) ∷ [])) ∷ (told (op.Ipl 17 33) ((at 17 what.Absent) ∷ [])) ∷ (refused) ∷ (told (op.Check 2) ((at 2 (what.Runs 159)) ∷ [])) ∷ (told (op.Warm 159) ((at 0 what.Done) ∷ [])) ∷ (told (op.Init 3) ((at 3 (what.Started 159)) ∷ [])) ∷ (told (op.Ipl 32 33) ((at 32 what.Absent) ∷ [])) ∷ (told (op.Pause 10000) ((at 0 what.Done) ∷ [])) ∷ (refused) ∷ (refused) ∷ (told (op.Check 3) ((at 3 (what.Runs 159)) ∷ [])) ∷ (refused) ∷ (refused) ∷ (refused) ∷ [])
run_6-entries = refl

pub run_6-state : shown_of (final_of (initial_state_of (plan 9 9 ((cpu 2 16 ((op.Ipl 17 33) ∷ op.Take ∷ op.Take ∷ (op.Ldr 1) ∷ op.Take ∷ [])) ∷ (cpu 3 1 ((op.Ipl 32 33) ∷ [])) ∷ (cpu 9 16 ((op.Init 2) ∷ (op.Pause 10000) ∷ (op.Startup 2 159) ∷ (op.Startup 2 159) ∷ (op.Check 2) ∷ (op.Warm 159) ∷ (op.Init 3) ∷ (op.Pause 10000) ∷ (op.Check 3) ∷ op.Take ∷ op.Eoi ∷ op.Poll ∷ [])) ∷ []) ([]) false ([]))) (((Cpu 9), (offer.Collect 16777216)) ∷ ((Cpu 9), offer.Next) ∷ ((Cpu 9), offer.Next) ∷ ((Cpu 9), offer.Next) ∷ ((Cpu 9), offer.Next) ∷ ((Cpu 2), offer.Next) ∷ ((Cpu 9), (offer.Collect 16777216)) ∷ ((Cpu 9), offer.Next) ∷ ((Cpu 9), offer.Next) ∷ ((Cpu 9), offer.Next) ∷ ((Cpu 3), offer.Next) ∷ ((Cpu 9), offer.Next) ∷ ((Cpu 2), (offer.Collect 0)) ∷ ((Cpu 3), (offer.Collect 3165440)) ∷ ((Cpu 9), offer.Next) ∷ ((Cpu 2), offer.Next) ∷ ((Cpu 3), offer.Next) ∷ ((Cpu 9), offer.Next) ∷ [])) ≡ record { cpus = ((shown 2 1 (life.Started 159) ([]) ([]) ([]) 0 0 15) ∷ (shown 3 1 (life.Started 159) ([]) ([]) ([]) 0 0 15) ∷ (shown 9 9 life.First ([]) ([]) ([]) 0 0 15) ∷ []); ios = ([]); devices = ([]); imcr = imcr.Absent; warm = (Some 159) }
run_6-state = refl

-- run_7
pub run_7-entries : entries_of (initial_state_of (plan 3 20 ((cpu 2 1 ((op.IoWin 1 106815) ∷ [])) ∷ (cpu 3 1 ((op.Warm 159) ∷ (op.Init 2) ∷ (op.Pause 10000) ∷ (op.Check 2) ∷ (op.IoSel 0 53) ∷ (op.IoWin 0 251658240) ∷ (op.IoSel 0 52) ∷ (op.IoWin 0 34608) ∷ (op.IoSel 0 43) ∷ (op.IoWin 0 16777216) ∷ (op.IoSel 0 42) ∷ (op.IoWin 0 10512) ∷ (op.IoSel 1 53) ∷ (op.IoWin 1 50331648) ∷ (op.IoSel 1 52) ∷ (op.IoWin 1 63) ∷ (op.IoSel 1 43) ∷ (op.IoWin 1 16777216) ∷ (op.IoSel 1 42) ∷ (op.IoWin 1 8719) ∷ (op.Ipl 3 48) ∷ op.Poll ∷ (op.Nmi 3) ∷ (op.Ldr 1) ∷ [])) ∷ []) (17 ∷ 2 ∷ []) false (((word.High 1 18) ∷ (word.High 1 18) ∷ (word.High 1 13) ∷ []) ∷ ((word.High 1 19) ∷ (word.High 1 18) ∷ (word.Low 1 18) ∷ (word.Pulse 0 19) ∷ []) ∷ []))) (((Cpu 3), offer.Next) ∷ ((Cpu 3), offer.Next) ∷ ((Cpu 2), offer.Next) ∷ ((Cpu 3), offer.Next) ∷ ((Cpu 3), offer.Next) ∷ ((Cpu 3), offer.Next) ∷ ((Cpu 3), offer.Next) ∷ ((Cpu 2), (offer.Collect 0)) ∷ ((Cpu 3), offer.Next) ∷ ((Cpu 3), offer.Next) ∷ ((Cpu 3), offer.Next) ∷ ((Cpu 3), offer.Next) ∷ ((Cpu 3), offer.Next) ∷ ((Cpu 3), offer.Next) ∷ ((Dev 1), (offer.Collect 0)) ∷ ((Cpu 3), offer.Next) ∷ ((Cpu 3), offer.Next) ∷ ((Cpu 3), offer.Next) ∷ ((Cpu 3), offer.Next) ∷ ((Cpu 3), offer.Next) ∷ ((Cpu 3), offer.Next) ∷ ((Cpu 3), offer.Next) ∷ ((Cpu 3), offer.Next) ∷ ((Dev 0), offer.Next) ∷ ((Dev 1), offer.Next) ∷ ((Dev 1), offer.Next) ∷ ((Io 0), (offer.Collect 524288)) ∷ ((Dev 0), offer.Next) ∷ ((Cpu 3), offer.Next) ∷ ((Dev 1), offer.Next) ∷ ((Dev 1), offer.Next) ∷ ((Dev 1), offer.Next) ∷ ((Cpu 2), offer.Next) ∷ ((Dev 0), offer.Next) ∷ ((Cpu 3), offer.Next) ∷ ((Dev 0), offer.Next) ∷ ((Cpu 3), offer.Next) ∷ ((Dev 0), offer.Next) ∷ ((Cpu 3), offer.Next) ∷ ((Io 1), offer.Sweep) ∷ ((Io 0), offer.Sweep) ∷ ((Cpu 2), offer.Next) ∷ ((Cpu 3), offer.Next) ∷ ((Io 0), offer.Next) ∷ ((Io 1), offer.Next) ∷ ((Dev 0), offer.Next) ∷ ((Dev 1), offer.Next) ∷ []) ≡ ((told (op.Warm 159) ((at 0 what.Done) ∷ [])) ∷ (told (op.Init 2) ((at 2 (what.Started 159)) ∷ [])) ∷ (told (op.IoWin 1 106815) ((at 0 what.Plain) ∷ [])) ∷ (told (op.Pause 10000) ((at 0 what.Done) ∷ [])) ∷ (told (op.Check 2) ((at 2 (what.Runs 159)) ∷ [])) ∷ (told (op.IoSel 0 53) ((at 0 what.Done) ∷ [])) ∷ (told (op.IoWin 0 251658240) ((at 0 what.Plain) ∷ [])) ∷ (refused) ∷ (told (op.IoSel 0 52) ((at 0 what.Done) ∷ [])) ∷ (told (op.IoWin 0 34608) ((at 0 what.Plain) ∷ [])) ∷ (told (op.IoSel 0 43) ((at 0 what.Done) ∷ [])) ∷ (told (op.IoWin 0 16777216) ((at 0 what.Plain) ∷ [])) ∷ (told (op.IoSel 0 42) ((at 0 what.Done) ∷ [])) ∷ (told (op.IoWin 0 10512) ((at 0 what.Plain) ∷ [])) ∷ (refused) ∷ (told (op.IoSel 1 53) ((at 0 what.Done) ∷ [])) ∷ (told (op.IoWin 1 50331648) ((at 0 what.Plain) ∷ [])) ∷ (told (op.IoSel 1 52) ((at 0 what.Done) ∷ [])) ∷ (told (op.IoWin 1 63) ((at 0 what.Plain) ∷ [])) ∷ (told (op.IoSel 1 43) ((at 0 what.Done) ∷ [])) ∷ (told (op.IoWin 1 16777216) ((at 0 what.Plain) ∷ [])) ∷ (told (op.IoSel 1 42) ((at 0 what.Done) ∷ [])) ∷ (told (op.IoWin 1 8719) ((at 0 what.Plain) ∷ [])) ∷ (told op.Begin ((at 0 what.Done) ∷ [])) ∷ (told op.Begin ((at 0 what.Done) ∷ [])) ∷ (told (op.High 1 19) ((at 0 what.Plain) ∷ [])) ∷ (told (op.Collect 524288) ((at 0 (what.Pins 0 0)) ∷ [])) ∷ (told (op.High 1 18) ((at 0 what.Plain) ∷ [])) ∷ (told (op.Ipl 3 48) ((at 3 what.Absent) ∷ [])) ∷ (told (op.High 1 18) ((at 0 what.Plain) ∷ [])) ∷ (told (op.Low 1 18) ((at 0 what.Plain) ∷ [])) ∷ (told op.End ((at 0 what.Done) ∷ [])) ∷ (refused) ∷ (told (op.High 1 18) ((at 0 what.Plain) ∷ [])) ∷ (told op.Poll ((at 0 what.Nothing) ∷ [])) ∷ (told (op.High 1 13) ((at 0 what.Plain) ∷ [])) ∷ (told (op.Nmi 3) ((at 3 what.Nmi) ∷ [])) ∷ (told op.End ((at 0 what.Done) ∷ [])) ∷ (told (op.Ldr 1) ((at 0 what.Done) ∷ [])) ∷ (told op.Sweep ((at 0 what.Done) ∷ [])) ∷ (told op.Sweep ((at 0 what.Done) ∷ [])) ∷ (refused) ∷ (refused) ∷ (refused) ∷ (refused) ∷ (refused) ∷ (refused) ∷ [])
run_7-entries = refl

pub run_7-state : shown_of (final_of (initial_state_of (plan 3 20 ((cpu 2 1 ((op.IoWin 1 106815) ∷ [])) ∷ (cpu 3 1 ((op.Warm 159) ∷ (op.Init 2) ∷ (op.Pause 10000) ∷ (op.Check 2) ∷ (op.IoSel 0 53) ∷ (op.IoWin 0 251658240) ∷ (op.IoSel 0 52) ∷ (op.IoWin 0 34608) ∷ (op.IoSel 0 43) ∷ (op.IoWin 0 16777216) ∷ (op.IoSel 0 42) ∷ (op.IoWin 0 10512) ∷ (op.IoSel 1 53) ∷ (op.IoWin 1 50331648) ∷ (op.IoSel 1 52) ∷ (op.IoWin 1 63) ∷ (op.IoSel 1 43) ∷ (op.IoWin 1 16777216) ∷ (op.IoSel 1 42) ∷ (op.IoWin 1 8719) ∷ (op.Ipl 3 48) ∷ op.Poll ∷ (op.Nmi 3) ∷ (op.Ldr 1) ∷ [])) ∷ []) (17 ∷ 2 ∷ []) false (((word.High 1 18) ∷ (word.High 1 18) ∷ (word.High 1 13) ∷ []) ∷ ((word.High 1 19) ∷ (word.High 1 18) ∷ (word.Low 1 18) ∷ (word.Pulse 0 19) ∷ []) ∷ []))) (((Cpu 3), offer.Next) ∷ ((Cpu 3), offer.Next) ∷ ((Cpu 2), offer.Next) ∷ ((Cpu 3), offer.Next) ∷ ((Cpu 3), offer.Next) ∷ ((Cpu 3), offer.Next) ∷ ((Cpu 3), offer.Next) ∷ ((Cpu 2), (offer.Collect 0)) ∷ ((Cpu 3), offer.Next) ∷ ((Cpu 3), offer.Next) ∷ ((Cpu 3), offer.Next) ∷ ((Cpu 3), offer.Next) ∷ ((Cpu 3), offer.Next) ∷ ((Cpu 3), offer.Next) ∷ ((Dev 1), (offer.Collect 0)) ∷ ((Cpu 3), offer.Next) ∷ ((Cpu 3), offer.Next) ∷ ((Cpu 3), offer.Next) ∷ ((Cpu 3), offer.Next) ∷ ((Cpu 3), offer.Next) ∷ ((Cpu 3), offer.Next) ∷ ((Cpu 3), offer.Next) ∷ ((Cpu 3), offer.Next) ∷ ((Dev 0), offer.Next) ∷ ((Dev 1), offer.Next) ∷ ((Dev 1), offer.Next) ∷ ((Io 0), (offer.Collect 524288)) ∷ ((Dev 0), offer.Next) ∷ ((Cpu 3), offer.Next) ∷ ((Dev 1), offer.Next) ∷ ((Dev 1), offer.Next) ∷ ((Dev 1), offer.Next) ∷ ((Cpu 2), offer.Next) ∷ ((Dev 0), offer.Next) ∷ ((Cpu 3), offer.Next) ∷ ((Dev 0), offer.Next) ∷ ((Cpu 3), offer.Next) ∷ ((Dev 0), offer.Next) ∷ ((Cpu 3), offer.Next) ∷ ((Io 1), offer.Sweep) ∷ ((Io 0), offer.Sweep) ∷ ((Cpu 2), offer.Next) ∷ ((Cpu 3), offer.Next) ∷ ((Io 0), offer.Next) ∷ ((Io 1), offer.Next) ∷ ((Dev 0), offer.Next) ∷ ((Dev 1), offer.Next) ∷ [])) ≡ record { cpus = ((shown 2 1 (life.Started 159) ([]) ([]) ([]) 0 0 15) ∷ (shown 3 24 life.First ([]) ([]) ([]) 0 1 15) ∷ []); ios = ((shown_io 42 1 1 true 0 0 0 ((65536, 0) ∷ (65536, 0) ∷ (65536, 0) ∷ (65536, 0) ∷ (65536, 0) ∷ (65536, 0) ∷ (65536, 0) ∷ (65536, 0) ∷ (65536, 0) ∷ (65536, 0) ∷ (65536, 0) ∷ (65536, 0) ∷ (65536, 0) ∷ (10512, 16777216) ∷ (65536, 0) ∷ (65536, 0) ∷ (65536, 0) ∷ (65536, 0) ∷ (34608, 251658240) ∷ (65536, 0) ∷ (65536, 0) ∷ (65536, 0) ∷ (65536, 0) ∷ (65536, 0) ∷ [])) ∷ (shown_io 42 0 0 true 794624 0 0 ((65536, 0) ∷ (65536, 0) ∷ (65536, 0) ∷ (65536, 0) ∷ (65536, 0) ∷ (65536, 0) ∷ (65536, 0) ∷ (65536, 0) ∷ (65536, 0) ∷ (65536, 0) ∷ (65536, 0) ∷ (65536, 0) ∷ (65536, 0) ∷ (8719, 16777216) ∷ (65536, 0) ∷ (65536, 0) ∷ (65536, 0) ∷ (65536, 0) ∷ (63, 50331648) ∷ (65536, 0) ∷ (65536, 0) ∷ (65536, 0) ∷ (65536, 0) ∷ (65536, 0) ∷ [])) ∷ []); devices = (5 ∷ 5 ∷ []); imcr = imcr.Absent; warm = (Some 159) }
run_7-state = refl
