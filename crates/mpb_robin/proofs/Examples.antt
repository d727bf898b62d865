-- The round robin of a worked board, by computation: three devices pulse one pin, and two of the pulses merge.
use Rattle.std.proofs.Common.{◌≡◌, false, List, [], ◌∷◌, map, refl}
use Rattle.mpb_spec.specs.declared.agent.Agent.{Agent}
use Rattle.mpb_spec.specs.declared.agent.Agent.TheVariants.{Cpu, Io, Dev}
use Rattle.mpb_spec.specs.declared.agent.Op.{Op}
use Rattle.mpb_spec.specs.declared.agent.Op.TheVariants as op
use Rattle.mpb_spec.specs.declared.config.DevWord.TheVariants as word
use Rattle.mpb_spec.specs.Plan.{Plan}
use Rattle.mpb_spec.specs.declared.pulse.Hit.TheVariants.{New, Merged}
use Rattle.mpb_spec.specs.declared.pulse.Pulse.{Pulse}
use Rattle.mpb_robin.specs.RoundRobin.{Run, rounds, first_run}

-- one processor, whose boot program sets pin 1 to vector 21h, and three devices that pulse it
three_pulses : Plan
three_pulses = record {
  boot = 0;
  boot_len = 4;
  cpus = record { id = 0; version = 16; program = op.IoSel 0 0x13 ∷ op.IoWin 0 0 ∷ op.IoSel 0 0x12 ∷ op.IoWin 0 0x21 ∷ op.Take ∷ op.Eoi ∷ [] } ∷ [];
  ios = 1 ∷ [];
  imcr = false;
  devices = (word.Pulse 0 1 ∷ []) ∷ (word.Pulse 0 1 ∷ []) ∷ (word.Pulse 0 1 ∷ []) ∷ [];
}

pin_1 : Pulse
pin_1 = record { io = 0; pin = 1 }

ops_in : Run → List (Agent × Op)
ops_in r = map (λ x. (x.agent, x.op)) r.journal

gathers_three_pulses
    : ops_in (rounds 9 (first_run three_pulses))
    ≡ (Cpu 0, op.IoSel 0 0x13)
    ∷ (Cpu 0, op.IoWin 0 0)
    ∷ (Cpu 0, op.IoSel 0 0x12)
    ∷ (Cpu 0, op.IoWin 0 0x21)
    ∷ (Dev 0, op.Begin)
    ∷ (Dev 1, op.Begin)
    ∷ (Dev 2, op.Begin)
    ∷ (Io 0, op.Collect 2)
    ∷ (Dev 0, op.End)
    ∷ (Dev 1, op.End)
    ∷ (Dev 2, op.End)
    ∷ (Io 0, op.Send 1)
    ∷ (Cpu 0, op.Take)
    ∷ (Io 0, op.Sweep)
    ∷ (Cpu 0, op.Eoi)
    ∷ []
unfolding three_pulses ops_in
gathers_three_pulses = refl

logs_of_three_pulses : (rounds 9 (first_run three_pulses)).logs ≡ ((pin_1, New) ∷ []) ∷ ((pin_1, Merged) ∷ []) ∷ ((pin_1, Merged) ∷ []) ∷ []
unfolding three_pulses pin_1
logs_of_three_pulses = refl
