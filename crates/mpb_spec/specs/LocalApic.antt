-- A local APIC: vectors requested (IRR), in service (ISR) and level-triggered (TMR), and its priorities
-- (Intel SDM volume 3, sections 10.8.3 to 10.8.5), and its logical destination (section 10.6.2.2).
--     reset                  after a reset
--     ppr a                  the processor priority
--     next_vector a          the vector that is taken next
--     acceptance v a         what becomes of a fixed interrupt
--     accepted v level a     and what it leaves
--     taken a                after a vector was taken
--     ended a, after_end a   the interrupt whose service ends, and what that leaves
--     matches dest a         a logical destination is its own
use Rattle.std.specs.Prelude.{◌==◌, ℕ, ◌*◌, ◌/◌, ◌%◌, Bool, not, ◌&&◌, ◌||◌, List, [], Option, None, Some, nat_lt, nat_le, if◌then◌else◌, bit_and}
use Rattle.mpb_spec.specs.declared.apic.Accept.{Accept}
use Rattle.mpb_spec.specs.declared.apic.Accept.TheVariants.{Set, Merged, Illegal}
use Rattle.mpb_spec.specs.Numbers.{has, with_number, without, greatest}

-- requested, in service and level-triggered vectors, each list ascending, the task priority, the logical destination (bits
-- 31:24 of the LDR), and its model (bits 31:28 of the DFR)
pub record LocalApic : Type 0 where
  pub irr : List ℕ
  pub isr : List ℕ
  pub tmr : List ℕ
  pub tpr : ℕ
  pub ldr : ℕ
  pub dfr : ℕ

-- after a reset: no logical destination, in the flat model
abbrev pub reset : LocalApic
reset = record { irr = []; isr = []; tmr = []; tpr = 0; ldr = 0; dfr = 15 }

-- the processor priority, of the task priority and the greatest vector in service: that of the higher class, a class
-- being a sixteenth of a vector, the task's where both are the same
abbrev pub priority_over : ℕ → Option ℕ → ℕ
priority_over tpr None = tpr
priority_over tpr (Some top) = if nat_le (top / 16) (tpr / 16) then tpr else top / 16 * 16

-- the processor priority
abbrev pub ppr : LocalApic → ℕ
ppr a = priority_over a.tpr (greatest a.isr)

-- the vector where its class is above this priority's
abbrev pub above : ℕ → Option ℕ → Option ℕ
above p None = None
above p (Some v) = if nat_lt (p / 16) (v / 16) then Some v else None

-- the vector that is taken next: the greatest that is requested, where its class is above the processor priority's
abbrev pub next_vector : LocalApic → Option ℕ
next_vector a = above (ppr a) (greatest a.irr)

-- what becomes of a fixed interrupt: vectors below 16 are illegal
abbrev pub acceptance : ℕ → LocalApic → Accept
acceptance v a = if nat_lt v 16 then Illegal else (if has v a.irr then Merged else Set)

-- and what it leaves: the vector is requested, and its trigger is that of this interrupt
abbrev pub accepted : ℕ → Bool → LocalApic → LocalApic
accepted v level a =
    if nat_lt v 16 then a else record a { irr = with_number v a.irr; tmr = if level then with_number v a.tmr else without v a.tmr }

-- after this vector was taken: it goes from IRR to ISR
abbrev pub taken_from : LocalApic → Option ℕ → LocalApic
taken_from a None = a
taken_from a (Some v) = record a { irr = without v a.irr; isr = with_number v a.isr }

-- the local APIC after it took its next vector, where it has one
abbrev pub taken : LocalApic → LocalApic
taken a = taken_from a (next_vector a)

-- the interrupt whose service ends: the greatest vector in service, and whether it is level-triggered
abbrev pub ended_of : LocalApic → Option ℕ → Option (ℕ × Bool)
ended_of a None = None
ended_of a (Some v) = Some (v, has v a.tmr)

-- the end of the interrupt in service, none where nothing is
abbrev pub ended : LocalApic → Option (ℕ × Bool)
ended a = ended_of a (greatest a.isr)

-- what its end leaves
abbrev pub after_end_of : LocalApic → Option ℕ → LocalApic
after_end_of a None = a
after_end_of a (Some v) = record a { isr = without v a.isr }

-- the local APIC after that end
abbrev pub after_end : LocalApic → LocalApic
after_end a = after_end_of a (greatest a.isr)

-- flat model: some bit is set in both
abbrev pub matches_flat : ℕ → LocalApic → Bool
matches_flat dest a = (a.dfr == 15) && not (bit_and dest a.ldr == 0)

-- cluster model: the same cluster in bits 7:4, and some bit of 3:0 is set in both
abbrev pub matches_cluster : ℕ → LocalApic → Bool
matches_cluster dest a = (a.dfr == 0) && ((dest / 16 == a.ldr / 16) && not (bit_and (dest % 16) (a.ldr % 16) == 0))

-- a logical destination is its own: 255 is everyone's
abbrev pub matches : ℕ → LocalApic → Bool
matches dest a = (dest == 255) || (matches_flat dest a || matches_cluster dest a)
