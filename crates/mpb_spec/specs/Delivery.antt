-- What a message does at its targets (Intel SDM volume 3: INIT and STARTUP in section 8.4, interrupt messages in section 10.6,
-- of lowest priority in section 10.6.2.4; the start of old processors by the warm-reset vector in MultiProcessor Specification
-- 1.4, appendix B.4). Which messages are ignored or pass, and which processor is first among those of lowest priority, is this
-- project's own.
--     is_named to p                          the destination names the processor
--     is_target aim ps p                     the processor, among all, is a target of a message
--     received warm d p, answer warm d p     a target after the message, and what came of it
--     delivered aim d s                      the state after a message
--     delivery_outcomes aim d s              an outcome for each target, ascending by id, or Absent where there is none
use Rattle.std.specs.Prelude.{◌==◌, ℕ, Bool, false, not, ◌&&◌, ◌||◌, List, [], ◌∷◌, Option, None, Some, map, filter, if◌then◌else◌, nat_le, nat_lt}
use Rattle.std.specs.List.{list_any}
use Rattle.mpb_spec.specs.declared.entry.Outcome.{Outcome}
use Rattle.mpb_spec.specs.declared.entry.What.{What}
use Rattle.mpb_spec.specs.declared.entry.What.TheVariants as what
use Rattle.mpb_spec.specs.declared.apic.Accept.{Accept}
use Rattle.mpb_spec.specs.declared.apic.Accept.TheVariants as accept
use Rattle.mpb_spec.specs.declared.apic.Aim.{Aim}
use Rattle.mpb_spec.specs.declared.apic.Destination.{Destination}
use Rattle.mpb_spec.specs.declared.apic.Destination.TheVariants.{Physical, Logical}
use Rattle.mpb_spec.specs.declared.apic.Delivery.{Delivery}
use Rattle.mpb_spec.specs.declared.apic.Delivery.TheVariants.{Fixed, Nmi, Pass, Init, Startup}
use Rattle.mpb_spec.specs.declared.config.Life.{Life}
use Rattle.mpb_spec.specs.declared.config.Life.TheVariants as life
use Rattle.mpb_spec.specs.LocalApic.{acceptance, accepted, ppr, matches}
use Rattle.mpb_spec.specs.State.{Processor, BoardState, runs}

-- the destination names the processor: a physical one by its id, or each where it is the byte for all; a logical one where
-- its local APIC matches
abbrev pub is_named : Destination → Processor → Bool
is_named (Physical dest all) p = (dest == all) || (p.id == dest)
is_named (Logical dest) p = matches dest p.apic

-- the destination's byte
abbrev pub byte_of : Destination → ℕ
byte_of (Physical dest all) = dest
byte_of (Logical dest) = dest

-- the destination names it, and it runs
abbrev pub is_ready : Destination → Processor → Bool
is_ready to p = is_named to p && runs p.life

-- a processor is before another by its priority, and where both have the same by its id
abbrev pub is_before : Processor → Processor → Bool
is_before q p = nat_lt (ppr q.apic) (ppr p.apic) || ((ppr q.apic == ppr p.apic) && nat_lt q.id p.id)

-- of those that are named and run, none is before it
abbrev pub is_first : Destination → List Processor → Processor → Bool
is_first to ps p = is_ready to p && not (list_any (λ q. is_ready to q && is_before q p) ps)

-- the processor is a target: it is named, and for lowest priority, where some that is named runs, it is the first of these
abbrev pub is_target : Aim → List Processor → Processor → Bool
is_target aim ps p = if aim.lowest && list_any (is_ready aim.at) ps then is_first aim.at ps p else is_named aim.at p

-- a fixed message at a processor that runs
abbrev pub outcome_of_accept : Accept → What
outcome_of_accept accept.Set = what.Set
outcome_of_accept accept.Merged = what.Merged
outcome_of_accept accept.Illegal = what.Illegal

-- a processor that restarts: from the warm-reset vector, where it is set
abbrev pub started_by : Option ℕ → Life
started_by None = life.Asleep
started_by (Some page) = life.Started page

-- what comes of it: Started, or Ignored where the vector isn't set
abbrev pub start_outcome : Option ℕ → What
start_outcome None = what.Ignored
start_outcome (Some page) = what.Started page

-- INIT: a local APIC of version 10h or above waits for a STARTUP; an older one, asleep, restarts its processor
abbrev pub life_after_init : Option ℕ → ℕ → Life → Life
life_after_init warm version life.Asleep = if nat_le 16 version then life.Waiting else started_by warm
life_after_init warm version life.Waiting = life.Waiting
life_after_init warm version (life.Started page) = life.Started page
life_after_init warm version life.First = life.First

-- what comes of INIT
abbrev pub init_outcome : Option ℕ → ℕ → Life → What
init_outcome warm version life.Asleep = if nat_le 16 version then what.Waiting else start_outcome warm
init_outcome warm version life.Waiting = if nat_le 16 version then what.Waiting else what.Ignored
init_outcome warm version (life.Started page) = what.Ignored
init_outcome warm version life.First = what.Ignored

-- STARTUP: a processor that waits starts at the page
abbrev pub life_after_startup : ℕ → Life → Life
life_after_startup page life.Asleep = life.Asleep
life_after_startup page life.Waiting = life.Started page
life_after_startup page (life.Started p) = life.Started p
life_after_startup page life.First = life.First

-- what comes of STARTUP
abbrev pub startup_outcome : ℕ → Life → What
startup_outcome page life.Asleep = what.Ignored
startup_outcome page life.Waiting = what.Started page
startup_outcome page (life.Started p) = what.Ignored
startup_outcome page life.First = what.Ignored

-- a target after the message
abbrev pub received : Option ℕ → Delivery → Processor → Processor
received warm (Fixed v level) p = if runs p.life then record p { apic = accepted v level p.apic } else p
received warm Nmi p = p
received warm Pass p = p
received warm Init p = record p { life = life_after_init warm p.version p.life }
received warm (Startup page) p = record p { life = life_after_startup page p.life }

-- and what came of it
abbrev pub answer : Option ℕ → Delivery → Processor → What
answer warm (Fixed v level) p = if runs p.life then outcome_of_accept (acceptance v p.apic) else what.Asleep
answer warm Nmi p = if runs p.life then what.Nmi else what.Asleep
answer warm Pass p = if runs p.life then what.Passed else what.Asleep
answer warm Init p = init_outcome warm p.version p.life
answer warm (Startup page) p = startup_outcome page p.life

-- a processor after a message to those that pass a test
abbrev pub delivered_to : Option ℕ → (Processor → Bool) → Delivery → Processor → Processor
delivered_to warm test d p = if test p then received warm d p else p

-- all processors after a message
abbrev pub delivered : Aim → Delivery → BoardState → BoardState
delivered aim d s = record s { processors = map (delivered_to s.warm (is_target aim s.processors) d) s.processors }

-- one target's outcome
abbrev pub outcome_at : Option ℕ → Delivery → Processor → Outcome
outcome_at warm d p = record { at = p.id; what = answer warm d p }

-- these outcomes, or Absent where there is none
abbrev pub unless_absent : ℕ → List Outcome → List Outcome
unless_absent dest [] = record { at = dest; what = what.Absent } ∷ []
unless_absent dest (o ∷ os) = o ∷ os

-- the outcomes at those of these processors that pass a test
abbrev pub outcomes_at : Option ℕ → (Processor → Bool) → ℕ → Delivery → List Processor → List Outcome
outcomes_at warm test dest d ps = unless_absent dest (map (outcome_at warm d) (filter test ps))

-- the outcomes at the targets
abbrev pub delivery_outcomes : Aim → Delivery → BoardState → List Outcome
delivery_outcomes aim d s = outcomes_at s.warm (is_target aim s.processors) (byte_of aim.at) d s.processors

-- the aim of a processor's message: a physical destination, 255 for all, or a logical one
abbrev pub to_id : ℕ → Aim
to_id dest = record { at = Physical dest 255; lowest = false }

abbrev pub to_logical : ℕ → Aim
to_logical dest = record { at = Logical dest; lowest = false }
