-- What is found of an entry, or at a place. Only private functions cite this.
--     IsSameAt xs ys n                two lists have the same at a place
--     HasRegisters l a                a processor's line has the registers of the local APIC
--     IsLineOf l id p                 it is that of the processor that is found by this id
--     IsLineOfChip l c                an I/O APIC's line has its pins
--     AreAccounted io n journal logs  the first n pins of the I/O APIC are accounted for
--     IsFirstPin io pin journal logs, IsFirstPinOf ios at journal logs    the least pin of it, and of all, that isn't
--     IsCompared x made o             how the entry differs from the one that was made
--     IsMadeOrBad old new x o         it was made on the board, or it is no step of it
--     IsPlayed c journal entries o    all entries were made, or one of them is the first that is no step
use Rattle.std.specs.Prelude.{◌≡◌, ◌≢◌, ◌<◌, ℕ, slice_get, List, [], ◌∷◌, ◌++◌, Option, None, Some, length}
use Rattle.mpb_spec.specs.declared.entry.Entry.{Entry}
use Rattle.mpb_spec.specs.Journal.{IsLegal}
use Rattle.mpb_board.specs.BoardView.{BoardView, state_of}
use Rattle.mpb_replay_laws.specs.declared.verdict.BadWhy.{BadWhy}
use Rattle.mpb_replay_laws.specs.declared.verdict.BadWhy.TheVariants.{NoAgent, Waits, Program, Outcome}
use Rattle.mpb_spec.specs.Plan.{Plan}
use Rattle.mpb_replay_laws.specs.Wrong.{IsFirstWrong, IsFirstBad}
use Rattle.mpb_spec.specs.declared.pulse.Pulse.{Pulse}
use Rattle.mpb_spec.specs.declared.pulse.Hit.{Hit}
use Rattle.mpb_spec.specs.LocalApic.{LocalApic}
use Rattle.mpb_spec.specs.State.{Processor}
use Rattle.mpb_report_spec.specs.StateLines.{members}
use Rattle.mpb_spec.specs.IoApic.{IoChip, mask_by}
use Rattle.mpb_report_line.specs.declared.report.CpuLine.{CpuLine}
use Rattle.mpb_report_line.specs.declared.report.IoLine.{IoLine}
use Rattle.mpb_replay_laws.specs.Differences.{IsAccountedAt}
use Rattle.mpb_replay.specs.declared.entries.BadEntry.{BadEntry}
use Rattle.mpb_replay.specs.declared.accounts.PinAt.{PinAt}

-- how the entry differs from the one that was made: by its op, by its outcomes, or not
abbrev pub IsCompared : Entry → Entry → Option BadWhy → Type 0
IsCompared x made None = (made.op ≡ x.op) × (x.outcomes.items ≡ made.outcomes.items)
IsCompared x made (Some NoAgent) = ⊥
IsCompared x made (Some Waits) = ⊥
IsCompared x made (Some Program) = made.op ≢ x.op
IsCompared x made (Some Outcome) = (made.op ≡ x.op) × (x.outcomes.items ≢ made.outcomes.items)

-- the entry was made on the board, or it is no step of it, with its number and the first reason
abbrev pub IsMadeOrBad : BoardView → BoardView → Entry → Option BadEntry → Type 0
IsMadeOrBad old new x None = new.journal ≡ old.journal ++ x ∷ []
IsMadeOrBad old new x (Some b) = IsLegal old.plan old.journal × (b.entry ≡ length old.journal) × IsFirstWrong b.why old.plan (state_of old) x

-- all entries were made, or this is the first that is no step
abbrev pub IsPlayed : Plan → List Entry → List Entry → Option BadEntry → Type 0
IsPlayed c journal entries None = journal ≡ entries
IsPlayed c journal entries (Some b) = IsFirstBad c entries b.entry b.why

-- the lists have the same item at the place, or both have ended
abbrev pub IsSameAt : {X : Type 0} → List X → List X → ℕ → Type 0
IsSameAt xs ys n = slice_get xs n ≡ slice_get ys n

-- the first n pins of the I/O APIC are accounted for
abbrev pub AreAccounted : ℕ → ℕ → List Entry → List (List (Pulse × Hit)) → Type 0
AreAccounted io n journal logs = (pin : ℕ) → pin < n → IsAccountedAt io pin journal logs

-- the pin is its least that isn't
pub record IsFirstPin (io pin : ℕ) (journal : List Entry) (logs : List (List (Pulse × Hit))) : Type 0 where
  pub low : pin < 24
  pub wrong : ¬ IsAccountedAt io pin journal logs
  pub first : AreAccounted io pin journal logs

-- and the least of all I/O APICs
pub record IsFirstPinOf (ios : ℕ) (at : PinAt) (journal : List Entry) (logs : List (List (Pulse × Hit))) : Type 0 where
  pub place : at.io < ios
  pub pin : IsFirstPin at.io at.pin journal logs
  pub first : (io : ℕ) → io < at.io → AreAccounted io 24 journal logs

-- the line has the local APIC's task priority and its vectors
pub record HasRegisters (l : CpuLine) (a : LocalApic) : Type 0 where
  pub tpr : l.tpr ≡ a.tpr
  pub irr : l.irr ≡ members a.irr
  pub isr : l.isr ≡ members a.isr
  pub tmr : l.tmr ≡ members a.tmr

-- the line is that of the processor, which is found by this id
abbrev pub IsLineOf : CpuLine → ℕ → Option Processor → Type 0
IsLineOf l id None = ⊥
IsLineOf l id (Some p) = (l.id ≡ id) × (l.life ≡ p.life) × HasRegisters l p.apic

-- the line has the pins whose line is asserted, that are due, and that have remote IRR
pub record IsLineOfChip (l : IoLine) (c : IoChip) : Type 0 where
  pub line : l.line ≡ mask_by (λ p. p.line) c.pins
  pub due : l.due ≡ mask_by (λ p. p.due) c.pins
  pub remote : l.remote ≡ mask_by (λ p. p.remote) c.pins
