-- The findings of an audit: each triple of a rule's number and two places for which the rule is broken, once, in order.
use Rattle.std.specs.Prelude.{◌≡◌, ℕ, ◌+◌, ◌<◌, ◌⊎◌, List, [], ◌∷◌, Some, slice_get, ⊤}
use Rattle.std.specs.List.{Contains}
use Rattle.mpt_spec.specs.declared.pointer.Pointer.{Pointer}
use Rattle.mpt_spec.specs.declared.tables.Table.{Table}
use Rattle.mpt_spec.specs.declared.tables.Tables.{Tables}
use Rattle.mpt_spec.specs.declared.tables.Body.{Body}
use Rattle.mpt_spec.specs.declared.tables.Body.TheVariants as body
use Rattle.mpt_rules.specs.declared.rule.TableRule.TheVariants as on_table
use Rattle.mpt_rules.specs.declared.rule.BaseRule.TheVariants as on_base
use Rattle.mpt_rules.specs.declared.rule.ExtRule.TheVariants as on_ext
use Rattle.mpt_rules.specs.declared.rule.Rule.{Rule}
use Rattle.mpt_rules.specs.declared.rule.Rule.TheVariants as rule
use Rattle.mpt_rules.specs.declared.rule.Finding.{Finding}
use Rattle.mpt_rules.specs.Places.{nowhere}
use Rattle.mpt_spec.specs.Canonical.{HasClearPointerBits}
use Rattle.mpt_rules.specs.Rules.{BreaksRule}

-- the rules by number, from 1
abbrev pub rules : List Rule
rules =
    rule.Table on_table.NoBootProcessor ∷ rule.Base on_base.SecondBootFlag ∷ rule.Base on_base.DisabledBoot ∷ rule.Base on_base.DuplicateProcessorId
    ∷ rule.Base on_base.DuplicateIoApicId ∷ rule.Base on_base.SharedId ∷ rule.Base on_base.BusOutOfOrder ∷ rule.Table on_table.NoIoApic
    ∷ rule.Base on_base.UnknownBusName ∷ rule.Base on_base.TypeBelow ∷ rule.Base on_base.UnknownBus ∷ rule.Base on_base.UnknownDestination
    ∷ rule.Base on_base.PinOutOfRange ∷ rule.Base on_base.ReservedBits ∷ rule.Table on_table.ReservedHeaderBits ∷ rule.Base on_base.ReservedValue
    ∷ rule.Ext on_ext.ReservedExt ∷ rule.Base on_base.DuplicateSource ∷ rule.Base on_base.OtherSense ∷ rule.Table on_table.TwoRevisions
    ∷ rule.Ext on_ext.RangePastTop ∷ rule.Ext on_ext.MeetingRange ∷ rule.Ext on_ext.UnknownExtBus ∷ rule.Ext on_ext.BusLoop ∷ []

-- the table breaks the rule of the finding's number at its places
pub record IsTableFinding (p : Pointer) (t : Table) (f : Finding) : Type 0 where
  pub rule : Rule
  pub place : ℕ
  pub number : f.rule ≡ place + 1
  pub listed : slice_get rules place ≡ Some rule
  pub broken : BreaksRule p t rule f.entry f.other

-- of a default configuration only the pointer's reserved bits are asked
abbrev pub IsDefaultFinding : Pointer → Finding → Type 0
IsDefaultFinding p f = (¬ HasClearPointerBits p) × (f.rule ≡ 15) × (f.entry ≡ nowhere) × (f.other ≡ nowhere)

abbrev pub IsFindingOf : Pointer → Body → Finding → Type 0
IsFindingOf p (body.Default n) f = IsDefaultFinding p f
IsFindingOf p (body.Listed t) f = IsTableFinding p t f

-- by rule, then entry, then other
abbrev pub Precedes : Finding → Finding → Type 0
Precedes f g = (f.rule < g.rule) ⊎ ((f.rule ≡ g.rule) × ((f.entry < g.entry) ⊎ ((f.entry ≡ g.entry) × (f.other < g.other))))

abbrev pub IsAscending : List Finding → Type 0
IsAscending [] = ⊤
IsAscending (f ∷ []) = ⊤
IsAscending (f ∷ g ∷ fs) = Precedes f g × IsAscending (g ∷ fs)

-- all of which it holds, each once, in order
pub record ListsInOrder (Is : Finding → Type 0) (fs : List Finding) : Type 0 where
  pub sound : (f : Finding) → Contains fs f → Is f
  pub complete : (f : Finding) → Is f → Contains fs f
  pub ascending : IsAscending fs

-- the findings of the tables
abbrev pub AreFindingsOf : Tables → List Finding → Type 0
AreFindingsOf tables fs = ListsInOrder (IsFindingOf tables.pointer tables.body) fs
