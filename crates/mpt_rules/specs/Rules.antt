-- The audit rules, each a sentence over one place or two (MultiProcessor Specification 1.4, chapter 4). The choice of rules,
-- their numbers and the places that they name are this project's own.
--     BreaksTableRule p t rule           on the whole table
--     BreaksBaseRule es rule e i j       on the base entry e at place i, which names j
--     BreaksExtRule bases es rule e i j  on the extended entry e at place i, which names j
--     BreaksRule p t rule i j            all of them
--     IsPlaceOf t rule i                 a place at which the rule is asked
use Rattle.std.specs.Prelude.{◌≡◌, ◌≢◌, ℕ, zero, suc, ◌+◌, ◌/◌, ◌%◌, ◌≤◌, ◌<◌, ◌⊎◌, List, length, take, filter, Some, slice_get}
use Rattle.mpt_spec.specs.declared.entry.IntEntry.{IntEntry}
use Rattle.mpt_spec.specs.declared.entry.Base.{Base}
use Rattle.mpt_spec.specs.declared.entry.Base.TheVariants as base
use Rattle.mpt_spec.specs.declared.entry.Ext.{Ext}
use Rattle.mpt_spec.specs.declared.entry.Ext.TheVariants as ext
use Rattle.mpt_spec.specs.declared.pointer.Pointer.{Pointer}
use Rattle.mpt_spec.specs.declared.tables.Table.{Table}
use Rattle.mpt_rules.specs.declared.rule.TableRule.{TableRule}
use Rattle.mpt_rules.specs.declared.rule.TableRule.TheVariants as on_table
use Rattle.mpt_rules.specs.declared.rule.BaseRule.{BaseRule}
use Rattle.mpt_rules.specs.declared.rule.BaseRule.TheVariants as on_base
use Rattle.mpt_rules.specs.declared.rule.ExtRule.{ExtRule}
use Rattle.mpt_rules.specs.declared.rule.ExtRule.TheVariants as on_ext
use Rattle.mpt_rules.specs.declared.rule.Rule.{Rule}
use Rattle.mpt_rules.specs.declared.rule.Rule.TheVariants as rule
use Rattle.mpt_spec.specs.Canonical.{HasClearBits, HasClearExtBits, HasClearHeader, HasClearPointerBits}
use Rattle.mpt_rules.specs.Places.{HoldsAt, HoldsNowhere, IsFirstOf, IsFirstBefore, nowhere}
use Rattle.mpt_rules.specs.Entries.{IsBootProcessor, HasBootFlag, IsDisabledBoot, IsProcessorOf, IsIoApicOf, IsBusOf, IsEnabledIoApic, is_bus, SharesProcessorId, SharesIoApicId, SharesIdWithProcessor, IsUnknownBusName, IsPciBus, HasTypeAbove, HasPinOutOfRange, HasSameSource, DiffersInSense, HasReservedExtValue, PassesTop, MeetsRange, IsHierarchyOf, GivesParent}

-- rule 1 (section 4.3.1): no processor has EN and BP
abbrev pub LacksBootProcessor : List Base → Type 0
LacksBootProcessor es = HoldsNowhere IsBootProcessor es

-- rule 2 (section 4.3.1): a processor has BP, and an earlier one has too; it names the first processor with BP
abbrev pub HasSecondBootFlag : List Base → Base → ℕ → ℕ → Type 0
HasSecondBootFlag es e i j = HasBootFlag e × IsFirstBefore HasBootFlag es i j

-- rule 4 (section 4.3.1): an earlier processor has the same id; it names the first such
abbrev pub HasDuplicateProcessorId : List Base → Base → ℕ → ℕ → Type 0
HasDuplicateProcessorId es e i j = IsFirstBefore (SharesProcessorId e) es i j

-- rule 5 (section 4.3.3): an earlier I/O APIC has the same id; it names the first such
abbrev pub HasDuplicateIoApicId : List Base → Base → ℕ → ℕ → Type 0
HasDuplicateIoApicId es e i j = IsFirstBefore (SharesIoApicId e) es i j

-- rule 6 (section 3.6.6): a processor has the id of this I/O APIC; it names the first such
abbrev pub HasSharedId : List Base → Base → ℕ → Type 0
HasSharedId es e j = IsFirstOf (SharesIdWithProcessor e) es j

-- rule 7 (section 4.3.2): a bus entry after k others hasn't the id k
abbrev pub IsBusOutOfOrder : List Base → Base → ℕ → Type 0
IsBusOutOfOrder es (base.Bus b) i = b.id ≢ length (filter is_bus (take i es))
IsBusOutOfOrder es _ i = ⊥

-- rule 8 (section 4.3.3): no I/O APIC has EN
abbrev pub LacksIoApic : List Base → Type 0
LacksIoApic es = HoldsNowhere IsEnabledIoApic es

-- rule 10 (section 4.3): the type is below that of the entry before, which it names
abbrev pub HasTypeBelow : List Base → Base → ℕ → ℕ → Type 0
HasTypeBelow es e i j = (j + 1 ≡ i) × HoldsAt (HasTypeAbove e) es j

-- rule 11 (section 4.3.4): no bus has the source bus id of the interrupt
abbrev pub HasUnknownBus : List Base → Base → Type 0
HasUnknownBus es (base.IoInt a) = HoldsNowhere (IsBusOf a.bus) es
HasUnknownBus es (base.LocalInt a) = HoldsNowhere (IsBusOf a.bus) es
HasUnknownBus es _ = ⊥

-- rule 12 (sections 4.3.4 and 4.3.5): the destination isn't FFh, and no I/O APIC of an I/O interrupt, no processor of a local
-- one, has that id; disabled ones count as there
abbrev pub HasUnknownDestination : List Base → Base → Type 0
HasUnknownDestination es (base.IoInt a) = (a.dest ≢ 255) × HoldsNowhere (IsIoApicOf a.dest) es
HasUnknownDestination es (base.LocalInt a) = (a.dest ≢ 255) × HoldsNowhere (IsProcessorOf a.dest) es
HasUnknownDestination es _ = ⊥

-- the first bus of this id is PCI
abbrev pub IsPci : List Base → ℕ → Type 0
IsPci es id = (k : ℕ) × IsFirstOf (IsBusOf id) es k × HoldsAt IsPciBus es k

-- rule 16 (sections 4.3.4 and D.3): a kind above 3, polarity or trigger 10, or bit 7 of the IRQ of a PCI bus
abbrev pub IsReservedInterrupt : List Base → IntEntry → Type 0
IsReservedInterrupt es a = (3 < a.kind) ⊎ ((a.flags % 4 ≡ 2) ⊎ ((a.flags / 4 % 4 ≡ 2) ⊎ ((128 ≤ a.irq) × IsPci es a.bus)))

abbrev pub HasReservedValue : List Base → Base → Type 0
HasReservedValue es (base.IoInt a) = IsReservedInterrupt es a
HasReservedValue es (base.LocalInt a) = IsReservedInterrupt es a
HasReservedValue es _ = ⊥

-- rule 18 (section 4.3.4): an earlier I/O interrupt has the same kind, bus and IRQ; it names the first such
abbrev pub HasDuplicateSource : List Base → Base → ℕ → ℕ → Type 0
HasDuplicateSource es e i j = IsFirstBefore (HasSameSource e) es i j

-- rule 19 (section 4.3.4): an earlier I/O interrupt has the same destination, not FFh, and pin, and another kind or other
-- polarity or trigger bits; it names the first such
abbrev pub HasOtherSense : List Base → Base → ℕ → ℕ → Type 0
HasOtherSense es e i j = IsFirstBefore (DiffersInSense e) es i j

-- rule 17 (section 4.4): a reserved bit or a reserved value of an extended entry
abbrev pub IsReservedExt : Ext → Type 0
IsReservedExt e = (¬ HasClearExtBits e) ⊎ HasReservedExtValue e

-- rule 22 (section 4.4.1): an earlier range of the same kind meets this one; it names the first such
abbrev pub HasMeetingRange : List Ext → Ext → ℕ → ℕ → Type 0
HasMeetingRange es e i j = IsFirstBefore (MeetsRange e) es i j

-- rule 23 (section 4.4): no bus entry has the bus, or the parent, of an extended entry
abbrev pub HasUnknownExtBus : List Base → Ext → Type 0
HasUnknownExtBus bases (ext.Space e) = HoldsNowhere (IsBusOf e.bus) bases
HasUnknownExtBus bases (ext.Hierarchy e) = HoldsNowhere (IsBusOf e.bus) bases ⊎ HoldsNowhere (IsBusOf e.parent) bases
HasUnknownExtBus bases (ext.Modifier e) = HoldsNowhere (IsBusOf e.bus) bases
HasUnknownExtBus bases (ext.Opaque e) = ⊥

-- the parent of a bus is that of its first hierarchy entry
abbrev pub IsParentOf : List Ext → ℕ → ℕ → Type 0
IsParentOf es bus parent = (k : ℕ) × IsFirstOf (IsHierarchyOf bus) es k × HoldsAt (GivesParent parent) es k

-- from a bus, going to the parent again and again, the other is reached within n steps
unfoldable pub ReachesWithin : ℕ → List Ext → ℕ → ℕ → Type 0
ReachesWithin zero es from to = from ≡ to
ReachesWithin (suc n) es from to = (from ≡ to) ⊎ ((next : ℕ) × IsParentOf es from next × ReachesWithin n es next to)

-- rule 24 (section 4.4.2): from the parent of a hierarchy entry its own bus is reached
abbrev pub IsInBusLoop : List Ext → Ext → Type 0
IsInBusLoop es (ext.Hierarchy h) = ReachesWithin 256 es h.parent h.bus
IsInBusLoop es _ = ⊥

-- rule 15 (sections 4.1 and 4.2): a reserved bit of the floating pointer or of the header, at revision 1 its bytes 40 to 43
abbrev pub HasReservedHeaderBits : Pointer → Table → Type 0
HasReservedHeaderBits p t = (¬ HasClearPointerBits p) ⊎ (¬ HasClearHeader t)

-- the rules on the whole table: 1, 8, 15 and 20
abbrev pub BreaksTableRule : Pointer → Table → TableRule → Type 0
BreaksTableRule p t on_table.NoBootProcessor = LacksBootProcessor t.base
BreaksTableRule p t on_table.NoIoApic = LacksIoApic t.base
BreaksTableRule p t on_table.ReservedHeaderBits = HasReservedHeaderBits p t
BreaksTableRule p t on_table.TwoRevisions = p.revision ≢ t.revision

-- the rules on a base entry: 2 to 7, 9 to 14, 16, 18 and 19
abbrev pub BreaksBaseRule : List Base → BaseRule → Base → ℕ → ℕ → Type 0
BreaksBaseRule es on_base.SecondBootFlag e i j = HasSecondBootFlag es e i j
BreaksBaseRule es on_base.DisabledBoot e i j = IsDisabledBoot e × (j ≡ nowhere)
BreaksBaseRule es on_base.DuplicateProcessorId e i j = HasDuplicateProcessorId es e i j
BreaksBaseRule es on_base.DuplicateIoApicId e i j = HasDuplicateIoApicId es e i j
BreaksBaseRule es on_base.SharedId e i j = HasSharedId es e j
BreaksBaseRule es on_base.BusOutOfOrder e i j = IsBusOutOfOrder es e i × (j ≡ nowhere)
BreaksBaseRule es on_base.UnknownBusName e i j = IsUnknownBusName e × (j ≡ nowhere)
BreaksBaseRule es on_base.TypeBelow e i j = HasTypeBelow es e i j
BreaksBaseRule es on_base.UnknownBus e i j = HasUnknownBus es e × (j ≡ nowhere)
BreaksBaseRule es on_base.UnknownDestination e i j = HasUnknownDestination es e × (j ≡ nowhere)
BreaksBaseRule es on_base.PinOutOfRange e i j = HasPinOutOfRange e × (j ≡ nowhere)
BreaksBaseRule es on_base.ReservedBits e i j = (¬ HasClearBits e) × (j ≡ nowhere)
BreaksBaseRule es on_base.ReservedValue e i j = HasReservedValue es e × (j ≡ nowhere)
BreaksBaseRule es on_base.DuplicateSource e i j = HasDuplicateSource es e i j
BreaksBaseRule es on_base.OtherSense e i j = HasOtherSense es e i j

-- the rules on an extended entry: 17, 21 to 24
abbrev pub BreaksExtRule : List Base → List Ext → ExtRule → Ext → ℕ → ℕ → Type 0
BreaksExtRule bases es on_ext.ReservedExt e i j = IsReservedExt e × (j ≡ nowhere)
BreaksExtRule bases es on_ext.RangePastTop e i j = PassesTop e × (j ≡ nowhere)
BreaksExtRule bases es on_ext.MeetingRange e i j = HasMeetingRange es e i j
BreaksExtRule bases es on_ext.UnknownExtBus e i j = HasUnknownExtBus bases e × (j ≡ nowhere)
BreaksExtRule bases es on_ext.BusLoop e i j = IsInBusLoop es e × (j ≡ nowhere)

-- the table breaks the rule at place i, which names j
abbrev pub BreaksRule : Pointer → Table → Rule → ℕ → ℕ → Type 0
BreaksRule p t (rule.Table r) i j = BreaksTableRule p t r × (i ≡ nowhere) × (j ≡ nowhere)
BreaksRule p t (rule.Base r) i j = (e : Base) × (slice_get t.base i ≡ Some e) × BreaksBaseRule t.base r e i j
BreaksRule p t (rule.Ext r) i j = (e : Ext) × (slice_get t.ext i ≡ Some e) × BreaksExtRule t.base t.ext r e i j

-- a place at which a rule is asked
abbrev pub IsPlaceOf : Table → Rule → ℕ → Type 0
IsPlaceOf t (rule.Table r) i = i ≡ nowhere
IsPlaceOf t (rule.Base r) i = i < length t.base
IsPlaceOf t (rule.Ext r) i = i < length t.ext
