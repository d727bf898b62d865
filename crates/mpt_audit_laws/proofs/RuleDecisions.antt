-- Each audit rule is decided at each place: it is broken there and names a place, or isn't broken.
use Rattle.std.proofs.Common.{◌≡◌, ℕ, zero, suc, ◌/◌, ◌%◌, ◌⊎◌, List, length, replicate, refl, subst, inl, inr}
use Rattle.std.specs.Prelude.{take, filter, slice_index}
use Rattle.mpt_laws.proofs.EntryJudgment.{Decided, decided-eq, decided-list}
use Rattle.mpt_laws.proofs.Decisions.{never, both, all_four, either, not, at_most, below}
use Rattle.mpt_spec.specs.declared.entry.IntEntry.{IntEntry}
use Rattle.mpt_spec.specs.declared.entry.Base.{Base}
use Rattle.mpt_spec.specs.declared.entry.Base.TheVariants as base
use Rattle.mpt_spec.specs.declared.entry.Ext.{Ext}
use Rattle.mpt_spec.specs.declared.entry.Ext.TheVariants as ext
use Rattle.mpt_spec.specs.declared.pointer.Pointer.{Pointer}
use Rattle.mpt_spec.specs.declared.tables.Table.{Table}
use Rattle.mpt_spec.specs.Canonical.{HasClearHeader, HasClearPointerBits}
use Rattle.mpt_rules.specs.declared.rule.TableRule.{TableRule}
use Rattle.mpt_rules.specs.declared.rule.TableRule.TheVariants as on_table
use Rattle.mpt_rules.specs.declared.rule.BaseRule.{BaseRule}
use Rattle.mpt_rules.specs.declared.rule.BaseRule.TheVariants as on_base
use Rattle.mpt_rules.specs.declared.rule.ExtRule.{ExtRule}
use Rattle.mpt_rules.specs.declared.rule.ExtRule.TheVariants as on_ext
use Rattle.mpt_rules.specs.declared.rule.Rule.{Rule}
use Rattle.mpt_rules.specs.declared.rule.Rule.TheVariants as rule
use Rattle.mpt_rules.specs.Places.{HoldsAt, HoldsNowhere, IsFirstOf, IsFirstBefore, nowhere}
use Rattle.mpt_rules.specs.Entries.{IsBootProcessor, HasBootFlag, IsProcessorOf, IsIoApicOf, IsBusOf, IsEnabledIoApic, is_bus, SharesProcessorId, SharesIoApicId, SharesIdWithProcessor, IsPciBus, HasTypeAbove, HasSameSource, DiffersInSense, MeetsRange, IsHierarchyOf, GivesParent}
use Rattle.mpt_rules.specs.Rules.{IsBusOutOfOrder, HasUnknownBus, HasUnknownDestination, IsPci, IsReservedInterrupt, HasReservedValue, HasUnknownExtBus, IsParentOf, ReachesWithin, IsInBusLoop, BreaksTableRule, BreaksBaseRule, BreaksExtRule, BreaksRule}
use Rattle.mpt_rules.proofs.PlaceLemmas.{first_one}
use Rattle.mpt_rules.proofs.MeetLemmas.{parent_one}
use Rattle.mpt_audit_laws.proofs.PlaceDecisions.{IsFound, holds_at, earlier_found, first_or_nowhere, first_found, holds_nowhere, last_found, alone_found, and_found, table_found, entry_found}
use Rattle.mpt_audit_laws.proofs.EntryDecisions.{boot_processor, boot_flag, disabled_boot, processor_of, io_apic_of, bus_of, enabled_io_apic, shares_processor_id, shares_io_apic_id, shares_id_with_processor, unknown_bus_name, pci_bus, type_above, pin_out_of_range, same_source, differs_in_sense, clear_bits, clear_ext_bits, reserved_ext_value, passes_top, meets_range, hierarchy_of}

-- ---- the whole table

pub clear_pointer_bits : (p : Pointer) → Decided (HasClearPointerBits p)
clear_pointer_bits p = all_four (decided-eq (slice_index p.features 1 % 64) 0) (decided-eq (slice_index p.features 2) 0) (decided-eq (slice_index p.features 3) 0) (decided-eq (slice_index p.features 4) 0)

-- byte 43 is zero, or at revision 1 bytes 40 to 43
clear_header : (t : Table) → Decided (t.revision ≡ 1) → Decided (HasClearHeader t)
clear_header t (inl one) = by_old (decided-list t.old (replicate 4 0))
  where
    by_old : Decided (t.old ≡ replicate 4 0) → Decided (HasClearHeader t)
    by_old (inl e) = inl (λ _. e, λ new. absurd (new one))
    by_old (inr n) = inr (λ h. n (h.0 one))
clear_header t (inr new) = by_byte (decided-eq t.reserved 0)
  where
    by_byte : Decided (t.reserved ≡ 0) → Decided (HasClearHeader t)
    by_byte (inl e) = inl (λ one. absurd (new one), λ _. e)
    by_byte (inr n) = inr (λ h. n (h.1 new))

table_rule : (p : Pointer) (t : Table) (r : TableRule) → Decided (BreaksTableRule p t r)
table_rule p t on_table.NoBootProcessor = holds_nowhere IsBootProcessor boot_processor t.base
table_rule p t on_table.NoIoApic = holds_nowhere IsEnabledIoApic enabled_io_apic t.base
table_rule p t on_table.ReservedHeaderBits = either (not (clear_pointer_bits p)) (not (clear_header t (decided-eq t.revision 1)))
table_rule p t on_table.TwoRevisions = not (decided-eq p.revision t.revision)

-- ---- a base entry

bus_out_of_order : (es : List Base) (e : Base) (i : ℕ) → Decided (IsBusOutOfOrder es e i)
bus_out_of_order es (base.Bus b) i = not (decided-eq b.id (length (filter is_bus (take i es))))
bus_out_of_order es _ i = never

no_bus : (es : List Base) (id : ℕ) → Decided (HoldsNowhere (IsBusOf id) es)
no_bus es id = holds_nowhere (IsBusOf id) (bus_of id) es

unknown_bus : (es : List Base) (e : Base) → Decided (HasUnknownBus es e)
unknown_bus es (base.IoInt a) = no_bus es a.bus
unknown_bus es (base.LocalInt a) = no_bus es a.bus
unknown_bus es _ = never

unknown_destination : (es : List Base) (e : Base) → Decided (HasUnknownDestination es e)
unknown_destination es (base.IoInt a) = both (not (decided-eq a.dest 255)) (holds_nowhere (IsIoApicOf a.dest) (io_apic_of a.dest) es)
unknown_destination es (base.LocalInt a) = both (not (decided-eq a.dest 255)) (holds_nowhere (IsProcessorOf a.dest) (processor_of a.dest) es)
unknown_destination es _ = never

pci : (es : List Base) (id : ℕ) → Decided (IsPci es id)
pci es id = by_first (first_or_nowhere (IsBusOf id) (bus_of id) es)
  where
    by_type : (k : ℕ) → IsFirstOf (IsBusOf id) es k → Decided (HoldsAt IsPciBus es k) → Decided (IsPci es id)
    by_type k f (inl h) = inl (k, f, h)
    by_type k f (inr n) = inr (λ h. n (subst (HoldsAt IsPciBus es) (first_one (IsBusOf id) es h.0 k h.1 f) h.2))

    by_first : ((k : ℕ) × IsFirstOf (IsBusOf id) es k) ⊎ HoldsNowhere (IsBusOf id) es → Decided (IsPci es id)
    by_first (inl f) = by_type f.0 f.1 (holds_at IsPciBus pci_bus es f.0)
    by_first (inr none) = inr (λ h. none h.0 h.1.holds)

reserved_interrupt : (es : List Base) (a : IntEntry) → Decided (IsReservedInterrupt es a)
reserved_interrupt es a = either (below 3 a.kind) (either (decided-eq (a.flags % 4) 2) (either (decided-eq (a.flags / 4 % 4) 2) (both (at_most 128 a.irq) (pci es a.bus))))

reserved_value : (es : List Base) (e : Base) → Decided (HasReservedValue es e)
reserved_value es (base.IoInt a) = reserved_interrupt es a
reserved_value es (base.LocalInt a) = reserved_interrupt es a
reserved_value es _ = never

base_found : (es : List Base) (r : BaseRule) (e : Base) (i : ℕ) → IsFound (BreaksBaseRule es r e i)
base_found es on_base.SecondBootFlag e i = and_found (IsFirstBefore HasBootFlag es i) (boot_flag e) (earlier_found HasBootFlag boot_flag es i)
base_found es on_base.DisabledBoot e i = alone_found (disabled_boot e)
base_found es on_base.DuplicateProcessorId e i = earlier_found (SharesProcessorId e) (shares_processor_id e) es i
base_found es on_base.DuplicateIoApicId e i = earlier_found (SharesIoApicId e) (shares_io_apic_id e) es i
base_found es on_base.SharedId e i = first_found (SharesIdWithProcessor e) (shares_id_with_processor e) es
base_found es on_base.BusOutOfOrder e i = alone_found (bus_out_of_order es e i)
base_found es on_base.UnknownBusName e i = alone_found (unknown_bus_name e)
base_found es on_base.TypeBelow e i = last_found (HasTypeAbove e) (type_above e) es i
base_found es on_base.UnknownBus e i = alone_found (unknown_bus es e)
base_found es on_base.UnknownDestination e i = alone_found (unknown_destination es e)
base_found es on_base.PinOutOfRange e i = alone_found (pin_out_of_range e)
base_found es on_base.ReservedBits e i = alone_found (not (clear_bits e))
base_found es on_base.ReservedValue e i = alone_found (reserved_value es e)
base_found es on_base.DuplicateSource e i = earlier_found (HasSameSource e) (same_source e) es i
base_found es on_base.OtherSense e i = earlier_found (DiffersInSense e) (differs_in_sense e) es i

-- ---- an extended entry

unknown_ext_bus : (bases : List Base) (e : Ext) → Decided (HasUnknownExtBus bases e)
unknown_ext_bus bases (ext.Space e) = no_bus bases e.bus
unknown_ext_bus bases (ext.Hierarchy e) = either (no_bus bases e.bus) (no_bus bases e.parent)
unknown_ext_bus bases (ext.Modifier e) = no_bus bases e.bus
unknown_ext_bus bases (ext.Opaque e) = never

-- a bus has a parent or has none
parent_given : (bus : ℕ) (e : Ext) → IsHierarchyOf bus e → (parent : ℕ) × GivesParent parent e
parent_given bus (ext.Hierarchy e) h = (e.parent, refl)
parent_given bus (ext.Space e) h = elim h [ ]
parent_given bus (ext.Modifier e) h = elim h [ ]
parent_given bus (ext.Opaque e) h = elim h [ ]

parent_found : (es : List Ext) (bus : ℕ) → IsFound (IsParentOf es bus)
parent_found es bus = by_first (first_or_nowhere (IsHierarchyOf bus) (hierarchy_of bus) es)
  where
    by_entry : (k : ℕ) → IsFirstOf (IsHierarchyOf bus) es k → HoldsAt (IsHierarchyOf bus) es k → IsFound (IsParentOf es bus)
    by_entry k f (e, at, h) = let g = parent_given bus e h in inl (g.0, (k, f, (e, at, g.1)))

    by_first : ((k : ℕ) × IsFirstOf (IsHierarchyOf bus) es k) ⊎ HoldsNowhere (IsHierarchyOf bus) es → IsFound (IsParentOf es bus)
    by_first (inl f) = by_entry f.0 f.1 f.1.holds
    by_first (inr none) = inr (λ parent h. none h.0 h.1.holds)

reaches : (n : ℕ) (es : List Ext) (from to : ℕ) → Decided (ReachesWithin n es from to)
unfolding ReachesWithin
reaches zero es from to = decided-eq from to
reaches (suc n) es from to = either (decided-eq from to) (by_parent (parent_found es from) (λ next. reaches n es next to))
  where
    by_rest : (next : ℕ) → IsParentOf es from next → Decided (ReachesWithin n es next to) → Decided ((next : ℕ) × IsParentOf es from next × ReachesWithin n es next to)
    by_rest next p (inl h) = inl (next, p, h)
    by_rest next p (inr m) = inr (λ h. m (subst (λ (x : ℕ). ReachesWithin n es x to) (parent_one es from h.0 next h.1 p) h.2))

    by_parent : IsFound (IsParentOf es from) → ((next : ℕ) → Decided (ReachesWithin n es next to)) → Decided ((next : ℕ) × IsParentOf es from next × ReachesWithin n es next to)
    by_parent (inl p) rest = by_rest p.0 p.1 (rest p.0)
    by_parent (inr none) rest = inr (λ h. none h.0 h.1)

bus_loop : (es : List Ext) (e : Ext) → Decided (IsInBusLoop es e)
bus_loop es (ext.Hierarchy h) = reaches 256 es h.parent h.bus
bus_loop es _ = never

ext_found : (bases : List Base) (es : List Ext) (r : ExtRule) (e : Ext) (i : ℕ) → IsFound (BreaksExtRule bases es r e i)
ext_found bases es on_ext.ReservedExt e i = alone_found (either (not (clear_ext_bits e)) (reserved_ext_value e))
ext_found bases es on_ext.RangePastTop e i = alone_found (passes_top e)
ext_found bases es on_ext.MeetingRange e i = earlier_found (MeetsRange e) (meets_range e) es i
ext_found bases es on_ext.UnknownExtBus e i = alone_found (unknown_ext_bus bases e)
ext_found bases es on_ext.BusLoop e i = alone_found (bus_loop es e)

-- ---- all of them

pub rule_found : (p : Pointer) (t : Table) (r : Rule) (i : ℕ) → IsFound (BreaksRule p t r i)
rule_found p t (rule.Table r) i = table_found i (table_rule p t r) (decided-eq i nowhere)
rule_found p t (rule.Base r) i = entry_found {E = Base} (λ e j. BreaksBaseRule t.base r e i j) t.base i (λ e. base_found t.base r e i)
rule_found p t (rule.Ext r) i = entry_found {E = Ext} (λ e j. BreaksExtRule t.base t.ext r e i j) t.ext i (λ e. ext_found t.base t.ext r e i)
