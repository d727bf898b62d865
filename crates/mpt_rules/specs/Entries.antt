-- What the audit rules say of one entry, or of two, wherever they stand (MultiProcessor Specification 1.4, sections 4.3 and 4.4).
use Rattle.std.specs.Prelude.{◌≡◌, ◌≢◌, ℕ, ◌+◌, ◌/◌, ◌%◌, ◌≤◌, ◌<◌, ◌^◌, Bool, true, false, List, [], ◌∷◌, map, codes}
use Rattle.std.specs.List.{Contains}
use Rattle.mpt_spec.specs.declared.entry.IntEntry.{IntEntry}
use Rattle.mpt_spec.specs.declared.entry.Space.{Space}
use Rattle.mpt_spec.specs.declared.entry.Base.{Base}
use Rattle.mpt_spec.specs.declared.entry.Base.TheVariants as base
use Rattle.mpt_spec.specs.declared.entry.Ext.{Ext}
use Rattle.mpt_spec.specs.declared.entry.Ext.TheVariants as ext
use Rattle.mpt_spec.specs.Canonical.{base_type}

-- a processor with EN, bit 0 of the flags, and BP, bit 1 (section 4.3.1)
abbrev pub IsBootProcessor : Base → Type 0
IsBootProcessor (base.Processor e) = e.flags % 4 ≡ 3
IsBootProcessor _ = ⊥

-- a processor with BP
abbrev pub HasBootFlag : Base → Type 0
HasBootFlag (base.Processor e) = e.flags / 2 % 2 ≡ 1
HasBootFlag _ = ⊥

-- rule 3 (section 4.3.1): a processor with BP and without EN
abbrev pub IsDisabledBoot : Base → Type 0
IsDisabledBoot (base.Processor e) = e.flags % 4 ≡ 2
IsDisabledBoot _ = ⊥

-- a processor of an id
abbrev pub IsProcessorOf : ℕ → Base → Type 0
IsProcessorOf id (base.Processor e) = e.apic ≡ id
IsProcessorOf id _ = ⊥

-- an I/O APIC of an id
abbrev pub IsIoApicOf : ℕ → Base → Type 0
IsIoApicOf id (base.IoApic e) = e.id ≡ id
IsIoApicOf id _ = ⊥

-- a bus of an id
abbrev pub IsBusOf : ℕ → Base → Type 0
IsBusOf id (base.Bus e) = e.id ≡ id
IsBusOf id _ = ⊥

-- an I/O APIC with EN
abbrev pub IsEnabledIoApic : Base → Type 0
IsEnabledIoApic (base.IoApic e) = e.flags % 2 ≡ 1
IsEnabledIoApic _ = ⊥

-- the entry is a bus
abbrev pub is_bus : Base → Bool
is_bus (base.Bus e) = true
is_bus _ = false

-- two processors of one id
abbrev pub SharesProcessorId : Base → Base → Type 0
SharesProcessorId (base.Processor a) b = IsProcessorOf a.apic b
SharesProcessorId _ b = ⊥

-- two I/O APICs of one id
abbrev pub SharesIoApicId : Base → Base → Type 0
SharesIoApicId (base.IoApic a) b = IsIoApicOf a.id b
SharesIoApicId _ b = ⊥

-- an I/O APIC and a processor of one id
abbrev pub SharesIdWithProcessor : Base → Base → Type 0
SharesIdWithProcessor (base.IoApic a) b = IsProcessorOf a.id b
SharesIdWithProcessor _ b = ⊥

-- the bus types of table 4-8
abbrev pub known_buses : List (List ℕ)
known_buses = map codes ("CBUS  " ∷ "CBUSII" ∷ "EISA  " ∷ "FUTURE" ∷ "INTERN" ∷ "ISA   " ∷ "MBI   " ∷ "MBII  " ∷ "MCA   " ∷ "MPI   " ∷ "MPSA  " ∷ "NUBUS " ∷ "PCI   " ∷ "PCMCIA" ∷ "TC    " ∷ "VL    " ∷ "VME   " ∷ "XPRESS" ∷ [])

-- a bus type text of that table
abbrev pub IsKnownName : List ℕ → Type 0
IsKnownName name = Contains known_buses name

-- rule 9 (section 4.3.2): a bus whose type text the table doesn't have
abbrev pub IsUnknownBusName : Base → Type 0
IsUnknownBusName (base.Bus b) = ¬ IsKnownName b.name
IsUnknownBusName _ = ⊥

-- a PCI bus
abbrev pub IsPciBus : Base → Type 0
IsPciBus (base.Bus b) = b.name ≡ codes "PCI   "
IsPciBus _ = ⊥

-- the second has a type above that of the first
abbrev pub HasTypeAbove : Base → Base → Type 0
HasTypeAbove e f = base_type e < base_type f

-- rule 13 (sections 4.3.4 and 4.3.5): INTIN above 23, or LINTIN above 1
abbrev pub HasPinOutOfRange : Base → Type 0
HasPinOutOfRange (base.IoInt a) = 23 < a.pin
HasPinOutOfRange (base.LocalInt a) = 1 < a.pin
HasPinOutOfRange _ = ⊥

-- an I/O interrupt of a kind, a bus and an IRQ
abbrev pub IsSource : ℕ × ℕ × ℕ → Base → Type 0
IsSource key (base.IoInt b) = (b.kind ≡ key.0) × (b.bus ≡ key.1) × (b.irq ≡ key.2)
IsSource key _ = ⊥

-- two I/O interrupts of the same kind, bus and IRQ
abbrev pub HasSameSource : Base → Base → Type 0
HasSameSource (base.IoInt a) b = IsSource (a.kind, a.bus, a.irq) b
HasSameSource _ b = ⊥

-- two interrupts of the same kind, polarity and trigger bits
abbrev pub HasSameSense : IntEntry → IntEntry → Type 0
HasSameSense a b = (a.kind ≡ b.kind) × (a.flags % 16 ≡ b.flags % 16)

-- an I/O interrupt at a pin of a destination; keys have three parts, the last is 0
abbrev pub IsOnPin : ℕ × ℕ × ℕ → Base → Type 0
IsOnPin key (base.IoInt b) = (b.dest ≡ key.0) × (b.pin ≡ key.1) × (0 ≡ key.2)
IsOnPin key _ = ⊥

-- an I/O interrupt at the same pin of another kind or sense
abbrev pub IsOnPinWithOtherSense : IntEntry → Base → Type 0
IsOnPinWithOtherSense a (base.IoInt b) = (b.dest ≡ a.dest) × (b.pin ≡ a.pin) × ¬ HasSameSense a b
IsOnPinWithOtherSense a _ = ⊥

-- two I/O interrupts at one pin of one destination, not FFh, of another kind or sense
abbrev pub DiffersInSense : Base → Base → Type 0
DiffersInSense (base.IoInt a) b = (a.dest ≢ 255) × IsOnPinWithOtherSense a b
DiffersInSense _ b = ⊥

-- an address kind above 2, or predefined ranges above 1
abbrev pub HasReservedExtValue : Ext → Type 0
HasReservedExtValue (ext.Space e) = 2 < e.kind
HasReservedExtValue (ext.Modifier e) = 1 < e.ranges
HasReservedExtValue _ = ⊥

-- rule 21 (section 4.4.1): a range with a length above 0 that ends above 2^64
abbrev pub PassesTop : Ext → Type 0
PassesTop (ext.Space e) = (0 < e.length) × (2 ^ 64 < e.base + e.length)
PassesTop _ = ⊥

-- a range that can meet another: it has addresses, and ends at 2^64 or below
abbrev pub IsSoundRange : Space → Type 0
IsSoundRange a = (0 < a.length) × (a.base + a.length ≤ 2 ^ 64)

-- a range of the same kind with an address in common
abbrev pub HasAddressesOf : Space → Ext → Type 0
HasAddressesOf a (ext.Space b) = IsSoundRange b × (b.kind ≡ a.kind) × (b.base < a.base + a.length) × (a.base < b.base + b.length)
HasAddressesOf a _ = ⊥

-- two ranges of one kind with an address in common
abbrev pub MeetsRange : Ext → Ext → Type 0
MeetsRange (ext.Space a) b = IsSoundRange a × HasAddressesOf a b
MeetsRange _ b = ⊥

-- a hierarchy entry of a bus
abbrev pub IsHierarchyOf : ℕ → Ext → Type 0
IsHierarchyOf bus (ext.Hierarchy e) = e.bus ≡ bus
IsHierarchyOf bus _ = ⊥

-- a hierarchy entry with this parent
abbrev pub GivesParent : ℕ → Ext → Type 0
GivesParent parent (ext.Hierarchy e) = e.parent ≡ parent
GivesParent parent _ = ⊥
