-- What laws say of bytes and tables: that there is one.
--     HasMadt bytes, HasFirstMadtFault bytes    the bytes are a MADT; they have a first fault
--     HasPir bytes, HasFirstPirFault bytes      the bytes are a PCI IRQ routing table; they have a first fault
--     HasDifferences p t                        there is a list of the differences
--     HasMadtBytes m, HasPirBytes t             the table has bytes
--     HasPlaceInPir p                           the platform's devices and wires have place in a table
use Rattle.std.specs.Prelude.{ℕ, ◌≤◌, List, length}
use Rattle.mpt_base.specs.Bytes.{IsByteList}
use Rattle.mpt_route.specs.declared.platform.Platform.{Platform}
use Rattle.mpf_madt.specs.declared.madt.Madt.{Madt}
use Rattle.mpf_madt.specs.declared.refusal.MadtReason.{MadtReason}
use Rattle.mpf_madt.specs.Table.{IsMadt}
use Rattle.mpf_madt.specs.Faults.{IsFirstMadtFault}
use Rattle.mpf_pir.specs.declared.table.Pir.{Pir}
use Rattle.mpf_pir.specs.declared.table.PirReason.{PirReason}
use Rattle.mpf_pir.specs.declared.comparing.Difference.{Difference}
use Rattle.mpf_pir.specs.Layout.{IsPir}
use Rattle.mpf_pir.specs.Faults.{IsFirstPirFault}
use Rattle.mpf_pir.specs.Made.{device_entries, wire_entries}
use Rattle.mpf_pir.specs.Differences.{AreDifferencesOf}

-- the bytes are a MADT
abbrev pub HasMadt : List ℕ → Type 0
HasMadt bytes = (m : Madt) × IsMadt m bytes

-- they have a first fault
abbrev pub HasFirstMadtFault : List ℕ → Type 0
HasFirstMadtFault bytes = (k : ℕ) × (why : MadtReason) × IsFirstMadtFault bytes k why

-- the bytes are a PCI IRQ routing table
abbrev pub HasPir : List ℕ → Type 0
HasPir bytes = (t : Pir) × IsPir t bytes

-- they have a first fault
abbrev pub HasFirstPirFault : List ℕ → Type 0
HasFirstPirFault bytes = (k : ℕ) × (why : PirReason) × IsFirstPirFault bytes k why

-- there is a list of the differences
abbrev pub HasDifferences : Platform → Pir → Type 0
HasDifferences p t = (ds : List Difference) × AreDifferencesOf p t ds

-- the MADT has bytes
abbrev pub HasMadtBytes : Madt → Type 0
HasMadtBytes m = (bytes : List ℕ) × IsByteList bytes × IsMadt m bytes

-- the PCI IRQ routing table has bytes
abbrev pub HasPirBytes : Pir → Type 0
HasPirBytes t = (bytes : List ℕ) × IsByteList bytes × IsPir t bytes

-- the platform's devices and wires have place in a table
pub record HasPlaceInPir (p : Platform) : Type 0 where
  pub slots : length (device_entries p) ≤ 4093
  pub links : length (wire_entries p) ≤ 255
