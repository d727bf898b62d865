-- The lines for a table of firmware that is refused or can't be made, this project's own.
--     madt_fault_line at why, pir_fault_line at why    the bytes are no such table
--     many_processors_line n                           the platform has too many processors for a MADT
--     make_fault_line f                                it has too many slots or links for a PCI IRQ routing table
use Rattle.std.specs.Prelude.{ℕ, List, [], ◌∷◌, codes, decimal}
use Rattle.mpt_listing.specs.Listing.{line, hex}
use Rattle.mpf_madt.specs.declared.refusal.MadtReason.{MadtReason}
use Rattle.mpf_madt.specs.declared.refusal.MadtReason.TheVariants as madt
use Rattle.mpf_madt.specs.Faults.{madt_reason_number}
use Rattle.mpf_pir.specs.declared.table.PirReason.{PirReason}
use Rattle.mpf_pir.specs.declared.table.PirReason.TheVariants as pir
use Rattle.mpf_pir.specs.Faults.{pir_reason_number}
use Rattle.mpf_pir.specs.declared.making.MakeFault.{MakeFault}
use Rattle.mpf_pir.specs.declared.making.MakeFault.TheVariants as make

-- the name of a reason
abbrev pub madt_reason_name : MadtReason → List ℕ
madt_reason_name madt.Short = codes "Short"
madt_reason_name madt.BadSignature = codes "BadSignature"
madt_reason_name madt.BadLength = codes "BadLength"
madt_reason_name madt.BadSum = codes "BadSum"
madt_reason_name madt.CutEntry = codes "CutEntry"
madt_reason_name madt.BadEntryLength = codes "BadEntryLength"

abbrev pub pir_reason_name : PirReason → List ℕ
pir_reason_name pir.Short = codes "Short"
pir_reason_name pir.BadSignature = codes "BadSignature"
pir_reason_name pir.BadVersion = codes "BadVersion"
pir_reason_name pir.BadSize = codes "BadSize"
pir_reason_name pir.BadSum = codes "BadSum"

-- number and name of the reason, and the offset in the file
abbrev pub madt_fault_line : ℕ → MadtReason → List ℕ
madt_fault_line at why = line (codes "mptab: madt fault " ∷ decimal (madt_reason_number why) ∷ codes " " ∷ madt_reason_name why ∷ codes " at " ∷ hex 8 at ∷ [])

abbrev pub pir_fault_line : ℕ → PirReason → List ℕ
pir_fault_line at why = line (codes "mptab: pir fault " ∷ decimal (pir_reason_number why) ∷ codes " " ∷ pir_reason_name why ∷ codes " at " ∷ hex 8 at ∷ [])

-- the number of processors
abbrev pub many_processors_line : ℕ → List ℕ
many_processors_line n = line (codes "mptab: madt many processors " ∷ decimal n ∷ [])

-- the number of slots, or of links; want of memory has no line
abbrev pub make_fault_line : MakeFault → List ℕ
make_fault_line (make.ManySlots n) = line (codes "mptab: pir many slots " ∷ decimal n ∷ [])
make_fault_line (make.ManyLinks n) = line (codes "mptab: pir many links " ∷ decimal n ∷ [])
make_fault_line make.NoMemory = []
