-- The PCI IRQ routing table as a relation between a table and its bytes (PCI IRQ Routing Table Specification 1.0, version 1.0).
--     IsSlotAt s bytes at          the slot stands at the place
--     AreSlots ss bytes from to    the slots stand end to end, with nothing left
--     IsHeader t total bytes       the bytes begin with the table's header, which names this size
--     IsPir t bytes                the bytes are the table
use Rattle.std.specs.Prelude.{◌≡◌, ℕ, ◌+◌, List, [], ◌∷◌, length, slice_index, codes}
use Rattle.mpt_base.specs.Bytes.{number_at, part, SumsToZero}
use Rattle.mpf_pir.specs.declared.table.Slot.{Slot}
use Rattle.mpf_pir.specs.declared.table.Pir.{Pir}

-- a slot, 16 bytes: for each of the pins INTA# to INTD# a link and the bits of the IRQs that it can have
pub record IsSlotAt (s : Slot) (bytes : List ℕ) (at : ℕ) : Type 0 where
  pub bus : s.bus ≡ slice_index bytes at
  -- the device in bits 7 to 3
  pub device : s.device ≡ slice_index bytes (at + 1)
  pub links : s.links ≡ slice_index bytes (at + 2) ∷ slice_index bytes (at + 5) ∷ slice_index bytes (at + 8) ∷ slice_index bytes (at + 11) ∷ []
  pub irqs : s.irqs ≡ number_at 2 bytes (at + 3) ∷ number_at 2 bytes (at + 6) ∷ number_at 2 bytes (at + 9) ∷ number_at 2 bytes (at + 12) ∷ []
  pub number : s.number ≡ slice_index bytes (at + 14)
  pub reserved : s.reserved ≡ slice_index bytes (at + 15)

-- the slots stand end to end from one place to another, with nothing left
abbrev pub AreSlots : List Slot → List ℕ → ℕ → ℕ → Type 0
AreSlots [] bytes from to = from ≡ to
AreSlots (s ∷ ss) bytes from to = IsSlotAt s bytes from × AreSlots ss bytes (from + 16) to

-- the header but for its checksum: 31 bytes, which name this size
pub record IsHeader (t : Pir) (total : ℕ) (bytes : List ℕ) : Type 0 where
  pub signature : part bytes 0 4 ≡ codes "$PIR"
  -- version 1.0, the minor number first
  pub version : part bytes 4 2 ≡ 0 ∷ 1 ∷ []
  -- the size in bytes, the header included
  pub size : number_at 2 bytes 6 ≡ total
  pub router_bus : t.router_bus ≡ slice_index bytes 8
  pub router_function : t.router_function ≡ slice_index bytes 9
  pub exclusive : t.exclusive ≡ number_at 2 bytes 10
  pub compatible : t.compatible ≡ number_at 4 bytes 12
  pub miniport : t.miniport ≡ number_at 4 bytes 16
  pub reserved : t.reserved ≡ part bytes 20 11

-- the bytes are this table: the header, a checksum for all bytes at offset 31, and the slots from offset 32 to the end
pub record IsPir (t : Pir) (bytes : List ℕ) : Type 0 where
  pub header : IsHeader t (length bytes) bytes
  pub checksum : SumsToZero bytes
  pub slots : AreSlots t.slots bytes 32 (length bytes)
