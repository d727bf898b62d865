-- What private functions cite: how a header and a slot are written.
use Rattle.std.specs.Prelude.{◌≡◌, ◌<◌, ◌^◌, ℕ, List, [], ◌∷◌, ◌++◌, length, codes, slice_index}
use Rattle.std.specs.Int.{to_le_bytes, w16, w32}
use Rattle.mpf_pir.specs.declared.table.Pir.{Pir}
use Rattle.mpf_pir.specs.declared.table.Slot.{Slot}
use Rattle.mpf_pir.specs.Layout.{IsHeader, AreSlots}

-- the header's fields fit
pub record IsHeaderValue (t : Pir) : Type 0 where
  pub exclusive : t.exclusive < 2 ^ 16
  pub compatible : t.compatible < 2 ^ 32
  pub miniport : t.miniport < 2 ^ 32
  pub reserved : length t.reserved ≡ 11

-- the header before its checksum
abbrev pub header_bytes : Pir → ℕ → List ℕ
header_bytes t size =
    codes "$PIR" ++ 0 ∷ 1 ∷ to_le_bytes w16 size ++ t.router_bus ∷ t.router_function ∷ to_le_bytes w16 t.exclusive ++ to_le_bytes w32 t.compatible
    ++ to_le_bytes w32 t.miniport ++ t.reserved

-- a slot's lists have a value for each pin, and its bits of IRQs fit
pub record IsSlotValue (s : Slot) : Type 0 where
  pub links : length s.links ≡ 4
  pub irqs : length s.irqs ≡ 4
  pub small : (pin : ℕ) → slice_index s.irqs pin < 2 ^ 16

-- a slot
abbrev pub slot_bytes : Slot → List ℕ
slot_bytes s =
    let link : ℕ → ℕ = slice_index s.links in
    let irqs : ℕ → List ℕ = λ pin. to_le_bytes w16 (slice_index s.irqs pin) in
    s.bus ∷ s.device ∷ link 0 ∷ irqs 0 ++ link 1 ∷ irqs 1 ++ link 2 ∷ irqs 2 ++ link 3 ∷ irqs 3 ++ s.number ∷ s.reserved ∷ []

-- the bytes are this table but for the checksum, whose place is there
pub record IsOpenPir (t : Pir) (bytes : List ℕ) : Type 0 where
  pub header : IsHeader t (length bytes) bytes
  pub slots : AreSlots t.slots bytes 32 (length bytes)
