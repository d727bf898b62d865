-- The state of a board (this project's own). What never changes is in it too, so that a step speaks of the state alone.
--     BoardState            processors ascending by id, I/O APICs and devices by place, the interrupt mode register, the
--                           warm-reset vector's page, the boot processor's id and how long the boot program is
--     runs life             the processor runs
--     processor_of id ps    the processor with this id
--     change_processor id f ps, change_at n f xs   that one changed, the member at a place changed
--     boot_is_through s     the boot processor has made its boot program
--     all_ended s           each device has made its End
use Rattle.std.specs.Prelude.{◌==◌, ℕ, zero, suc, Bool, true, false, List, [], ◌∷◌, Option, None, Some, slice_get, if◌then◌else◌, nat_le, length, option_map}
use Rattle.std.specs.List.{list_all}
use Rattle.mpb_spec.specs.declared.agent.Op.{Op}
use Rattle.mpb_spec.specs.declared.config.Life.{Life}
use Rattle.mpb_spec.specs.declared.config.Life.TheVariants.{Asleep, Waiting, Started, First}
use Rattle.mpb_spec.specs.declared.config.Imcr.{Imcr}
use Rattle.mpb_spec.specs.LocalApic.{LocalApic}
use Rattle.mpb_spec.specs.IoApic.{IoChip}

-- a processor: its local APIC's id and version, its program and how many ops of it are made, whether it runs
pub record Processor : Type 0 where
  pub id : ℕ
  pub version : ℕ
  pub program : List Op
  pub position : ℕ
  pub life : Life
  pub apic : LocalApic

-- an I/O APIC: its registers, whether it has swept, and for each pin how many collections are left
pub record Place : Type 0 where
  pub chip : IoChip
  pub swept : Bool
  pub left : List ℕ

-- a device: its program, and how many ops of it are made
pub record Device : Type 0 where
  pub program : List Op
  pub position : ℕ

-- the whole
pub record BoardState : Type 0 where
  pub processors : List Processor
  pub places : List Place
  pub devices : List Device
  pub imcr : Imcr
  pub warm : Option ℕ
  pub boot : ℕ
  pub boot_len : ℕ

-- the processor runs
abbrev pub runs : Life → Bool
runs Asleep = false
runs Waiting = false
runs (Started page) = true
runs First = true

-- the processor with this id
abbrev pub processor_of : ℕ → List Processor → Option Processor
processor_of id [] = None
processor_of id (p ∷ ps) = if p.id == id then Some p else processor_of id ps

-- the op at the processor's position
abbrev pub op_at : Option Processor → Option Op
op_at None = None
op_at (Some p) = slice_get p.program p.position

-- the place of the processor with this id
abbrev pub place_of : ℕ → List Processor → Option ℕ
place_of id [] = None
place_of id (p ∷ ps) = if p.id == id then Some 0 else option_map suc (place_of id ps)

-- that one changed
abbrev pub change_processor : ℕ → (Processor → Processor) → List Processor → List Processor
change_processor id f [] = []
change_processor id f (p ∷ ps) = if p.id == id then f p ∷ ps else p ∷ change_processor id f ps

-- the member at a place changed
abbrev pub change_at : {X : Type 0} → ℕ → (X → X) → List X → List X
change_at n f [] = []
change_at zero f (x ∷ xs) = f x ∷ xs
change_at (suc n) f (x ∷ xs) = x ∷ change_at n f xs

-- the op at the device's position
abbrev pub device_op_at : Option Device → Option Op
device_op_at None = None
device_op_at (Some d) = slice_get d.program d.position

-- the boot processor has made its first n ops
abbrev pub is_through : Option Processor → ℕ → Bool
is_through None n = false
is_through (Some p) n = nat_le n p.position

-- the boot processor has made its boot program
abbrev pub boot_is_through : BoardState → Bool
boot_is_through s = is_through (processor_of s.boot s.processors) s.boot_len

-- each device has made its End
abbrev pub all_ended : BoardState → Bool
all_ended s = list_all (λ d. nat_le (length d.program) d.position) s.devices
