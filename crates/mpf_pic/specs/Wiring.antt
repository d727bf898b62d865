-- The way of INTR to the boot processor in PIC mode, in virtual wire mode by a local APIC or by an I/O APIC, and in
-- symmetric mode (MultiProcessor Specification 1.4, sections 3.6.2.1 to 3.6.2.3); which pins count is a profile.
--     WiringState               the interrupt mode register, whether it is selected, and the way where the APICs are connected
--     has_local_extint boot p   INTR is wired to LINTIN 0 of the boot processor
--     sends_extint boot low high   an entry of an I/O APIC of these halves sends ExtINT to it
--     apic_path boot p s        the way where the APICs are connected
--     wiring_of boot p s        the wiring at first
--     path_of w                 the way
--     after_write port v w      after a write of port 22h or 23h
use Rattle.std.specs.Prelude.{◌==◌, ℕ, ◌/◌, ◌%◌, Bool, false, not, ◌&&◌, ◌||◌, List, Option, None, Some, length, map, find, slice_get, if◌then◌else◌}
use Rattle.std.specs.List.{list_any, range_with_len, flat_map}
use Rattle.mpb_spec.specs.declared.apic.Pin.{Pin}
use Rattle.mpb_spec.specs.declared.config.Imcr.{Imcr}
use Rattle.mpb_spec.specs.declared.config.Imcr.TheVariants.{Absent, Pic, Apic}
use Rattle.mpb_spec.specs.State.{Place, BoardState}
use Rattle.mpt_spec.specs.declared.entry.IntEntry.{IntEntry}
use Rattle.mpt_route.specs.declared.platform.Platform.{Platform}
use Rattle.mpf_pic.specs.declared.path.Path.{Path}
use Rattle.mpf_pic.specs.declared.path.Path.TheVariants.{Direct, Lint, Io, Closed}

-- the interrupt mode register, whether it is selected, and the way of INTR where the APICs are connected
pub record WiringState : Type 0 where
  pub imcr : Imcr
  pub selected : Bool
  pub apic : Path

-- a local interrupt entry of type ExtINT at LINTIN 0, to the boot processor or to all
abbrev pub is_local_extint : ℕ → IntEntry → Bool
is_local_extint boot e = (e.kind == 3) && (e.pin == 0) && ((e.dest == boot) || (e.dest == 255))

-- the platform has one
abbrev pub has_local_extint : ℕ → Platform → Bool
has_local_extint boot p = list_any (is_local_extint boot) p.lints

-- an entry of these halves sends ExtINT to the boot processor: mode 111, unmasked, a physical destination, and bits 59:56
-- are the boot processor's id or 15
abbrev pub sends_extint : ℕ → ℕ → ℕ → Bool
sends_extint boot low high =
    (low / 256 % 8 == 7) && not (low / 65536 % 2 == 1) && not (low / 2048 % 2 == 1) && ((high / 16777216 % 16 == boot) || (high / 16777216 % 16 == 15))

-- the pin of a number at a place, if there is one, has such an entry
abbrev pub is_extint_pin : ℕ → Option Pin → Bool
is_extint_pin boot None = false
is_extint_pin boot (Some p) = sends_extint boot p.low p.high

abbrev pub pin_in : ℕ → Option Place → Option Pin
pin_in n None = None
pin_in n (Some p) = slice_get p.chip.pins n

abbrev pub is_extint_at : ℕ → BoardState → ℕ × ℕ → Bool
is_extint_at boot s x = is_extint_pin boot (pin_in x.1 (slice_get s.places x.0))

-- all pins by place and number: those of a lesser place first, of one place the lesser number first
abbrev pub pins_at : ℕ → List (ℕ × ℕ)
pins_at a = map (λ n. (a, n)) (range_with_len 0 24)

abbrev pub all_pins : BoardState → List (ℕ × ℕ)
all_pins s = flat_map pins_at (range_with_len 0 (length s.places))

-- the way by a pin, closed where there is none
abbrev pub path_by : Option (ℕ × ℕ) → Path
path_by None = Closed
path_by (Some x) = Io x.0 x.1

-- the way where the APICs are connected: by LINTIN 0, or else by the first pin with such an entry
abbrev pub apic_path : ℕ → Platform → BoardState → Path
apic_path boot p s = if has_local_extint boot p then Lint else path_by (find (is_extint_at boot s) (all_pins s))

-- the wiring at first: the board's interrupt mode register, deselected
abbrev pub wiring_of : ℕ → Platform → BoardState → WiringState
wiring_of boot p s = record { imcr = s.imcr; selected = false; apic = apic_path boot p s }

-- in PIC mode the APICs are bypassed
abbrev pub path_in : Imcr → Path → Path
path_in Pic apic = Direct
path_in Apic apic = apic
path_in Absent apic = apic

-- the way of INTR
abbrev pub path_of : WiringState → Path
path_of w = path_in w.imcr w.apic

-- the interrupt mode register after its value is written: 0 is PIC mode, 1 connects the APICs, any other is ignored
abbrev pub mode_written : ℕ → Imcr → Imcr
mode_written v i = if v == 0 then Pic else (if v == 1 then Apic else i)

-- after a write of port 22h, which selects the register by 70h and deselects it by any other value, or of port 23h, which
-- writes the register where it is selected
abbrev pub port_written : ℕ → ℕ → WiringState → WiringState
port_written port v w =
    if port == 0x22 then (record w { selected = v == 0x70 })
    else (record w { imcr = if w.selected then mode_written v w.imcr else w.imcr })

-- nothing changes where there is no register
abbrev pub written_in : Imcr → ℕ → ℕ → WiringState → WiringState
written_in Absent port v w = w
written_in Pic port v w = port_written port v w
written_in Apic port v w = port_written port v w

abbrev pub after_write : ℕ → ℕ → WiringState → WiringState
after_write port v w = written_in w.imcr port v w
