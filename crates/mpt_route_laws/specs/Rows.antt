-- What a row of the redirection table says of its entry (82093AA datasheet, section 3.2.4).
--     IfRouted P answer       a fact of the row, where the answer has one
--     IsOnPin r               one of four I/O APICs and one of 24 pins
--     IsRowOf p elcr i e r    the row of entry e at place i
use Rattle.std.specs.Prelude.{◌≡◌, ℕ, ◌/◌, ◌%◌, ◌^◌, ◌<◌, ◌&&◌, Bool, Some, unwrap_or, ⊤}
use Rattle.mpt_spec.specs.declared.entry.IntEntry.{IntEntry}
use Rattle.mpt_spec.specs.declared.interrupt.Kind.{Kind}
use Rattle.mpt_spec.specs.Interrupts.{kind_of, polarity_of, trigger_of}
use Rattle.mpt_route.specs.declared.bus.BusKind.TheVariants as bus
use Rattle.mpt_route.specs.declared.platform.Platform.{Platform}
use Rattle.mpt_route.specs.declared.route.Route.{Route}
use Rattle.mpt_route.specs.declared.route.Answer.{Answer}
use Rattle.mpt_route.specs.declared.route.Answer.TheVariants as answer
use Rattle.mpt_route.specs.Routes.{bus_kind_in, io_place_in, high_word_of, vector_of, mode_of, is_int, bit}
use Rattle.mpt_route.specs.Sense.{is_level_low, is_low, is_level}

-- a fact of the row of a routed answer
abbrev pub IfRouted : (Route → Type 0) → Answer → Type 0
IfRouted P (answer.Routed r) = P r
IfRouted P _ = ⊤

-- one of four I/O APICs and one of 24 pins
abbrev pub IsOnPin : Route → Type 0
IsOnPin r = (r.io < 4) × (r.pin < 24)

-- the bus of an entry makes a conforming field level or low
abbrev pub is_bus_level_low : Platform → ℕ → IntEntry → Bool
is_bus_level_low p elcr e = is_level_low (unwrap_or (bus_kind_in p.buses e.bus) bus.Other) e.irq elcr

-- the row of entry e at place i
pub record IsRowOf (p : Platform) (elcr i : ℕ) (e : IntEntry) (r : Route) : Type 0 where
  pub kind : Kind
  pub is_kind : kind_of e.kind ≡ Some kind
  pub io : io_place_in p.ios e.dest ≡ Some r.io
  pub pin : r.pin ≡ e.pin
  pub vector : r.vector ≡ vector_of kind r.io r.pin
  -- bits 7 to 0, 10 to 8, 13 and 15 of the low word, and no others
  pub vector_bits : r.low % 2 ^ 8 ≡ r.vector
  pub mode_bits : r.low / 2 ^ 8 % 8 ≡ mode_of kind
  pub polarity_bit : r.low / 2 ^ 13 % 2 ≡ bit (is_low (polarity_of e.flags) (is_bus_level_low p elcr e))
  pub trigger_bit : r.low / 2 ^ 15 ≡ bit (is_level (trigger_of e.flags) (is_bus_level_low p elcr e) && is_int kind)
  pub other_bits : r.low / 2 ^ 11 % 4 ≡ 0
  pub bit_14 : r.low / 2 ^ 14 % 2 ≡ 0
  pub high : r.high ≡ high_word_of p.processors
  pub entry : r.entry ≡ i
