-- The routes of a platform: for each I/O interrupt entry a row of an I/O APIC's redirection table (82093AA datasheet,
-- section 3.2.4), or the first reason for which it has none. Vectors, high words, reasons and their order are this project's own.
--     high_word_of processors      the high word of every row
--     bus_kind_in buses id         the type of a bus, by the first entry with its id
--     io_place_in ios id           the place of an id among the first four enabled I/O APICs
--     vector_of, mode_of, low_word_of   the fields of a low word
--     own_row b place high elcr n e     the row that entry n asks for
--     taken_by io pin earlier      the low word that an earlier answer has on a pin
--     has_reason b place taken low e why   whether a reason holds of an entry
--     routes_of p elcr             the answers to all entries
use Rattle.std.specs.Prelude.{ℕ, ◌==◌, ◌&&◌, not, nat_lt, ◌+◌, ◌*◌, ◌^◌, Bool, true, false, if◌then◌else◌, List, [], ◌∷◌, ◌++◌, length, take, filter, find, position, fold, Option, Some, None, is_none, unwrap_or, option_map}
use Rattle.std.specs.Option.{option_or}
use Rattle.mpt_spec.specs.declared.entry.Processor.{Processor}
use Rattle.mpt_spec.specs.declared.entry.Bus.{Bus}
use Rattle.mpt_spec.specs.declared.entry.IoApic.{IoApic}
use Rattle.mpt_spec.specs.declared.entry.IntEntry.{IntEntry}
use Rattle.mpt_spec.specs.declared.interrupt.Kind.{Kind}
use Rattle.mpt_spec.specs.declared.interrupt.Kind.TheVariants as kind
use Rattle.mpt_spec.specs.Interrupts.{kind_of, polarity_of, trigger_of}
use Rattle.mpt_route.specs.declared.bus.BusKind.{BusKind}
use Rattle.mpt_route.specs.declared.bus.BusKind.TheVariants as bus
use Rattle.mpt_route.specs.declared.platform.Platform.{Platform}
use Rattle.mpt_route.specs.declared.route.Route.{Route}
use Rattle.mpt_route.specs.declared.route.Why.{Why}
use Rattle.mpt_route.specs.declared.route.Why.TheVariants as why
use Rattle.mpt_route.specs.declared.route.Answer.{Answer}
use Rattle.mpt_route.specs.declared.route.Answer.TheVariants as answer
use Rattle.mpt_spec.specs.Flags.{is_boot_processor}
pub use Rattle.mpt_spec.specs.Flags.{is_enabled_io_apic as is_enabled}
use Rattle.mpt_route.specs.Sense.{bus_kind_of, is_level_low, is_low, is_level, is_reserved, conforms}

-- the high word of every row: the boot processor's id in bits 31 to 24, 0 where there is none
abbrev pub high_word_of : List Processor → ℕ
high_word_of processors = unwrap_or (option_map (λ e. 2 ^ 24 * e.apic) (find is_boot_processor processors)) 0

-- the type of a bus, by the first entry with its id
abbrev pub bus_kind_in : List Bus → ℕ → Option BusKind
bus_kind_in buses id = option_map (λ b. bus_kind_of b.name) (find (λ b. b.id == id) buses)

-- the place of an id among the first four enabled I/O APICs
abbrev pub io_place_in : List IoApic → ℕ → Option ℕ
io_place_in ios id = position (λ io. io.id == id) (take 4 (filter is_enabled ios))

-- only INT has a vector
abbrev pub vector_of : Kind → ℕ → ℕ → ℕ
vector_of kind.Int place pin = 0x20 + 24 * place + pin
vector_of _ place pin = 0

-- the delivery mode, in three bits: 000 fixed, 010 SMI, 100 NMI, 111 ExtINT
abbrev pub mode_of : Kind → ℕ
mode_of kind.Int = 0
mode_of kind.Nmi = 4
mode_of kind.Smi = 2
mode_of kind.ExtInt = 7

-- the kind is INT
abbrev pub is_int : Kind → Bool
is_int kind.Int = true
is_int _ = false

-- a bit
abbrev pub bit : Bool → ℕ
bit b = if b then 1 else 0

-- the low word: vector in bits 7 to 0, delivery mode in 10 to 8, active low in 13, level in 15; only INT may be level
abbrev pub low_word_of : Kind → ℕ → Bool → Bool → ℕ
low_word_of k vector low level = vector + 2 ^ 8 * mode_of k + 2 ^ 13 * bit low + 2 ^ 15 * bit (level && is_int k)

-- the row of place, kind and conforming sense
abbrev pub row_at : ℕ → Kind → Bool → ℕ → ℕ → IntEntry → Route
row_at place k conforming high n e = record {
  io = place;
  pin = e.pin;
  vector = vector_of k place e.pin;
  low = low_word_of k (vector_of k place e.pin) (is_low (polarity_of e.flags) conforming) (is_level (trigger_of e.flags) conforming);
  high = high;
  entry = n;
}

-- the row that entry n asks for; where bus, place or kind is unknown there is a reason, and the row is never given
abbrev pub own_row : Option BusKind → Option ℕ → ℕ → ℕ → ℕ → IntEntry → Route
own_row b place high elcr n e = row_at (unwrap_or place 0) (unwrap_or (kind_of e.kind) kind.Int) (is_level_low (unwrap_or b bus.Other) e.irq elcr) high n e

-- the bus is known, and says nothing of polarity and trigger
abbrev pub is_other : Option BusKind → Bool
is_other (Some bus.Other) = true
is_other _ = false

-- the low word of an answer, where it is routed to the pin
abbrev pub low_on : ℕ → ℕ → Answer → Option ℕ
low_on io pin (answer.Routed r) = if (r.io == io) && (r.pin == pin) then Some r.low else None
low_on io pin _ = None

-- the low word of the first routed answer on a pin
abbrev pub taken_by : ℕ → ℕ → List Answer → Option ℕ
taken_by io pin [] = None
taken_by io pin (a ∷ earlier) = option_or (low_on io pin a) (taken_by io pin earlier)

-- another low word is there, the same low word is there
abbrev pub is_some_other : ℕ → Option ℕ → Bool
is_some_other low None = false
is_some_other low (Some x) = not (x == low)

abbrev pub is_some_same : ℕ → Option ℕ → Bool
is_some_same low None = false
is_some_same low (Some x) = x == low

-- whether a reason holds of an entry e: b is the type of its bus, place that of its I/O APIC, taken the low word that an
-- earlier entry has on its pin, low its own
abbrev pub has_reason : Option BusKind → Option ℕ → Option ℕ → ℕ → IntEntry → Why → Bool
has_reason b place taken low e why.DestWide = e.dest == 255
has_reason b place taken low e why.UnknownBus = is_none b
has_reason b place taken low e why.UnknownIo = is_none place
has_reason b place taken low e why.PinRange = nat_lt 23 e.pin
has_reason b place taken low e why.UnknownKind = is_none (kind_of e.kind)
has_reason b place taken low e why.ReservedFlag = is_reserved (polarity_of e.flags) (trigger_of e.flags)
has_reason b place taken low e why.Conforms = is_other b && conforms (polarity_of e.flags) (trigger_of e.flags)
has_reason b place taken low e why.Clash = is_some_other low taken
has_reason b place taken low e why.Shared = is_some_same low taken

-- the reasons in their order
abbrev pub reasons : List Why
reasons = why.DestWide ∷ why.UnknownBus ∷ why.UnknownIo ∷ why.PinRange ∷ why.UnknownKind ∷ why.ReservedFlag ∷ why.Conforms ∷ why.Clash ∷ why.Shared ∷ []

-- a row, or the first reason against it
abbrev pub answer_unless : Option Why → Route → Answer
answer_unless None row = answer.Routed row
answer_unless (Some reason) row = answer.Unrouted row.entry reason

-- the answer to an entry whose bus and place are looked up
abbrev pub answer_with : Option BusKind → Option ℕ → ℕ → ℕ → List Answer → IntEntry → Answer
answer_with b place high elcr earlier e =
    let row = own_row b place high elcr (length earlier) e in
    answer_unless (find (has_reason b place (taken_by row.io row.pin earlier) row.low e) reasons) row

-- the answer to an entry after the answers to those before it
abbrev pub answer_after : Platform → ℕ → List Answer → IntEntry → Answer
answer_after p elcr earlier e = answer_with (bus_kind_in p.buses e.bus) (io_place_in p.ios e.dest) (high_word_of p.processors) elcr earlier e

-- one answer more
abbrev pub routes_after : Platform → ℕ → List Answer → IntEntry → List Answer
routes_after p elcr earlier e = earlier ++ answer_after p elcr earlier e ∷ []

-- the routes of a platform
abbrev pub routes_of : Platform → ℕ → List Answer
routes_of p elcr = fold (routes_after p elcr) [] p.ints
