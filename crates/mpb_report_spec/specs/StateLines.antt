-- The lines of a board's state, this project's own.
--     members xs         the vectors of a set, ascending
--     vectors_text vs    a list of vectors
--     cpu_line id l a    the line of a processor
--     io_line a pins     the line of the I/O APIC at a place
--     state_lines s      all of them: of the interrupt mode register, of each processor, of each I/O APIC
use Rattle.std.specs.Prelude.{ℕ, List, [], ◌∷◌, ◌++◌, codes, decimal, map, filter}
use Rattle.std.specs.List.{concat, flat_map, range_with_len}
use Rattle.mpt_listing.specs.Listing.{line, hex}
use Rattle.mpb_spec.specs.declared.config.Life.{Life}
use Rattle.mpb_spec.specs.declared.config.Life.TheVariants as life
use Rattle.mpb_spec.specs.declared.config.Imcr.{Imcr}
use Rattle.mpb_spec.specs.declared.config.Imcr.TheVariants as imcr
use Rattle.mpb_spec.specs.Numbers.{has}
use Rattle.mpb_spec.specs.declared.apic.Pin.{Pin}
use Rattle.mpb_spec.specs.LocalApic.{LocalApic}
use Rattle.mpb_spec.specs.IoApic.{mask_by}
use Rattle.mpb_spec.specs.State.{Processor, Place, BoardState}
use Rattle.mpb_report_spec.specs.Numbered.{numbered}

-- the interrupt mode register
abbrev pub imcr_text : Imcr → List ℕ
imcr_text imcr.Absent = codes "none"
imcr_text imcr.Pic = codes "pic"
imcr_text imcr.Apic = codes "apic"

-- the line of that register
abbrev pub imcr_line : Imcr → List ℕ
imcr_line r = line (codes "state imcr " ∷ imcr_text r ∷ [])

-- whether a processor runs
abbrev pub life_text : Life → List ℕ
life_text life.Asleep = codes "asleep"
life_text life.Waiting = codes "waiting"
life_text (life.Started page) = concat (codes "started." ∷ hex 2 page ∷ [])
life_text life.First = codes "first"

-- the members below n of a set, ascending
unfoldable pub members_below : ℕ → List ℕ → List ℕ
members_below n xs = filter (λ v. has v xs) (range_with_len 0 n)

-- its vectors: those below 256
unfoldable pub members : List ℕ → List ℕ
members xs = members_below 256 xs

-- a vector after a comma
abbrev pub further_vector : ℕ → List ℕ
further_vector v = codes "," ++ hex 2 v

-- vectors parted by commas, `-` where there are none
abbrev pub vectors_text : List ℕ → List ℕ
vectors_text [] = codes "-"
vectors_text (v ∷ vs) = hex 2 v ++ flat_map further_vector vs

-- the vectors of a local APIC that are requested, in service and level-triggered
abbrev pub registers_text : LocalApic → List ℕ
registers_text a = concat (codes " irr " ∷ vectors_text (members a.irr) ∷ codes " isr " ∷ vectors_text (members a.isr) ∷ codes " tmr " ∷ vectors_text (members a.tmr) ∷ [])

-- the line of a processor: its id, its life, its task priority, and its vectors
abbrev pub cpu_line : ℕ → Life → LocalApic → List ℕ
cpu_line id l a = line (codes "state cpu " ∷ hex 2 id ∷ codes " " ∷ life_text l ∷ codes " tpr " ∷ hex 2 a.tpr ∷ registers_text a ∷ [])

-- that of a processor of a board
abbrev pub processor_line : Processor → List ℕ
processor_line p = cpu_line p.id p.life p.apic

-- the line of the I/O APIC at place a: the pins whose line is asserted, that are due, and that have remote IRR set, bit n for pin n
abbrev pub io_line : ℕ → List Pin → List ℕ
io_line a pins =
    line (codes "state io " ∷ decimal a ∷ codes " line " ∷ hex 6 (mask_by (λ p. p.line) pins)
    ∷ codes " due " ∷ hex 6 (mask_by (λ p. p.due) pins) ∷ codes " remote " ∷ hex 6 (mask_by (λ p. p.remote) pins) ∷ [])

-- that of the I/O APIC at place a of a board
abbrev pub place_line : ℕ → Place → List ℕ
place_line a p = io_line a p.chip.pins

-- the lines of a state: processors in their order, ascending by id, and I/O APICs by place
abbrev pub state_lines : BoardState → List (List ℕ)
state_lines s = imcr_line s.imcr ∷ (map processor_line s.processors ++ numbered place_line 0 s.places)
