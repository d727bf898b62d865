use Rattle.std.proofs.Common.{◌≡◌, ◌+◌, ◌*◌, ◌<◌, ℕ, List, length, ap, sym, ◌∙◌, arith}
use Rattle.std.specs.Prelude.{Option, Some, None, ◌==◌, position, option_map, unwrap_or, slice_index_or}
use Rattle.std.specs.List.{AllByRecursion}
use Rattle.std.proofs.lemmas.List.{get_or_read}
use Rattle.mpt_spec.specs.declared.entry.IntEntry.{IntEntry}
use Rattle.mpf_pir.specs.declared.pins.By.TheVariants as by
use Rattle.mpf_pir.specs.declared.pins.Wire.{Wire}
use Rattle.mpf_pir.specs.Pins.{wire_of, is_wire}
use Rattle.mpf_pir.specs.Made.{link_among}
use Rattle.mpf_pir.specs.Index.{number_by, HasBytePin, IsPlaceTable}
use Rattle.mpf_pir.proofs.WiringLemmas.{position_alike, wire_test}
use Rattle.mpf_pir.proofs.making.link_among.Goals as goal

-- the place by number is that of the wire
placed : (es : List IntEntry) (places : List (Option ℕ)) (w : Wire) (o : Option ℕ) → IsPlaceTable by.Wire es places → AllByRecursion HasBytePin es → w.dest < 256 → w.pin < 256 → slice_index_or places (256 * w.dest + w.pin) None ≡ o
    → position (λ e. is_wire (wire_of e) w) es ≡ o
placed es places w o h all d q e = sym (position_alike HasBytePin (λ x. number_by by.Wire x == 256 * w.dest + w.pin) (λ x. is_wire (wire_of x) w) (λ x k. wire_test x w k q) es all) ∙ sym (h.members (256 * w.dest + w.pin) (omega arith)) ∙ e

pub returns-in-Some-index : goal.returns-in-Some-index
returns-in-Some-index c =
    let es : List IntEntry = c.args.wires.now.entries.items in
    let places : List (Option ℕ) = c.args.wires.now.places.items in
    let w : Wire = c.in-Some.wire in
    let n : ℕ = 256 * c.from.result + c.from-in-Some.result in
    let whole : length places ≡ 65536 = c.requires.table.whole in
    let dest : w.dest < 256 = omega arith in
    let pin : w.pin < 256 = omega arith in
    let inside : n < length places = omega arith in
    let same : n ≡ 256 * w.dest + w.pin = omega arith in
    let read : slice_index_or places (256 * w.dest + w.pin) None ≡ Some c.in-Some-index.place = ap (λ m. slice_index_or places m None) (sym same) ∙ sym (get_or_read places n c.index.result.now inside c.index.ensures None) ∙ c.in-Some-index.is in
    sym (ap (link_among es) c.in-Some.is ∙ ap (λ o. unwrap_or (option_map (λ (place : ℕ). 1 + place) o) 0) (placed es places w (Some c.in-Some-index.place) c.requires.table c.requires.bytes dest pin read))

pub returns-in-None-index : goal.returns-in-None-index
returns-in-None-index c =
    let es : List IntEntry = c.args.wires.now.entries.items in
    let places : List (Option ℕ) = c.args.wires.now.places.items in
    let w : Wire = c.in-Some.wire in
    let n : ℕ = 256 * c.from.result + c.from-in-Some.result in
    let whole : length places ≡ 65536 = c.requires.table.whole in
    let dest : w.dest < 256 = omega arith in
    let pin : w.pin < 256 = omega arith in
    let inside : n < length places = omega arith in
    let same : n ≡ 256 * w.dest + w.pin = omega arith in
    let read : slice_index_or places (256 * w.dest + w.pin) None ≡ None = ap (λ m. slice_index_or places m None) (sym same) ∙ sym (get_or_read places n c.index.result.now inside c.index.ensures None) ∙ c.in-None-index.is in
    sym (ap (link_among es) c.in-Some.is ∙ ap (λ o. unwrap_or (option_map (λ (place : ℕ). 1 + place) o) 0) (placed es places w None c.requires.table c.requires.bytes dest pin read))
