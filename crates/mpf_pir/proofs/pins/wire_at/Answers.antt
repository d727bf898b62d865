use Rattle.std.proofs.Common.{◌≡◌, ◌<◌, List, length, ap, sym, ◌∙◌, arith}
use Rattle.std.specs.Prelude.{Some, None, ◌==◌, position}
use Rattle.std.proofs.lemmas.List.{get_or_read}
use Rattle.mpt_spec.specs.declared.entry.IntEntry.{IntEntry}
use Rattle.mpf_pir.specs.declared.pins.By.TheVariants as by
use Rattle.mpf_pir.specs.Pins.{wire_of}
use Rattle.mpf_pir.specs.Index.{number_by}
use Rattle.mpf_pir.proofs.WiringLemmas.{wire_by-some, wire_by-none}
use Rattle.mpf_pir.proofs.pins.wire_at.Goals as goal

pub returns-in-Some : goal.returns-in-Some
returns-in-Some c =
    let es : List IntEntry = c.args.pins.now.entries.items in
    let whole : length c.args.pins.now.places.items ≡ 32768 = c.requires.table.whole in
    let inside : c.args.number < length c.args.pins.now.places.items = omega (arith, c.requires.below) in
    let place : position (λ e. number_by by.Pin e == c.args.number) es ≡ Some c.in-Some.place =
    sym (c.requires.table.members c.args.number c.requires.below) ∙ sym (get_or_read c.args.pins.now.places.items c.args.number c.index.result.now inside c.index.ensures None) ∙ c.in-Some.is in
    sym (wire_by-some es c.args.number c.in-Some.place c.index-in-Some.result.now place ∙ ap (λ e. Some (wire_of e)) (sym c.index-in-Some.ensures) ∙ ap Some (sym c.wire_of.ensures))

pub returns-in-None : goal.returns-in-None
returns-in-None c =
    let es : List IntEntry = c.args.pins.now.entries.items in
    let whole : length c.args.pins.now.places.items ≡ 32768 = c.requires.table.whole in
    let inside : c.args.number < length c.args.pins.now.places.items = omega (arith, c.requires.below) in
    let place : position (λ e. number_by by.Pin e == c.args.number) es ≡ None =
    sym (c.requires.table.members c.args.number c.requires.below) ∙ sym (get_or_read c.args.pins.now.places.items c.args.number c.index.result.now inside c.index.ensures None) ∙ c.in-None.is in
    sym (wire_by-none es c.args.number (record { kind = 0; flags = 0; bus = 0; irq = 0; dest = 0; pin = 0 }) place)
