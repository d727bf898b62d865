use Rattle.std.proofs.Common.{◌≡◌, ◌<◌, List, [], ◌∷◌, ◌++◌, length, map, take, sym, ap, ◌∙◌, arith}
use Rattle.std.proofs.lemmas.List.{map_more, take_all}
use Rattle.mpt_spec.specs.declared.entry.IntEntry.{IntEntry}
use Rattle.mpf_pir.specs.declared.table.Slot.{Slot}
use Rattle.mpf_pir.specs.Index.{slot_with}
use Rattle.mpf_pir.proofs.making.slots_of.Goals as goal

-- what the code's indexing names past the end
d : IntEntry
d = record { kind = 0; flags = 0; bus = 0; irq = 0; dest = 0; pin = 0 }

pub loop-e-preserved : goal.loop-e-preserved
unfolding d
loop-e-preserved c =
    let es = c.args.devices.now in
    let i = c.loop-e.e-index in
    let inside : i < length es = omega (arith, c.loop-e-test.true) in
    let slot : IntEntry → Slot = slot_with c.args.pins.now.entries.items c.args.wires.now.entries.items in
    let kept : c.push.new.self.items ≡ c.loop-e.slots.items ++ c.slot_of.result ∷ [] = c.in_ok-push.ensures.items in
    kept ∙ ap (λ (ss : List Slot). ss ++ c.slot_of.result ∷ []) c.loop-e.invariant ∙ ap (λ (s : Slot). map slot (take i es) ++ s ∷ []) c.slot_of.ensures ∙ sym (map_more slot es i d inside)

pub loop-e-init : goal.loop-e-init
loop-e-init c = c.new-slots.ensures.items

pub returns : goal.returns
returns c = c.loop-e.invariant ∙ ap (map (slot_with c.args.pins.now.entries.items c.args.wires.now.entries.items)) (take_all c.loop-e.e-index c.args.devices.now c.loop-e-test.false)

pub slot_of-requires : goal.slot_of-requires
slot_of-requires c = record { pin_table = c.requires.pin_table; wire_table = c.requires.wire_table; few = c.requires.few; bytes = c.requires.bytes }
