use Rattle.std.proofs.Common.{◌≡◌, length, ap, sym, subst, ◌∙◌, arith}
use Rattle.std.specs.List.{AllByRecursion}
use Rattle.mpf_pir.specs.declared.pins.By.TheVariants as by
use Rattle.mpf_pir.specs.Made.{firsts, pin_entries, wire_entries}
use Rattle.mpf_pir.specs.Index.{is_same_by, HasBytePin}
use Rattle.mpf_pir.proofs.WiringLemmas.{pins_are, devices_are, wires_are, all_firsts}
use Rattle.mpf_pir.proofs.making.wiring_by.Goals as goal

pub returns : goal.returns
returns c =
    let p = c.args.p.now in
    let pins : c.in-Ok-firsts_by.pins.entries.items ≡ pin_entries p = c.in-Ok-firsts_by.ensures.are.firsts_are ∙ ap (firsts (is_same_by by.Pin)) c.requires.ints ∙ pins_are p in
    let all : AllByRecursion HasBytePin c.in-Ok-firsts_by.pins.entries.items =
    subst (AllByRecursion HasBytePin) (sym c.in-Ok-firsts_by.ensures.are.firsts_are) (all_firsts HasBytePin (is_same_by by.Pin) c.args.ints.now c.requires.bytes) in
    let wires : c.in-Ok-firsts_by-2.wires.entries.items ≡ wire_entries p =
    c.in-Ok-firsts_by-2.ensures.are.firsts_are ∙ ap (firsts (is_same_by by.Wire)) (c.as_slice.ensures.value ∙ pins) ∙ wires_are p (subst (AllByRecursion HasBytePin) pins all) in
    record {
      pins = pins;
      pin_table = c.in-Ok-firsts_by.ensures.are.table;
      wires = wires;
      wire_table = c.in-Ok-firsts_by-2.ensures.are.table;
      bytes = subst (AllByRecursion HasBytePin) (sym c.in-Ok-firsts_by-2.ensures.are.firsts_are) (all_firsts HasBytePin (is_same_by by.Wire) c.as_slice.result.now (subst (AllByRecursion HasBytePin) (sym c.as_slice.ensures.value) all));
      devices = c.in-Ok.ensures.devices ∙ ap (firsts (is_same_by by.Device)) c.requires.ints ∙ devices_are p;
      few_devices = omega (arith, c.in-Ok.ensures.few, c.requires.few);
      few_wires = omega (arith, c.in-Ok-firsts_by-2.ensures.few, ap length c.as_slice.ensures.value, c.in-Ok-firsts_by.ensures.few, c.requires.few);
    }
