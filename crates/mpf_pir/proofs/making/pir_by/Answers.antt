use Rattle.std.proofs.Common.{◌≡◌, map, ap, [], ◌∷◌, ◌∙◌}
use Rattle.mpf_pir.specs.Made.{device_entries, slot_of}
use Rattle.mpf_pir.specs.Index.{slot_with}
use Rattle.mpf_pir.proofs.WiringLemmas.{slots_with-of}
use Rattle.mpf_pir.proofs.making.pir_by.Goals as goal

pub returns-clause-table : goal.returns-clause-table
returns-clause-table c =
    let p = c.args.p.now in
    let w = c.args.wiring.now in
    let slots : c.new.result ≡ map (slot_of p) (device_entries p) =
    c.new.ensures ∙ c.in-Ok.ensures ∙ ap (map (slot_with w.pins.entries.items w.wires.entries.items)) c.as_slice-devices.ensures.value
    ∙ slots_with-of p w.pins.entries.items w.wires.entries.items w.devices.items c.requires.wiring.pins c.requires.wiring.wires c.requires.wiring.devices in
    λ i. record {
      router_bus = 0;
      router_function = 0;
      exclusive = 0;
      compatible = 0;
      miniport = 0;
      reserved = 0 ∷ 0 ∷ 0 ∷ 0 ∷ 0 ∷ 0 ∷ 0 ∷ 0 ∷ 0 ∷ 0 ∷ 0 ∷ [];
      slots = slots i;
    }
