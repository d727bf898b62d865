use Rattle.std.proofs.Common.{◌≡◌, length, sym, ◌∙◌}
use Rattle.mpf_pir.proofs.LayoutLemmas.{AreSlots-one}
use Rattle.mpf_pir.proofs.FaultLemmas.{IsPir-faultless}
use Rattle.mpf_pir.proofs.reading.read_pir.Goals as goal

pub returns-in-Some-clause-only_table : goal.returns-in-Some-clause-only_table
returns-in-Some-clause-only_table c t is = IsPir-faultless t c.args.bytes.now is c.in-Some.at c.in-Some.why c.in-Some.ensures.some.stands

pub returns-clause-only_table : goal.returns-clause-only_table
returns-clause-only_table c t is =
    let slots : c.new.result ≡ t.slots = c.new.ensures ∙ AreSlots-one c.in-Ok.slots.items t.slots c.args.bytes.now 32 (length c.args.bytes.now) c.in-Ok.ensures.slots is.slots in
    λ i. record {
      router_bus = sym is.header.router_bus i;
      router_function = sym is.header.router_function i;
      exclusive = (c.read_field.ensures ∙ sym is.header.exclusive) i;
      compatible = (c.read_field-2.ensures ∙ sym is.header.compatible) i;
      miniport = (c.read_field-3.ensures ∙ sym is.header.miniport) i;
      reserved = (c.read_field-4.ensures ∙ sym is.header.reserved) i;
      slots = slots i;
    }
