use Rattle.std.proofs.Common.{sym, subst, List, ◌%◌}
use Rattle.std.specs.List.{AllByRecursion}
use Rattle.mpb_spec.specs.declared.apic.Pin.{Pin}
use Rattle.mpb_spec.specs.IoApic.{with_half}
use Rattle.mpb_ioapic.specs.Signs.{HasNoStatus}
use Rattle.mpb_ioapic.proofs.StatusLemmas.{all-changed, half-written}
use Rattle.mpb_ioapic.proofs.chip.IoApic.write.Goals as goal

pub invariant_of-self-2 : goal.invariant_of-self-2
invariant_of-self-2 c =
    let inv = c.self.invariant in
    (inv.0, inv.1, subst (λ (ps : List Pin). AllByRecursion HasNoStatus ps) (sym c.write.ensures.state) (all-changed c.from-number.result (with_half (c.self.inside.index % 2) c.args.value) c.self.inside.pins (half-written (c.self.inside.index % 2) c.args.value) inv.2))
