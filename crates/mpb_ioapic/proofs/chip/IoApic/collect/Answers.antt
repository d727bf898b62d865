use Rattle.std.proofs.Common.{sym, subst, List}
use Rattle.std.specs.List.{AllByRecursion}
use Rattle.mpb_spec.specs.declared.apic.Pin.{Pin}
use Rattle.mpb_ioapic.specs.Signs.{HasNoStatus}
use Rattle.mpb_ioapic.proofs.StatusLemmas.{all-pulsed}
use Rattle.mpb_ioapic.proofs.chip.IoApic.collect.Goals as goal

pub invariant_of-self : goal.invariant_of-self
invariant_of-self c =
    let inv = c.self.invariant in
    (inv.0, inv.1, subst (λ (ps : List Pin). AllByRecursion HasNoStatus ps) (sym c.collect.ensures.state) (all-pulsed c.args.pins c.self.inside.pins inv.2))
