use Rattle.std.proofs.Common.{sym, subst, List}
use Rattle.std.specs.List.{AllByRecursion}
use Rattle.mpb_spec.specs.declared.apic.Pin.{Pin}
use Rattle.mpb_spec.specs.IoApic.{with_line}
use Rattle.mpb_ioapic.specs.Signs.{HasNoStatus}
use Rattle.mpb_ioapic.proofs.StatusLemmas.{all-changed}
use Rattle.mpb_ioapic.proofs.chip.IoApic.drive.Goals as goal

pub invariant_of-self : goal.invariant_of-self
invariant_of-self c =
    let inv = c.self.invariant in
    (inv.0, inv.1, subst (λ (ps : List Pin). AllByRecursion HasNoStatus ps) (sym c.drive.ensures.state) (all-changed c.from.result (with_line c.args.high) c.self.inside.pins (λ p h. h) inv.2))
