use Rattle.mpb_ioapic.proofs.ListLemmas.{set-same}
use Rattle.mpb_ioapic.proofs.pins.Pins.pulse_at.Goals as goal

pub returns-then-not-named-clause-state : goal.returns-then-not-named-clause-state
returns-then-not-named-clause-state c = λ p at. rw c.if-not-named.true (set-same c.args.self.now c.args.number p at)
