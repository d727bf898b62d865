use Rattle.std.proofs.Common.{◌∙◌, sym, ap, Some, add-one, arith}
use Rattle.mpb_ioapic.proofs.ListLemmas.{next_due_from-past, next_due_from-at}
use Rattle.mpb_ioapic.proofs.pins.Pins.next_due.Goals as goal

pub returns-then-shows : goal.returns-then-shows
returns-then-shows c =
    let due = rw c.if-shows.true at c.shows.ensures in
    ap Some c.message.ensures ∙ sym (next_due_from-at c.loop-number.number c.loop-number.number c.args.self.now _ (omega arith) due c.at.ensures) ∙ c.loop-number.invariant

pub loop-number-preserved : goal.loop-number-preserved
loop-number-preserved c =
    let not_due = rw c.if-shows.false at c.shows.ensures in
    rw add-one (rw add-one at (sym (next_due_from-past c.loop-number.number c.loop-number.number c.args.self.now (omega arith) not_due)) ∙ c.loop-number.invariant)
