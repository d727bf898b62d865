use Rattle.std.proofs.Common.{refl, inl, inr}
use Rattle.mptab_walk.specs.Forms.{Boot, form_of_still}
use Rattle.mptab_walk.specs.Texts.{usage_line}
use Rattle.mptab_walk.specs.Walk.{texts_of}
use Rattle.mptab_walk.proofs.AnswerLemmas.{IsInRange-form}
use Rattle.mptab_calls.proofs.calls.walk.Goals as goal

pub give-requires : goal.give-requires
give-requires g c = IsInRange-form c.in-Some-Still.command (texts_of c.args.words.now) (rw c.in-Some-Still.field-0-is at c.in-Some-Still.ensures)

pub returns-in-None-clause-answer : goal.returns-in-None-clause-answer
returns-in-None-clause-answer g c = (2, usage_line, inl ((c.in-None.ensures, refl, refl), (refl, refl)), c.deliver_line.ensures)

pub returns-in-None-clause-asks : goal.returns-in-None-clause-asks
returns-in-None-clause-asks g c = inl (c.in-None.ensures, refl)

pub returns-in-Some-Still-clause-answer : goal.returns-in-Some-Still-clause-answer
returns-in-Some-Still-clause-answer g c =
    let due = c.give.ensures.due in
    (due.0, due.1, inr (form_of_still c.in-Some-Still.command, tt, rw c.in-Some-Still.field-0-is at c.in-Some-Still.ensures, due.2), due.3)

pub returns-in-Some-Still-clause-asks : goal.returns-in-Some-Still-clause-asks
returns-in-Some-Still-clause-asks g c = inr (form_of_still c.in-Some-Still.command, tt, rw c.in-Some-Still.field-0-is at c.in-Some-Still.ensures, c.give.ensures.asks)

pub returns-in-Some-Boot-clause-answer : goal.returns-in-Some-Boot-clause-answer
returns-in-Some-Boot-clause-answer g c =
    let files = c.in-Some-Boot.files in
    let due = c.give_of_boot.ensures.due in
    (due.0, due.1, inr (Boot files.image.now files.script.now, tt, rw c.in-Some-Boot.field-0-is at c.in-Some-Boot.ensures, due.2), due.3)

pub returns-in-Some-Boot-clause-asks : goal.returns-in-Some-Boot-clause-asks
returns-in-Some-Boot-clause-asks g c =
    let files = c.in-Some-Boot.files in
    inr (Boot files.image.now files.script.now, tt, rw c.in-Some-Boot.field-0-is at c.in-Some-Boot.ensures, c.give_of_boot.ensures.asks)
