use Rattle.std.proofs.Common.{refl, inl, inr}
use Rattle.mptab_walk.specs.Forms.{form_of_still}
use Rattle.mptab_walk.specs.Texts.{usage_line}
use Rattle.mptab_walk.specs.Walk.{texts_of}
use Rattle.mptab_walk.proofs.AnswerLemmas.{IsInRange-form}
use Rattle.mptab_calls.proofs.CauseLemmas.{still_form}
use Rattle.mptab_calls.proofs.calls.walk_still.Goals as goal

pub give-requires : goal.give-requires
give-requires g c = IsInRange-form c.in-Some.command (texts_of c.args.words.now) c.in-Some.ensures

pub returns-in-Some-clause-answer : goal.returns-in-Some-clause-answer
returns-in-Some-clause-answer g c =
    let due = c.give.ensures.due in
    (due.0, due.1, inr (form_of_still c.in-Some.command, still_form c.in-Some.command, c.in-Some.ensures, due.2), due.3)

pub returns-in-Some-clause-asks : goal.returns-in-Some-clause-asks
returns-in-Some-clause-asks g c = inr (form_of_still c.in-Some.command, still_form c.in-Some.command, c.in-Some.ensures, c.give.ensures.asks)

pub returns-in-None-clause-answer : goal.returns-in-None-clause-answer
returns-in-None-clause-answer g c = (2, usage_line, inl ((c.in-None.ensures, refl, refl), (refl, refl)), c.deliver_line.ensures)
