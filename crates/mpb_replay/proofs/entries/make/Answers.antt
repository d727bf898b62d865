use Rattle.std.proofs.Common.{length, ap, subst}
use Rattle.mpb_spec.specs.Journal.{IsLegal}
use Rattle.mpb_board.specs.BoardView.{state_of}
use Rattle.mpb_replay.proofs.EntryLemmas.{none_made, made_or_bad}
use Rattle.mpb_replay.proofs.entries.make.Goals as goal

pub why_refused-why-requires : goal.why_refused-why-requires
why_refused-why-requires c = record { refused = none_made (state_of c.args.board.now) c.args.entry.now.agent c.offer_for-offer.result _ c.can_step.result c.can_step.ensures.may c.if-not-can_step.true c.offer_for-offer.ensures }

pub returns-clause-made : goal.returns-clause-made
returns-clause-made c =
    made_or_bad c.args.board.now c.step-made.new.self c.args.entry.now c.step-made.result c.offer_for-offer.result _ c.compare.result c.numbered.result
    (subst (λ l. IsLegal c.args.board.now.plan l) c.journal.ensures.journal c.journal.ensures.legal) c.step-made.ensures.grows c.offer_for-offer.ensures (ap (λ l. length l) c.journal.ensures.journal) c.compare.ensures c.numbered.ensures.none c.numbered.ensures.some
