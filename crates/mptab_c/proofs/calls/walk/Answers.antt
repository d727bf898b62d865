use Rattle.std.proofs.Common.{ap}
use Rattle.mptab_walk.specs.Walk.{texts_of}
use Rattle.mptab_c.proofs.GivenLemmas.{Gives-whole}
use Rattle.mptab_c.proofs.calls.walk.Goals as goal

pub returns : goal.returns
returns c =
    Gives-whole _ _ _ _ _ _ _ _ _ _ _ (texts_of c.args.words.now) _ _ _ _ _ c.new-shelf.ensures (ap (λ t. t.faults) c.new-text.ensures) (ap (λ t. t.bytes) c.new-text.ensures) c.if-status-eq-CANNOT_WRITE.false c.run_still-status.ensures.failures c.run_still-status.ensures.complete c.bytes.ensures c.hand.ensures.needed c.hand.ensures.handed
