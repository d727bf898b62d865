use Rattle.std.proofs.Common.{◌≡◌, length}
use Rattle.mptab_walk.proofs.DeliveryLemmas.{WritesFront}
use Rattle.mptab_walk.proofs.delivery.put_text.Given as goal

abbrev pub invariant-loop-rest : goal.invariant-loop-rest
invariant-loop-rest g l =
    WritesFront (g.O.Sink.written l.initial.out) (g.O.Sink.written l.out) l.text l.rest × (g.O.Sink.faults l.out ≡ g.O.Sink.faults l.initial.out)

abbrev pub decreases-loop-rest : goal.decreases-loop-rest
decreases-loop-rest g l = length l.rest
