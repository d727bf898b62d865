use Rattle.std.proofs.Common.{◌≡◌, map, drop}
use Rattle.mpt_listing.specs.Listing.{line}
use Rattle.mptab_walk.proofs.DeliveryLemmas.{WritesFront}
use Rattle.mptab_walk.proofs.delivery.put_line.Given as goal

abbrev pub invariant-loop-part : goal.invariant-loop-part
invariant-loop-part g l =
    WritesFront (g.O.Sink.written l.initial.out) (g.O.Sink.written l.out) (line (map (λ part. part.now) l.parts)) (line (map (λ part. part.now) (drop l.part-index l.parts)))
    × (g.O.Sink.faults l.out ≡ g.O.Sink.faults l.initial.out)
