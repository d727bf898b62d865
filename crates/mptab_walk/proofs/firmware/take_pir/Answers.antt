use Rattle.std.proofs.Common.{ℕ, ◌+◌, ◌≤◌, refl, subst}
use Rattle.mpf_pir.specs.Layout.{IsPir}
use Rattle.mpf_pir.specs.Faults.{IsFirstPirFault}
use Rattle.mptab_walk.specs.Forms.{RoutingTable}
use Rattle.mptab_walk.specs.Ending.{shelves_of}
use Rattle.mptab_walk.specs.Limited.{RefusesPir}
use Rattle.mptab_walk.proofs.LimitedLemmas.{held-taken, held-ended, held-read, most_within-most}
use Rattle.mptab_walk.proofs.firmware.take_pir.Goals as goal

pub returns-in-Ok-clause-table : goal.returns-in-Ok-clause-table
returns-in-Ok-clause-table g c = held-taken (g.S.Shelf.files c.args.shelf.now) (RoutingTable c.args.name.now) c.in-Ok.bytes.items c.in-Ok.ensures.bytes c.pir_in.result (λ t bytes. IsPir t bytes) (rw c.as_slice.ensures.value at c.pir_in.ensures.table)

pub returns-in-Ok-clause-ends : goal.returns-in-Ok-clause-ends
returns-in-Ok-clause-ends g c =
    held-ended (g.S.Shelf.files c.args.shelf.now) (RoutingTable c.args.name.now) c.in-Ok.bytes.items c.in-Ok.ensures.bytes c.pir_in.result (shelves_of g.S.Shelf c.args.shelf.now c.take_bytes.new.shelf) (RefusesPir c.in-Ok.bytes.items) c.in-Ok.ensures.quiet
    (λ status text h. (h.0, h.1, h.2, held-read (g.S.Shelf.files c.args.shelf.now) (RoutingTable c.args.name.now) c.in-Ok.bytes.items c.in-Ok.ensures.bytes (λ bytes. IsFirstPirFault bytes h.1 h.2) h.3, h.4)) (rw c.as_slice.ensures.value at c.pir_in.ensures.refused)

pub returns-in-Err-clause-ends : goal.returns-in-Err-clause-ends
returns-in-Err-clause-ends g c = c.in-Err.ensures.ends (RoutingTable c.args.name.now) refl refl

pub returns-in-Ok-clause-asks : goal.returns-in-Ok-clause-asks
returns-in-Ok-clause-asks g c = subst (λ (n : ℕ). g.S.Shelf.asked c.take_bytes.new.shelf ≤ g.S.Shelf.asked c.args.shelf.now + n) (most_within-most (g.S.Shelf.files c.args.shelf.now) (RoutingTable c.args.name.now) (λ n. refl)) c.in-Ok.ensures.asks

pub returns-in-Err-clause-asks : goal.returns-in-Err-clause-asks
returns-in-Err-clause-asks g c = subst (λ (n : ℕ). g.S.Shelf.asked c.take_bytes.new.shelf ≤ g.S.Shelf.asked c.args.shelf.now + n) (most_within-most (g.S.Shelf.files c.args.shelf.now) (RoutingTable c.args.name.now) (λ n. refl)) c.in-Err.ensures.asks
