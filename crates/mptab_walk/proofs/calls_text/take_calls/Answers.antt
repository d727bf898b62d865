use Rattle.std.proofs.Common.{ℕ, ◌+◌, ◌≤◌, refl, subst}
use Rattle.mpf_pic_lines.specs.Lines.{IsTextOf, IsFirstBadLine}
use Rattle.mptab_walk.specs.Forms.{Calls}
use Rattle.mptab_walk.specs.Ending.{shelves_of}
use Rattle.mptab_walk.specs.Limited.{RefusesCalls}
use Rattle.mptab_walk.proofs.LimitedLemmas.{held-taken, held-ended, held-read, most_within-most}
use Rattle.mptab_walk.proofs.calls_text.take_calls.Goals as goal

pub returns-in-Ok-clause-calls : goal.returns-in-Ok-clause-calls
returns-in-Ok-clause-calls g c = held-taken (g.S.Shelf.files c.args.shelf.now) (Calls c.args.name.now) c.in-Ok.bytes.items c.in-Ok.ensures.bytes c.calls_in.result (λ ops text. IsTextOf ops.items text) (rw c.as_slice.ensures.value at c.calls_in.ensures.calls)

pub returns-in-Ok-clause-ends : goal.returns-in-Ok-clause-ends
returns-in-Ok-clause-ends g c =
    held-ended (g.S.Shelf.files c.args.shelf.now) (Calls c.args.name.now) c.in-Ok.bytes.items c.in-Ok.ensures.bytes c.calls_in.result (shelves_of g.S.Shelf c.args.shelf.now c.take_bytes.new.shelf) (RefusesCalls c.in-Ok.bytes.items) c.in-Ok.ensures.quiet
    (λ status text h. (h.0, h.1, held-read (g.S.Shelf.files c.args.shelf.now) (Calls c.args.name.now) c.in-Ok.bytes.items c.in-Ok.ensures.bytes (λ calls. IsFirstBadLine calls h.1) h.2, h.3)) (rw c.as_slice.ensures.value at c.calls_in.ensures.refused)

pub returns-in-Err-clause-ends : goal.returns-in-Err-clause-ends
returns-in-Err-clause-ends g c = c.in-Err.ensures.ends (Calls c.args.name.now) refl refl

pub returns-in-Ok-clause-asks : goal.returns-in-Ok-clause-asks
returns-in-Ok-clause-asks g c = subst (λ (n : ℕ). g.S.Shelf.asked c.take_bytes.new.shelf ≤ g.S.Shelf.asked c.args.shelf.now + n) (most_within-most (g.S.Shelf.files c.args.shelf.now) (Calls c.args.name.now) (λ n. refl)) c.in-Ok.ensures.asks

pub returns-in-Err-clause-asks : goal.returns-in-Err-clause-asks
returns-in-Err-clause-asks g c = subst (λ (n : ℕ). g.S.Shelf.asked c.take_bytes.new.shelf ≤ g.S.Shelf.asked c.args.shelf.now + n) (most_within-most (g.S.Shelf.files c.args.shelf.now) (Calls c.args.name.now) (λ n. refl)) c.in-Err.ensures.asks
