use Rattle.std.proofs.Common.{List, ℕ, [], get_or, ◌∙◌}
use Rattle.std.specs.Borrow.{Bor}
use Rattle.mptab_walk.proofs.DeliveryLemmas.{WritesFront-piece, WritesFront-fails, line-drop, line-end, WritesFront-last_fails}
use Rattle.mptab_walk.proofs.delivery.put_line.Goals as goal

pub loop-part-preserved : goal.loop-part-preserved
loop-part-preserved g c =
    let none : Bor (List ℕ) = record { ref_ptr = (0, 0); now = [] } in (
      WritesFront-piece (g.O.Sink.written c.args.out.now) (g.O.Sink.written c.loop-part.out) (g.O.Sink.written c.put_text.new.out) _ (get_or c.args.parts.now c.loop-part.part-index none).now _ _
          (line-drop (λ (part : Bor (List ℕ)). part.now) c.args.parts.now c.loop-part.part-index none c.loop-part-test.true) c.loop-part.invariant.0 c.in_default.ensures.ok,
      c.in_default.ensures.unfailed ∙ c.loop-part.invariant.1,
    )

pub returns-in-Err-clause-err : goal.returns-in-Err-clause-err
returns-in-Err-clause-err g c =
    let none : Bor (List ℕ) = record { ref_ptr = (0, 0); now = [] } in
    WritesFront-fails (g.O.Sink.written c.args.out.now) (g.O.Sink.written c.loop-part.out) (g.O.Sink.written c.put_text.new.out) _ (get_or c.args.parts.now c.loop-part.part-index none).now _ _
    (line-drop (λ (part : Bor (List ℕ)). part.now) c.args.parts.now c.loop-part.part-index none c.loop-part-test.true) c.loop-part.invariant.0 c.in-Err.ensures.err

pub returns-clause-err : goal.returns-clause-err
returns-clause-err g c =
    WritesFront-last_fails c.put_text-2.result (g.O.Sink.written c.args.out.now) (g.O.Sink.written c.loop-part.out) (g.O.Sink.written c.put_text-2.new.out) _ _ _
    (line-end (λ (part : Bor (List ℕ)). part.now) c.args.parts.now c.loop-part.part-index c.loop-part-test.false) c.loop-part.invariant.0 c.put_text-2.ensures.err
