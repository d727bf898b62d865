use Rattle.std.proofs.Common.{◌∙◌}
use Rattle.mptab_walk.proofs.DeliveryLemmas.{WritesFront-piece, WritesFront-fails}
use Rattle.mptab_walk.proofs.delivery.put_text.Goals as goal

pub loop-rest-preserved : goal.loop-rest-preserved
loop-rest-preserved g c = (
  WritesFront-piece (g.O.Sink.written c.args.out.now) (g.O.Sink.written c.loop-rest.out) (g.O.Sink.written c.put.new.self) c.args.text.now c.split_at.result.0.now c.loop-rest.rest.now c.split_at.result.1.now
      c.split_at.ensures.by_index.0 c.loop-rest.invariant.0 c.in_default.ensures.ok,
  c.in_default.ensures.unfailed ∙ c.loop-rest.invariant.1,
)

pub returns-in-Err-clause-err : goal.returns-in-Err-clause-err
returns-in-Err-clause-err g c =
    WritesFront-fails (g.O.Sink.written c.args.out.now) (g.O.Sink.written c.loop-rest.out) (g.O.Sink.written c.put.new.self) c.args.text.now c.split_at.result.0.now c.loop-rest.rest.now c.split_at.result.1.now
    c.split_at.ensures.by_index.0 c.loop-rest.invariant.0 c.in-Err.ensures.err
