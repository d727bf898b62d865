use Rattle.std.proofs.Common.{below_more, arith}
use Rattle.mpb_replay.specs.Compared.{AreAccounted}
use Rattle.mpb_replay.proofs.accounts.wrong_account.Goals as goal

pub loop-io-preserved : goal.loop-io-preserved
loop-io-preserved c = below_more (λ io. AreAccounted io 24 c.args.entries.now c.args.logs.now) c.loop-io.io c.loop-io.invariant c.in_default.ensures

pub returns : goal.returns
returns c = λ io lt. c.loop-io.invariant io (omega (arith, lt, c.loop-io-test.false))
