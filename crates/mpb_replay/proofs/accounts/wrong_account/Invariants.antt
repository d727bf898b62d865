use Rattle.std.proofs.Common.{ℕ, ◌<◌}
use Rattle.mpb_replay.specs.Compared.{AreAccounted}
use Rattle.mpb_replay.proofs.accounts.wrong_account.Given as goal

abbrev pub invariant-loop-io : goal.invariant-loop-io
invariant-loop-io l = (io : ℕ) → io < l.io → AreAccounted io 24 l.entries l.logs
