use Rattle.mpb_replay.specs.Compared.{AreAccounted}
use Rattle.mpb_replay.proofs.accounts.wrong_pin.Given as goal

abbrev pub invariant-loop-pin : goal.invariant-loop-pin
invariant-loop-pin l = AreAccounted l.io l.pin l.entries l.logs
