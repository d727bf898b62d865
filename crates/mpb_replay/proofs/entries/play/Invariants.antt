use Rattle.std.proofs.Common.{◌≡◌, take}
use Rattle.mpb_replay.proofs.entries.play.Given as goal

abbrev pub invariant-loop-entry : goal.invariant-loop-entry
invariant-loop-entry l = record { plan : l.board.plan ≡ l.initial.board.plan; journal : l.board.journal ≡ take l.entry-index l.entries }
