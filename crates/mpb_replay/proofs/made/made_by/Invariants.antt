use Rattle.std.proofs.Common.{◌≡◌, ◌≤◌, take}
use Rattle.mpb_replay_laws.specs.Made.{made_by}
use Rattle.mpb_replay.proofs.made.made_by.Given as goal

abbrev pub invariant-loop-entry : goal.invariant-loop-entry
invariant-loop-entry l = (l.made ≡ made_by l.agent (take l.entry-index l.journal)) × (l.made ≤ l.entry-index)
