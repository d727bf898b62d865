use Rattle.std.proofs.Common.{◌≡◌}
use Rattle.mpb_crew.specs.Workers.{IsSame, IsMaking}
use Rattle.mpb_crew.proofs.devices.make_words.Given as goal

abbrev pub invariant-loop-at : goal.invariant-loop-at
invariant-loop-at g l = IsSame l.initial.seat l.seat × (l.dev.latch ≡ l.initial.dev.latch) × IsMaking l.words l.at l.seat l.dev
