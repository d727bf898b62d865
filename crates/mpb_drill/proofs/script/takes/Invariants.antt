use Rattle.std.proofs.Common.{◌≡◌}
use Rattle.mpb_drill.specs.Drill.{takes}
use Rattle.mpb_drill.proofs.script.takes.Given as goal

abbrev pub invariant-loop : goal.invariant-loop
invariant-loop l = l.words.items ≡ takes l.counter
