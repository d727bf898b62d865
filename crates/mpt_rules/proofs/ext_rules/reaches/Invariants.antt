use Rattle.std.proofs.Common.{◌-◌}
use Rattle.std.specs.Prelude.{◌↔◌}
use Rattle.mpt_rules.specs.Rules.{ReachesWithin}
use Rattle.mpt_rules.proofs.ext_rules.reaches.Given as goal

abbrev pub invariant-loop : goal.invariant-loop
invariant-loop l = ReachesWithin (l.steps - l.counter) l.entries l.bus l.to ↔ ReachesWithin l.steps l.entries l.from l.to
