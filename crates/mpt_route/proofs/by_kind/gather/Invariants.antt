use Rattle.std.proofs.Common.{take}
use Rattle.mpt_route.specs.ByKind.{AreByKind}
use Rattle.mpt_route.proofs.by_kind.gather.Given as goal

abbrev pub invariant-loop-entry : goal.invariant-loop-entry
invariant-loop-entry l = AreByKind (take l.entry-index l.entries) l.kinds
