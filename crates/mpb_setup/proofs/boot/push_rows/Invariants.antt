use Rattle.std.proofs.Common.{◌≡◌, ◌++◌, take}
use Rattle.std.specs.List.{flat_map}
use Rattle.mpb_setup.specs.Boot.{row_ops}
use Rattle.mpb_setup.proofs.boot.push_rows.Given as goal

abbrev pub invariant-loop-answer : goal.invariant-loop-answer
invariant-loop-answer l = l.ops.items ≡ l.fn.ops.items ++ flat_map row_ops (take l.answer-index l.answers)
