use Rattle.std.proofs.Common.{◌≡◌, true, take}
use Rattle.std.specs.List.{list_all}
use Rattle.mpb_config.specs.ConfigTests.{is_aimed}
use Rattle.mpb_config.proofs.ops.are_aimed.Given as goal

abbrev pub invariant-loop-op : goal.invariant-loop-op
invariant-loop-op l = list_all (is_aimed l.boot) (take l.op-index l.ops) ≡ true
