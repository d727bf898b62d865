use Rattle.std.proofs.Common.{◌≡◌, true, take}
use Rattle.std.specs.List.{list_all}
use Rattle.mpb_spec.specs.Configs.{is_script_op}
use Rattle.mpb_config.proofs.ops.are_script_ops.Given as goal

abbrev pub invariant-loop-op : goal.invariant-loop-op
invariant-loop-op l = list_all is_script_op (take l.op-index l.ops) ≡ true
