use Rattle.std.proofs.Common.{◌≡◌, map, take}
use Rattle.mpb_setup.specs.Board.{cpu_plan_of}
use Rattle.mpb_setup.proofs.programs.cpu_configs.Given as goal

abbrev pub invariant-loop-id : goal.invariant-loop-id
invariant-loop-id l = l.cpus.items ≡ map (cpu_plan_of l.p l.boot_program l.s) (take l.id-index l.ids)
