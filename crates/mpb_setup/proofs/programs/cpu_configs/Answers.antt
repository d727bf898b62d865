use Rattle.std.proofs.Common.{map, ap, ◌∙◌}
use Rattle.std.proofs.lemmas.List.{take_all}
use Rattle.mpb_setup.specs.Board.{cpu_plan_of}
use Rattle.mpb_setup.proofs.PushLemmas.{map_pushed}
use Rattle.mpb_setup.proofs.programs.cpu_configs.Goals as goal

pub loop-id-preserved : goal.loop-id-preserved
loop-id-preserved c = map_pushed (cpu_plan_of c.args.p.now c.args.boot_program.now c.args.s.now) c.loop-id.cpus.items _ c.args.ids.now c.loop-id.id-index _ _ c.loop-id-test.true c.in-Ok.ensures c.in-Ok-push.ensures.items c.loop-id.invariant

pub returns : goal.returns
returns c = c.loop-id.invariant ∙ ap (map (cpu_plan_of c.args.p.now c.args.boot_program.now c.args.s.now)) (take_all c.loop-id.id-index c.args.ids.now c.loop-id-test.false)
