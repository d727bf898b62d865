use Rattle.std.proofs.Common.{sym, subst}
use Rattle.std.specs.List.{AllByRecursion}
use Rattle.mpb_setup.specs.Steps.{HasPin}
use Rattle.mpb_setup.proofs.PinLemmas.{have_pins}
use Rattle.mpb_setup.proofs.boot.boot_ops.Goals as goal

pub program-requires-clause-pins : goal.program-requires-clause-pins
program-requires-clause-pins c = subst (AllByRecursion HasPin) (sym c.requires.routes.1) (have_pins c.args.p.now c.requires.routes.0)
