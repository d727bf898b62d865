use Rattle.mptab_walk.proofs.MadeLemmas.{pir-written, pir-unmade}
use Rattle.mptab_walk.proofs.answer.pir_on.Goals as goal

pub returns-in-Ok : goal.returns-in-Ok
returns-in-Ok c = pir-written c.pir_written.result c.args.platform.now c.in-Ok.pir c.in-Ok.ensures.table (λ f made. c.in-Ok.ensures.only_fault f made) c.pir_written.ensures

pub returns-in-Err : goal.returns-in-Err
returns-in-Err c = pir-unmade c.unmade_pir.result c.args.platform.now c.in-Err.fault c.in-Err.ensures.fault c.unmade_pir.ensures
