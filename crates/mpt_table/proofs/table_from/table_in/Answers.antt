use Rattle.std.proofs.Common.{arith}
use Rattle.mpt_spec.proofs.WellFormedLemmas.{IsConfigurationTable-well_formed}
use Rattle.mpt_table.proofs.table_from.table_in.Goals as goal

pub returns-in-Ok-clause-well_formed : goal.returns-in-Ok-clause-well_formed
returns-in-Ok-clause-well_formed c = IsConfigurationTable-well_formed c.in-Ok.table c.args.bytes.now 0 (λ i. omega (arith, c.type_inv.bytes i)) c.in-Ok.ensures.table
