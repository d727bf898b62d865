use Rattle.mpt_spec.proofs.WellFormedLemmas.{Describes-well_formed, Describes-below_4_gib}
use Rattle.mpt_spec.proofs.ValueLemmas.{Describes-value}
use Rattle.mpt_laws.proofs.laws.described_tables_are_well_formed.Goals as goal

pub returns-clause-well_formed : goal.returns-clause-well_formed
returns-clause-well_formed c = Describes-well_formed

pub returns-clause-below_4_gib : goal.returns-clause-below_4_gib
returns-clause-below_4_gib c = Describes-below_4_gib

pub returns-clause-values : goal.returns-clause-values
returns-clause-values c = Describes-value
