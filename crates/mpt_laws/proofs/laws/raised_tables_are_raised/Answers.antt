use Rattle.mpt_spec.proofs.RaisedLemmas.{raised_of-twice, IsWellFormed-raised_of, FitsInImage-raised_of, IsTablesValue-raised_of, block_size-raised}
use Rattle.mpt_laws.proofs.laws.raised_tables_are_raised.Goals as goal

pub returns-clause-twice : goal.returns-clause-twice
returns-clause-twice c = raised_of-twice

pub returns-clause-well_formed : goal.returns-clause-well_formed
returns-clause-well_formed c = IsWellFormed-raised_of

pub returns-clause-fits : goal.returns-clause-fits
returns-clause-fits c = FitsInImage-raised_of

pub returns-clause-values : goal.returns-clause-values
returns-clause-values c = IsTablesValue-raised_of

pub returns-clause-size : goal.returns-clause-size
returns-clause-size c = λ tables. block_size-raised tables.body
