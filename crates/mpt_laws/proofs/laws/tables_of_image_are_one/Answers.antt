use Rattle.mpt_spec.proofs.TableLemmas.{IsConfigurationTable-unique, Describes-unique}
use Rattle.mpt_laws.proofs.laws.tables_of_image_are_one.Goals as goal

pub returns-clause-table : goal.returns-clause-table
returns-clause-table c = IsConfigurationTable-unique

pub returns-clause-tables : goal.returns-clause-tables
returns-clause-tables c = Describes-unique
