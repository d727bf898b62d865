use Rattle.mpt_parse.proofs.AnswerLemmas.{only_tables, only_unfit, only_line}
use Rattle.mpt_parse.proofs.parsing.parse.Goals as goal

pub returns-clause-only_tables : goal.returns-clause-only_tables
returns-clause-only_tables c = only_tables c.args.text.now c.fitting_tables.result c.fitting_tables.ensures.tables c.fitting_tables.ensures.refused

pub returns-clause-only_unfit : goal.returns-clause-only_unfit
returns-clause-only_unfit c = only_unfit c.args.text.now c.fitting_tables.result c.fitting_tables.ensures.tables c.fitting_tables.ensures.fits c.fitting_tables.ensures.refused

pub returns-clause-only_line : goal.returns-clause-only_line
returns-clause-only_line c = only_line c.args.text.now c.fitting_tables.result c.fitting_tables.ensures.tables c.fitting_tables.ensures.refused
