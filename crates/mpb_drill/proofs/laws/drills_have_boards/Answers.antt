use Rattle.mpb_drill.proofs.DrillLemmas.{fits_of, values_of, no_fault_of}
use Rattle.mpb_drill.proofs.laws.drills_have_boards.Goals as goal

pub returns-clause-fits : goal.returns-clause-fits
returns-clause-fits c = fits_of

pub returns-clause-values : goal.returns-clause-values
returns-clause-values c = values_of

pub returns-clause-no_fault : goal.returns-clause-no_fault
returns-clause-no_fault c = no_fault_of
