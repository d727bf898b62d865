use Rattle.mpf_madt.proofs.SourceLemmas.{isa_of-source, madt_of-no_difference}
use Rattle.mpf_madt.proofs.laws.translated_madt_has_the_sources.Goals as goal

pub returns-clause-lines : goal.returns-clause-lines
returns-clause-lines c = isa_of-source

pub returns-clause-same : goal.returns-clause-same
returns-clause-same c = madt_of-no_difference
