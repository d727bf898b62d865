use Rattle.mpt_spec.proofs.WrittenLemmas.{IsBaseEntryAt-written, IsExtEntryAt-written}
use Rattle.mpt_laws.proofs.laws.written_entry_is_there.Goals as goal

pub returns-clause-base : goal.returns-clause-base
returns-clause-base c = IsBaseEntryAt-written

pub returns-clause-ext : goal.returns-clause-ext
returns-clause-ext c = IsExtEntryAt-written
