use Rattle.mpt_spec.proofs.SpellingLemmas.{IsBaseEntryAt-spelled, IsExtEntryAt-spelled, IsConfigurationTable-spelled, IsFloatingPointer-spelled}
use Rattle.mpt_laws.proofs.laws.spelling_is_one.Goals as goal

pub returns-clause-table : goal.returns-clause-table
returns-clause-table c = IsConfigurationTable-spelled

pub returns-clause-pointer : goal.returns-clause-pointer
returns-clause-pointer c = IsFloatingPointer-spelled

pub returns-clause-base : goal.returns-clause-base
returns-clause-base c = IsBaseEntryAt-spelled

pub returns-clause-ext : goal.returns-clause-ext
returns-clause-ext c = IsExtEntryAt-spelled
