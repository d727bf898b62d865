use Rattle.mpf_madt.proofs.SpelledLemmas.{IsMadt-spelled}
use Rattle.mpf_madt.proofs.WrittenLemmas.{IsMadt-written}
use Rattle.mpf_madt.proofs.laws.madt_bytes_are_the_madt.Goals as goal

pub returns-clause-read : goal.returns-clause-read
returns-clause-read c = IsMadt-written

pub returns-clause-written : goal.returns-clause-written
returns-clause-written c = IsMadt-spelled
