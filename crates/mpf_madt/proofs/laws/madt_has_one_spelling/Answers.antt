use Rattle.mpf_madt.proofs.SpelledLemmas.{IsMadt-one_spelling}
use Rattle.mpf_madt.proofs.laws.madt_has_one_spelling.Goals as goal

pub returns : goal.returns
returns c = IsMadt-one_spelling
