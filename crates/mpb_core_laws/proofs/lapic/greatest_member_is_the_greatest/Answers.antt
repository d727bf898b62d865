use Rattle.mpb_core_laws.proofs.LocalLemmas.{greatest-some, greatest-none}
use Rattle.mpb_core_laws.proofs.lapic.greatest_member_is_the_greatest.Goals as goal

pub returns : goal.returns
returns c = record { some = greatest-some; none = greatest-none }
