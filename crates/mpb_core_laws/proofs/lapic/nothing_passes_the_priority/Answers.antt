use Rattle.mpb_core_laws.proofs.LocalLemmas.{next-greatest, next-class, next-none}
use Rattle.mpb_core_laws.proofs.lapic.nothing_passes_the_priority.Goals as goal

pub returns : goal.returns
returns c = record { some = next-greatest; class = next-class; none = next-none }
