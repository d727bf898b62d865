use Rattle.mpb_core_laws.proofs.LocalLemmas.{ended-taken, service-taken}
use Rattle.mpb_core_laws.proofs.lapic.take_then_end_gives_the_vector_back.Goals as goal

pub returns : goal.returns
returns c = record { vector = ended-taken; service = service-taken }
