use Rattle.mpb_core_laws.proofs.LocalLemmas.{accepted-irr, accepted-tmr, accepted-others, accepted-triggers, accepted-illegal}
use Rattle.mpb_core_laws.proofs.lapic.accepting_requests_the_vector.Goals as goal

pub returns : goal.returns
returns c = record { irr = accepted-irr; tmr = accepted-tmr; others = accepted-others; other_triggers = accepted-triggers; illegal = accepted-illegal }
