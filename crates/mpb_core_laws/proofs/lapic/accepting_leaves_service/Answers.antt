use Rattle.mpb_core_laws.proofs.LocalLemmas.{accepting-isr, accepting-tpr}
use Rattle.mpb_core_laws.proofs.lapic.accepting_leaves_service.Goals as goal

pub returns : goal.returns
returns c = record { isr = accepting-isr; tpr = accepting-tpr }
