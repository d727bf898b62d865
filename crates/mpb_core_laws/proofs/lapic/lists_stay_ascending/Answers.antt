use Rattle.mpb_core_laws.proofs.LocalLemmas.{ordered-reset, ordered-accepted, ordered-taken, ordered-after_end}
use Rattle.mpb_core_laws.proofs.lapic.lists_stay_ascending.Goals as goal

pub returns : goal.returns
returns c = record { reset = ordered-reset; accepted = ordered-accepted; taken = ordered-taken; after_end = ordered-after_end }
