use Rattle.std.proofs.Common.{take}
use Rattle.mpt_route.specs.Index.{IsTableOf}
use Rattle.mpf_pir.specs.Progress.{slot_number}
use Rattle.mpf_pir.proofs.TableLemmas.{found_at}
use Rattle.mpf_pir.proofs.comparing.first_slots.Given as goal

abbrev pub invariant-loop-slot : goal.invariant-loop-slot
invariant-loop-slot l = IsTableOf 8192 l.table.items (found_at slot_number (λ s. s.links) (take l.slot-index l.slots))
