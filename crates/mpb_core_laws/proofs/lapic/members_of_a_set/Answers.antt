use Rattle.mpb_spec.proofs.NumberLemmas.{has-with_itself, has-with_other, has-without_itself, has-without_other}
use Rattle.mpb_core_laws.proofs.lapic.members_of_a_set.Goals as goal

pub returns : goal.returns
returns c = record { with_itself = has-with_itself; with_other = has-with_other; without_itself = has-without_itself; without_other = has-without_other }
