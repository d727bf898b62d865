use Rattle.mpb_core_laws.proofs.LogicalLemmas.{match-everyone, match-flat, match-cluster}
use Rattle.mpb_core_laws.proofs.lapic.logical_destinations_are_by_bits.Goals as goal

pub returns : goal.returns
returns c = record { everyone = match-everyone; flat = match-flat; cluster = match-cluster }
