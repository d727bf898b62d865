use Rattle.mpb_laws.proofs.ModelLemmas.{modelled}
use Rattle.mpb_laws.proofs.journals.models_are_flat_or_cluster.Goals as goal

pub returns : goal.returns
returns c = modelled
