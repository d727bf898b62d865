use Rattle.mpf_pir.proofs.LayoutLemmas.{IsPir-one}
use Rattle.mpf_pir.proofs.laws.table_is_one.Goals as goal

pub returns : goal.returns
returns c = IsPir-one
