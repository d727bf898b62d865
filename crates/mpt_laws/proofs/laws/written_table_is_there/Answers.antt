use Rattle.std.proofs.Common.{◌++◌, refl}
use Rattle.mpt_spec.specs.Image.{table_bytes}
use Rattle.mpt_spec.proofs.WrittenTableLemmas.{IsConfigurationTable-written}
use Rattle.mpt_laws.proofs.laws.written_table_is_there.Goals as goal

pub returns : goal.returns
returns c = λ t before after at v w here. IsConfigurationTable-written t before after (before ++ (table_bytes t ++ after)) at v w refl here
