use Rattle.mpf_laws.proofs.PirBytes.{pir_of-bytes}
use Rattle.mpf_laws.proofs.laws.made_pir_has_bytes.Goals as goal

pub returns : goal.returns
returns c = pir_of-bytes
