use Rattle.mpf_laws.proofs.MadtBytes.{madt_of-bytes}
use Rattle.mpf_laws.proofs.laws.translated_madt_has_bytes.Goals as goal

pub returns : goal.returns
returns c = madt_of-bytes
