use Rattle.mpt_spec.proofs.WrittenLemmas.{IsFloatingPointer-written}
use Rattle.mpt_laws.proofs.laws.written_pointer_is_there.Goals as goal

pub returns : goal.returns
returns c = IsFloatingPointer-written
