use Rattle.mpb_start_laws.proofs.Told.{told}
use Rattle.mpb_start_laws.proofs.starts.journals_tell_each_start_once.Goals as goal

pub returns : goal.returns
returns c = told
