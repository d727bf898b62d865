use Rattle.mpb_start_laws.proofs.StartedOnce.{started_once}
use Rattle.mpb_start_laws.proofs.starts.complete_boots_start_each_processor_once.Goals as goal

pub returns : goal.returns
returns c = started_once
