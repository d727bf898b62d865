use Rattle.mpb_report_laws.proofs.Reported.{read_back}
use Rattle.mpb_report_laws.proofs.laws.runs_are_read_back.Goals as goal

pub returns : goal.returns
returns c = read_back
