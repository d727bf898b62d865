use Rattle.mpb_report_laws.proofs.Reported.{one_run}
use Rattle.mpb_report_laws.proofs.laws.report_has_one_run.Goals as goal

pub returns : goal.returns
returns c = one_run
