use Rattle.mpb_report_laws.proofs.Reported.{complete_is_legal}
use Rattle.mpb_report_laws.proofs.laws.complete_runs_are_legal.Goals as goal

pub returns : goal.returns
returns c = complete_is_legal
