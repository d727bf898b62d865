use Rattle.mpb_report_laws.proofs.Lengths.{report_short}
use Rattle.mpb_report_laws.proofs.laws.runs_are_short.Goals as goal

pub returns : goal.returns
returns c = report_short
