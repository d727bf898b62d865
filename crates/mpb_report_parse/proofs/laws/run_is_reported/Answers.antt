use Rattle.mpb_report_parse.proofs.ShownLemmas.{report_shown}
use Rattle.mpb_report_parse.proofs.laws.run_is_reported.Goals as goal

pub returns : goal.returns
returns c = report_shown
