use Rattle.mpb_report_parse.proofs.Unique.{report_is_one}
use Rattle.mpb_report_parse.proofs.laws.report_is_one.Goals as goal

pub returns : goal.returns
returns c = report_is_one
