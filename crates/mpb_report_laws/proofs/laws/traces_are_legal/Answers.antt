use Rattle.mpb_report_laws.proofs.Reported.{trace_read_back, trace_is_legal}
use Rattle.mpb_report_laws.proofs.laws.traces_are_legal.Goals as goal

pub returns-clause-read : goal.returns-clause-read
returns-clause-read c = trace_read_back

pub returns-clause-legal : goal.returns-clause-legal
returns-clause-legal c = trace_is_legal
