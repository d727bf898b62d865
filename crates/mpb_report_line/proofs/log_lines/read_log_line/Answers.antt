use Rattle.mpt_line.proofs.Exact.{ok_begins, ok_begins_none}
use Rattle.mpb_report_line.proofs.LogForms.{log-exact}
use Rattle.mpb_report_line.proofs.log_lines.read_log_line.Goals as goal

pub returns-clause-some : goal.returns-clause-some
returns-clause-some c = ok_begins (log-exact c.args.number) (λ x. (x.0, x.1.now)) c.args.text.now c.read_log.result c.read_log.ensures

pub returns-clause-none : goal.returns-clause-none
returns-clause-none c = ok_begins_none (log-exact c.args.number) (λ x. (x.0, x.1.now)) c.args.text.now c.read_log.result c.read_log.ensures
