use Rattle.mpb_report_parse.proofs.Unique.{only_report, only_line, caused}
use Rattle.mpb_report_parse.proofs.parsing.parse_report.Goals as goal

pub returns-clause-refused : goal.returns-clause-refused
returns-clause-refused c = caused c.args.text.now c.read_report.result c.read_report.ensures.fault

pub returns-clause-only_report : goal.returns-clause-only_report
returns-clause-only_report c = only_report c.args.text.now c.read_report.result c.read_report.ensures.report (caused c.args.text.now c.read_report.result c.read_report.ensures.fault)

pub returns-clause-only_line : goal.returns-clause-only_line
returns-clause-only_line c = only_line c.args.text.now c.read_report.result c.read_report.ensures.report (caused c.args.text.now c.read_report.result c.read_report.ensures.fault)
