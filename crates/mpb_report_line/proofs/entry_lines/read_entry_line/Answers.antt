use Rattle.mpt_line.proofs.Exact.{begins, begins_none}
use Rattle.mpb_report_line.proofs.EntryForms.{entry-exact}
use Rattle.mpb_report_line.proofs.entry_lines.read_entry_line.Goals as goal

pub returns-clause-some : goal.returns-clause-some
returns-clause-some c = begins (entry-exact c.args.number) (λ x. (x.0, x.1.now)) c.args.text.now c.read_entry.result c.read_entry.ensures

pub returns-clause-none : goal.returns-clause-none
returns-clause-none c = begins_none (entry-exact c.args.number) (λ x. (x.0, x.1.now)) c.args.text.now c.read_entry.result c.read_entry.ensures
