use Rattle.mpb_report_line.proofs.NumeralLemmas.{count_some_of, count_none_of}
use Rattle.mpb_report_line.proofs.numbers.read_entry_count_line.Goals as goal

pub returns-clause-some : goal.returns-clause-some
returns-clause-some c = count_some_of (λ x. (x.0, x.1.now)) c.args.text.now c.read_entry_count.result c.read_entry_count.ensures

pub returns-clause-none : goal.returns-clause-none
returns-clause-none c = count_none_of (λ x. (x.0, x.1.now)) c.args.text.now c.read_entry_count.result c.read_entry_count.ensures
