use Rattle.std.proofs.Common.{arith}
use Rattle.mpb_report_line.proofs.NumeralLemmas.{number_is, gives_along}
use Rattle.mpb_report_line.proofs.numbers.read_number.Goals as goal

pub returns : goal.returns
returns c = gives_along (λ rest. rest.now) c.read_number_found.result (number_is c.args.number c.args.stop.now c.args.line.now (omega (arith, c.ranges.number)) (c.requires.some, c.requires.no_digit)) c.read_number_found.ensures
