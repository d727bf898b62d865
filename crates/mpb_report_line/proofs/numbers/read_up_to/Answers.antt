use Rattle.std.proofs.Common.{arith}
use Rattle.mpb_report_line.proofs.NumeralLemmas.{up_to_none, up_to_cut, up_to_some, up_to_more}
use Rattle.mpb_report_line.proofs.numbers.read_up_to.Goals as goal

pub returns-in_default-clause-value : goal.returns-in_default-clause-value
returns-in_default-clause-value c = up_to_none c.args.most c.args.stop.now c.args.line.now c.in_default.ensures

pub returns-in_default-read_part-clause-value : goal.returns-in_default-read_part-clause-value
returns-in_default-read_part-clause-value c = up_to_cut c.args.most c.args.stop.now c.args.line.now c.in-Some.number c.in-Some.rest.now c.in-Some.ensures c.in_default-read_part.ensures

pub returns-then-number-from-clause-value : goal.returns-then-number-from-clause-value
returns-then-number-from-clause-value c =
    up_to_some c.args.most c.args.stop.now c.args.line.now c.in-Some.number c.in-Some.rest.now c.in-Some-read_part.rest.now c.in-Some.ensures c.in-Some-read_part.ensures
    (omega (arith, c.ranges.most)) (omega (arith, c.if-number-from.true, c.from.ensures))

pub returns-else-number-from-clause-value : goal.returns-else-number-from-clause-value
returns-else-number-from-clause-value c =
    up_to_more c.args.most c.args.stop.now c.args.line.now c.in-Some.number c.in-Some.rest.now c.in-Some-read_part.rest.now c.in-Some.ensures c.in-Some-read_part.ensures
    (omega (arith, c.ranges.most)) (omega (arith, c.if-number-from.false, c.from.ensures))
