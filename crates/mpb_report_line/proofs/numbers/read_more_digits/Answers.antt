use Rattle.std.proofs.Common.{◌≡◌, ◌+◌, ◌*◌, min, refl, arith}
use Rattle.mpb_report_line.specs.Reading.{more_digits, held}
use Rattle.mpb_report_line.proofs.NumeralLemmas.{held_more, held_end, digit_shorter}
use Rattle.mpb_report_line.proofs.numbers.read_more_digits.Goals as goal

pub loop-digit-init : goal.loop-digit-init
loop-digit-init c = (refl, omega (arith, c.ranges.value))

pub loop-digit-smaller : goal.loop-digit-smaller
loop-digit-smaller c = digit_shorter c.loop-digit.rest.now c.in-Some.after.now c.in-Some.digit c.in-Some.ensures.value

pub loop-digit-preserved : goal.loop-digit-preserved
loop-digit-preserved c =
    let new : c.saturating_add-value.result ≡ min (min (c.loop-digit.value * 10) 18446744073709551615 + c.in-Some.digit) 18446744073709551615 = cc in
    (held_more c.loop-digit.value c.in-Some.digit c.saturating_add-value.result c.loop-digit.rest.now c.in-Some.after.now (held (more_digits c.args.value c.args.line.now)) new c.in-Some.ensures.value c.loop-digit.invariant.0, omega (arith, new))

pub returns : goal.returns
returns c = held_end c.loop-digit.value c.loop-digit.rest.now (held (more_digits c.args.value c.args.line.now)) c.loop-digit.invariant.1 c.in_default.ensures.value c.loop-digit.invariant.0
