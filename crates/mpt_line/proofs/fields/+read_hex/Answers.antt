use Rattle.std.proofs.Common.{◌+◌, ◌*◌, ◌^◌, ◌<◌, arith}
use Rattle.mpt_line.proofs.HexLemmas.{digit_more, below_top}
use Rattle.mpt_line.proofs.fields.+read_hex.Goals as goal

pub overflow_mul-result : goal.overflow_mul-result
overflow_mul-result t c =
    let more : 16 * c.in-Some.high + 0 < 16 ^ c.args.digits = digit_more c.args.digits c.in-Some.high 0 (omega arith) c.in-Some.ensures.bound (omega arith) in
    let low : 16 * c.in-Some.high + 0 < 2 ^ 64 = below_top c.args.digits (16 * c.in-Some.high + 0) (omega arith) more in
    omega arith

pub overflow_add-result : goal.overflow_add-result
overflow_add-result t c =
    let low : c.from.result < 16 = omega (arith, c.from.ensures, c.in-Some-read_digit.ensures.bound) in
    let more : 16 * c.in-Some.high + c.from.result < 16 ^ c.args.digits = digit_more c.args.digits c.in-Some.high c.from.result (omega arith) c.in-Some.ensures.bound low in
    let top : 16 * c.in-Some.high + c.from.result < 2 ^ 64 = below_top c.args.digits (16 * c.in-Some.high + c.from.result) (omega arith) more in
    omega arith

pub returns-clause-bound : goal.returns-clause-bound
returns-clause-bound t c =
    let low : c.from.result < 16 = omega (arith, c.from.ensures, c.in-Some-read_digit.ensures.bound) in
    digit_more c.args.digits c.in-Some.high c.from.result (omega arith) c.in-Some.ensures.bound low
