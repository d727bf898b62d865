use Rattle.std.proofs.Common.{◌≡◌, ◌+◌, ◌*◌, ◌<◌, min, get_or, sym, ◌∙◌, arith}
use Rattle.std.specs.Char.{digit_value}
use Rattle.mpb_words.proofs.NumberLemmas.{digits_after-digit, digits_after-end}
use Rattle.mpb_words.proofs.numbers.digits.Goals as goal

pub loop-byte-preserved : goal.loop-byte-preserved
loop-byte-preserved c =
    let r = c.args.radix in
    let n = c.loop-byte.value in
    let code : c.from.result ≡ get_or c.args.bytes.now c.loop-byte.byte-index 0 = cc in
    let good : digit_value c.from.result < r = c.in-Some.ensures.value.0 in
    let digit : c.in-Some.digit ≡ digit_value c.from.result = c.in-Some.ensures.value.1 in
    let new : c.saturating_add-value.result ≡ min (min (n * r) 18446744073709551615 + c.in-Some.digit) 18446744073709551615 = cc in (
      sym (digits_after-digit r n c.args.bytes.now c.loop-byte.byte-index c.from.result c.in-Some.digit c.saturating_add-value.result (omega arith) c.loop-byte-test.true code good digit new)
          ∙ c.loop-byte.invariant.0,
      omega arith,
    )

pub returns : goal.returns
returns c = sym (digits_after-end c.args.radix c.loop-byte.value c.args.bytes.now c.loop-byte.byte-index c.loop-byte-test.false c.loop-byte.invariant.1) ∙ c.loop-byte.invariant.0
