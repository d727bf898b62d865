use Rattle.std.proofs.Common.{◌≡◌, ◌≤◌, drop, option_map}
use Rattle.mpb_words.specs.Numbers.{digits_number}
use Rattle.mpb_words.specs.Steps.{held}
use Rattle.mpb_words.proofs.NumberLemmas.{digits_after}
use Rattle.mpb_words.proofs.numbers.digits.Given as goal

abbrev pub invariant-loop-byte : goal.invariant-loop-byte
invariant-loop-byte l =
    (option_map held (digits_after l.radix l.value (drop l.byte-index l.bytes)) ≡ option_map held (digits_number l.radix l.bytes))
    × (l.value ≤ 18446744073709551615)
