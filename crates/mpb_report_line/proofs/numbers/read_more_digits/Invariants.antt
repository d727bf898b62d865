use Rattle.std.proofs.Common.{◌≡◌, ◌≤◌, length}
use Rattle.mpb_report_line.specs.Reading.{more_digits, held}
use Rattle.mpb_report_line.proofs.numbers.read_more_digits.Given as goal

abbrev pub invariant-loop-digit : goal.invariant-loop-digit
invariant-loop-digit l = (held (more_digits l.value l.rest) ≡ held (more_digits l.fn.value l.line)) × (l.value ≤ 18446744073709551615)

abbrev pub decreases-loop-digit : goal.decreases-loop-digit
decreases-loop-digit l = length l.rest
