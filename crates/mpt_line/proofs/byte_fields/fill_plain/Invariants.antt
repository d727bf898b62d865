use Rattle.std.proofs.Common.{◌≡◌, ◌-◌, take, length}
use Rattle.mpt_line.specs.Reading.{many_in, quoted_byte_in, with_front}
use Rattle.mpt_line.proofs.byte_fields.fill_plain.Given as goal

abbrev pub invariant-loop-i : goal.invariant-loop-i
invariant-loop-i l = with_front (take l.i l.bytes) (many_in quoted_byte_in (length l.bytes - l.i) l.rest) ≡ many_in quoted_byte_in (length l.fn.bytes) l.line
