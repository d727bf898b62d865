use Rattle.std.proofs.Common.{◌≡◌, ◌-◌, take, length}
use Rattle.mpt_line.specs.Reading.{many_in, hex_in, with_front}
use Rattle.mpt_line.proofs.byte_fields.fill_hex.Given as goal

abbrev pub invariant-loop-i : goal.invariant-loop-i
invariant-loop-i l = with_front (take l.i l.bytes) (many_in (hex_in 2) (length l.bytes - l.i) l.rest) ≡ many_in (hex_in 2) (length l.fn.bytes) l.line
