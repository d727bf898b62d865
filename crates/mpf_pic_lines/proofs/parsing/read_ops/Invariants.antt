use Rattle.std.proofs.Common.{◌≡◌, ◌+◌, ◌≤◌, ◌++◌, length}
use Rattle.std.specs.List.{flat_map, AllByRecursion}
use Rattle.mpf_pic_lines.specs.Lines.{op_line, IsRightOp}
use Rattle.mpf_pic_lines.proofs.parsing.read_ops.Given as goal

-- the calls so far and the rest are the text, and each call has a byte
abbrev pub invariant-loop-rest : goal.invariant-loop-rest
invariant-loop-rest l = (l.text ≡ flat_map op_line l.ops.items ++ l.rest) × AllByRecursion IsRightOp l.ops.items × (length l.ops.items + length l.rest ≤ length l.text)

abbrev pub decreases-loop-rest : goal.decreases-loop-rest
decreases-loop-rest l = length l.rest
