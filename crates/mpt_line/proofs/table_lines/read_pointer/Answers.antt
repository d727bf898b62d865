use Rattle.std.proofs.Common.{sym, ◌∙◌}
use Rattle.mpt_line.specs.Forms.{pointer_in}
use Rattle.mpt_line.proofs.Exact.{passes, fails}
use Rattle.mpt_line.proofs.table_lines.read_pointer.Goals as goal

pub returns-then-is_right : goal.returns-then-is_right
unfolding pointer_in
returns-then-is_right c = rw (c.in-Some.ensures.value, c.in-Some-read_u32_field.ensures, c.in-Some-read_u8_field.ensures, c.in-Some-read_bytes_field.ensures, c.in-Some-read_end.ensures) (passes (sym c.is_right.ensures ∙ c.if-is_right.true))

pub returns-else-is_right : goal.returns-else-is_right
unfolding pointer_in
returns-else-is_right c = rw (c.in-Some.ensures.value, c.in-Some-read_u32_field.ensures, c.in-Some-read_u8_field.ensures, c.in-Some-read_bytes_field.ensures, c.in-Some-read_end.ensures) (fails _ (sym c.is_right.ensures ∙ c.if-is_right.false))

pub returns-in_default : goal.returns-in_default
unfolding pointer_in
returns-in_default c = rw c.in_default.ensures.value

pub returns-in_default-read_u32_field : goal.returns-in_default-read_u32_field
unfolding pointer_in
returns-in_default-read_u32_field c = rw (c.in-Some.ensures.value, c.in_default-read_u32_field.ensures)

pub returns-in_default-read_u8_field : goal.returns-in_default-read_u8_field
unfolding pointer_in
returns-in_default-read_u8_field c = rw (c.in-Some.ensures.value, c.in-Some-read_u32_field.ensures, c.in_default-read_u8_field.ensures)

pub returns-in_default-read_bytes_field : goal.returns-in_default-read_bytes_field
unfolding pointer_in
returns-in_default-read_bytes_field c = rw (c.in-Some.ensures.value, c.in-Some-read_u32_field.ensures, c.in-Some-read_u8_field.ensures, c.in_default-read_bytes_field.ensures)

pub returns-in_default-read_end : goal.returns-in_default-read_end
unfolding pointer_in
returns-in_default-read_end c = rw (c.in-Some.ensures.value, c.in-Some-read_u32_field.ensures, c.in-Some-read_u8_field.ensures, c.in-Some-read_bytes_field.ensures, c.in_default-read_end.ensures)
