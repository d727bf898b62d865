use Rattle.mpt_line.specs.Forms.{modifier_in}
use Rattle.mpt_line.proofs.ext_lines.read_modifier.Goals as goal

pub returns : goal.returns
unfolding modifier_in
returns c = rw (c.in-Some.ensures, c.in-Some-read_u8_field.ensures, c.in-Some-read_u32_field.ensures, c.in-Some-read_end.ensures)

pub returns-in_default : goal.returns-in_default
unfolding modifier_in
returns-in_default c = rw c.in_default.ensures

pub returns-in_default-read_u8_field : goal.returns-in_default-read_u8_field
unfolding modifier_in
returns-in_default-read_u8_field c = rw (c.in-Some.ensures, c.in_default-read_u8_field.ensures)

pub returns-in_default-read_u32_field : goal.returns-in_default-read_u32_field
unfolding modifier_in
returns-in_default-read_u32_field c = rw (c.in-Some.ensures, c.in-Some-read_u8_field.ensures, c.in_default-read_u32_field.ensures)

pub returns-in_default-read_end : goal.returns-in_default-read_end
unfolding modifier_in
returns-in_default-read_end c = rw (c.in-Some.ensures, c.in-Some-read_u8_field.ensures, c.in-Some-read_u32_field.ensures, c.in_default-read_end.ensures)
