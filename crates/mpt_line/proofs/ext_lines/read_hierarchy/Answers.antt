use Rattle.mpt_line.specs.Forms.{hierarchy_in}
use Rattle.mpt_line.proofs.ext_lines.read_hierarchy.Goals as goal

pub returns : goal.returns
unfolding hierarchy_in
returns c = rw (c.in-Some.ensures, c.in-Some-read_u8_field.ensures, c.in-Some-read_u8_field-2.ensures, c.in-Some-read_bytes_field.ensures, c.in-Some-read_end.ensures)

pub returns-in_default : goal.returns-in_default
unfolding hierarchy_in
returns-in_default c = rw c.in_default.ensures

pub returns-in_default-read_u8_field : goal.returns-in_default-read_u8_field
unfolding hierarchy_in
returns-in_default-read_u8_field c = rw (c.in-Some.ensures, c.in_default-read_u8_field.ensures)

pub returns-in_default-read_u8_field-2 : goal.returns-in_default-read_u8_field-2
unfolding hierarchy_in
returns-in_default-read_u8_field-2 c = rw (c.in-Some.ensures, c.in-Some-read_u8_field.ensures, c.in_default-read_u8_field-2.ensures)

pub returns-in_default-read_bytes_field : goal.returns-in_default-read_bytes_field
unfolding hierarchy_in
returns-in_default-read_bytes_field c = rw (c.in-Some.ensures, c.in-Some-read_u8_field.ensures, c.in-Some-read_u8_field-2.ensures, c.in_default-read_bytes_field.ensures)

pub returns-in_default-read_end : goal.returns-in_default-read_end
unfolding hierarchy_in
returns-in_default-read_end c = rw (c.in-Some.ensures, c.in-Some-read_u8_field.ensures, c.in-Some-read_u8_field-2.ensures, c.in-Some-read_bytes_field.ensures, c.in_default-read_end.ensures)
