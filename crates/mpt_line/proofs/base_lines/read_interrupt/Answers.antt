use Rattle.mpt_line.specs.Forms.{interrupt_in}
use Rattle.mpt_line.proofs.base_lines.read_interrupt.Goals as goal

pub returns : goal.returns
unfolding interrupt_in
returns c = rw (c.in-Some.ensures, c.in-Some-read_u8_field.ensures, c.in-Some-read_u16_field.ensures, c.in-Some-read_u8_field-2.ensures, c.in-Some-read_u8_field-3.ensures, c.in-Some-read_u8_field-4.ensures, c.in-Some-read_u8_field-5.ensures, c.in-Some-read_end.ensures)

pub returns-in_default : goal.returns-in_default
unfolding interrupt_in
returns-in_default c = rw c.in_default.ensures

pub returns-in_default-read_u8_field : goal.returns-in_default-read_u8_field
unfolding interrupt_in
returns-in_default-read_u8_field c = rw (c.in-Some.ensures, c.in_default-read_u8_field.ensures)

pub returns-in_default-read_u16_field : goal.returns-in_default-read_u16_field
unfolding interrupt_in
returns-in_default-read_u16_field c = rw (c.in-Some.ensures, c.in-Some-read_u8_field.ensures, c.in_default-read_u16_field.ensures)

pub returns-in_default-read_u8_field-2 : goal.returns-in_default-read_u8_field-2
unfolding interrupt_in
returns-in_default-read_u8_field-2 c = rw (c.in-Some.ensures, c.in-Some-read_u8_field.ensures, c.in-Some-read_u16_field.ensures, c.in_default-read_u8_field-2.ensures)

pub returns-in_default-read_u8_field-3 : goal.returns-in_default-read_u8_field-3
unfolding interrupt_in
returns-in_default-read_u8_field-3 c = rw (c.in-Some.ensures, c.in-Some-read_u8_field.ensures, c.in-Some-read_u16_field.ensures, c.in-Some-read_u8_field-2.ensures, c.in_default-read_u8_field-3.ensures)

pub returns-in_default-read_u8_field-4 : goal.returns-in_default-read_u8_field-4
unfolding interrupt_in
returns-in_default-read_u8_field-4 c = rw (c.in-Some.ensures, c.in-Some-read_u8_field.ensures, c.in-Some-read_u16_field.ensures, c.in-Some-read_u8_field-2.ensures, c.in-Some-read_u8_field-3.ensures, c.in_default-read_u8_field-4.ensures)

pub returns-in_default-read_u8_field-5 : goal.returns-in_default-read_u8_field-5
unfolding interrupt_in
returns-in_default-read_u8_field-5 c = rw (c.in-Some.ensures, c.in-Some-read_u8_field.ensures, c.in-Some-read_u16_field.ensures, c.in-Some-read_u8_field-2.ensures, c.in-Some-read_u8_field-3.ensures, c.in-Some-read_u8_field-4.ensures, c.in_default-read_u8_field-5.ensures)

pub returns-in_default-read_end : goal.returns-in_default-read_end
unfolding interrupt_in
returns-in_default-read_end c = rw (c.in-Some.ensures, c.in-Some-read_u8_field.ensures, c.in-Some-read_u16_field.ensures, c.in-Some-read_u8_field-2.ensures, c.in-Some-read_u8_field-3.ensures, c.in-Some-read_u8_field-4.ensures, c.in-Some-read_u8_field-5.ensures, c.in_default-read_end.ensures)
