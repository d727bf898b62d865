use Rattle.mpt_line.specs.Forms.{processor_in}
use Rattle.mpt_line.proofs.base_lines.read_processor.Goals as goal

pub returns : goal.returns
unfolding processor_in
returns c = rw (c.in-Some.ensures, c.in-Some-read_u8_field.ensures, c.in-Some-read_u8_field-2.ensures, c.in-Some-read_cpuid.ensures)

pub returns-in_default : goal.returns-in_default
unfolding processor_in
returns-in_default c = rw c.in_default.ensures

pub returns-in_default-read_u8_field : goal.returns-in_default-read_u8_field
unfolding processor_in
returns-in_default-read_u8_field c = rw (c.in-Some.ensures, c.in_default-read_u8_field.ensures)

pub returns-in_default-read_u8_field-2 : goal.returns-in_default-read_u8_field-2
unfolding processor_in
returns-in_default-read_u8_field-2 c = rw (c.in-Some.ensures, c.in-Some-read_u8_field.ensures, c.in_default-read_u8_field-2.ensures)

pub returns-in_default-read_cpuid : goal.returns-in_default-read_cpuid
unfolding processor_in
returns-in_default-read_cpuid c = rw (c.in-Some.ensures, c.in-Some-read_u8_field.ensures, c.in-Some-read_u8_field-2.ensures, c.in_default-read_cpuid.ensures)
