use Rattle.mpt_line.proofs.base_lines.read_cpuid.Goals as goal

pub returns : goal.returns
returns c = rw (c.in-Some.ensures, c.in-Some-read_u32_field.ensures, c.in-Some-read_bytes_field.ensures, c.in-Some-read_end.ensures)

pub returns-in_default : goal.returns-in_default
returns-in_default c = rw c.in_default.ensures

pub returns-in_default-read_u32_field : goal.returns-in_default-read_u32_field
returns-in_default-read_u32_field c = rw (c.in-Some.ensures, c.in_default-read_u32_field.ensures)

pub returns-in_default-read_bytes_field : goal.returns-in_default-read_bytes_field
returns-in_default-read_bytes_field c = rw (c.in-Some.ensures, c.in-Some-read_u32_field.ensures, c.in_default-read_bytes_field.ensures)

pub returns-in_default-read_end : goal.returns-in_default-read_end
returns-in_default-read_end c = rw (c.in-Some.ensures, c.in-Some-read_u32_field.ensures, c.in-Some-read_bytes_field.ensures, c.in_default-read_end.ensures)
