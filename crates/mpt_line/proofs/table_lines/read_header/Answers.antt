use Rattle.std.proofs.Common.{sym, ◌∙◌}
use Rattle.mpt_line.specs.Forms.{header_in}
use Rattle.mpt_line.proofs.Exact.{passes, fails}
use Rattle.mpt_line.proofs.table_lines.read_header.Goals as goal

pub returns-then-has_end_of_revision : goal.returns-then-has_end_of_revision
unfolding header_in
returns-then-has_end_of_revision c = rw (c.in-Some.ensures, c.in-Some-read_quoted_field.ensures, c.in-Some-read_quoted_field-2.ensures, c.in-Some-read_numbers.ensures) (passes (sym c.has_end_of_revision.ensures ∙ c.if-has_end_of_revision.true))

pub returns-else-has_end_of_revision : goal.returns-else-has_end_of_revision
unfolding header_in
returns-else-has_end_of_revision c = rw (c.in-Some.ensures, c.in-Some-read_quoted_field.ensures, c.in-Some-read_quoted_field-2.ensures, c.in-Some-read_numbers.ensures) (fails _ (sym c.has_end_of_revision.ensures ∙ c.if-has_end_of_revision.false))

pub returns-in_default : goal.returns-in_default
unfolding header_in
returns-in_default c = rw c.in_default.ensures

pub returns-in_default-read_quoted_field : goal.returns-in_default-read_quoted_field
unfolding header_in
returns-in_default-read_quoted_field c = rw (c.in-Some.ensures, c.in_default-read_quoted_field.ensures)

pub returns-in_default-read_quoted_field-2 : goal.returns-in_default-read_quoted_field-2
unfolding header_in
returns-in_default-read_quoted_field-2 c = rw (c.in-Some.ensures, c.in-Some-read_quoted_field.ensures, c.in_default-read_quoted_field-2.ensures)

pub returns-in_default-read_numbers : goal.returns-in_default-read_numbers
unfolding header_in
returns-in_default-read_numbers c = rw (c.in-Some.ensures, c.in-Some-read_quoted_field.ensures, c.in-Some-read_quoted_field-2.ensures, c.in_default-read_numbers.ensures)
