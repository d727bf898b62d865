use Rattle.mpt_listing.proofs.table_lines.push_header_line.Goals as goal

pub returns : goal.returns
returns c = rw (c.last_name.ensures, c.last_field.ensures) at c.push_line.ensures
