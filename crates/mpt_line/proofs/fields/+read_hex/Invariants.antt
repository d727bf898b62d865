use Rattle.mpt_line.proofs.fields.+read_hex.Given as goal

abbrev pub decreases-read_hex : goal.decreases-read_hex
decreases-read_hex l = l.digits
