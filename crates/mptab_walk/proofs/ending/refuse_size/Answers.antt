use Rattle.mptab_walk.proofs.ending.refuse_size.Goals as goal

pub returns : goal.returns
returns g c = rw (c.as_bytes.ensures.value, c.as_bytes-2.ensures.value, c.format-digits.ensures.text) at c.deliver_line.ensures
