use Rattle.mptab_walk.proofs.ending.refuse.Goals as goal

pub returns-in-Absent : goal.returns-in-Absent
returns-in-Absent g c = rw c.in-Absent.is (rw c.as_bytes.ensures.value at c.deliver_line.ensures)

pub returns-in-Unread : goal.returns-in-Unread
returns-in-Unread g c = rw c.in-Unread.is (rw c.as_bytes-in-Unread.ensures.value at c.deliver_line-in-Unread.ensures)

pub returns-in-Refused : goal.returns-in-Refused
returns-in-Refused g c = rw c.in-Refused.is (rw c.as_slice.ensures.value at c.deliver_text.ensures)

pub returns-in-NoMemory : goal.returns-in-NoMemory
returns-in-NoMemory g c = rw c.in-NoMemory.is c.deliver_line-in-NoMemory.ensures

pub returns-in-TooLarge : goal.returns-in-TooLarge
returns-in-TooLarge g c = rw c.in-TooLarge.is c.refuse_size.ensures
