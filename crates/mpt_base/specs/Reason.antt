-- The reasons for which tables are refused, and their numbers.
use Rattle.std.specs.Prelude.{ℕ}
use Rattle.mpt_base.specs.declared.fault.Reason.{Reason}
use Rattle.mpt_base.specs.declared.fault.Reason.TheVariants.{BadRevision, BadDefault, NoTable, TableOutside, BadSignature, ShortLength, LengthOutside, BadSum, BadCount, UnknownEntry, CutEntry, ExtOutside, BadExtSum, BadExtType, BadExtLength, CutExtEntry}

-- the number of a reason, as it is printed
abbrev pub reason_number : Reason → ℕ
reason_number BadRevision = 1
reason_number BadDefault = 2
reason_number NoTable = 3
reason_number TableOutside = 4
reason_number BadSignature = 5
reason_number ShortLength = 6
reason_number LengthOutside = 7
reason_number BadSum = 8
reason_number BadCount = 9
reason_number UnknownEntry = 10
reason_number CutEntry = 11
reason_number ExtOutside = 12
reason_number BadExtSum = 13
reason_number BadExtType = 14
reason_number BadExtLength = 15
reason_number CutExtEntry = 16
