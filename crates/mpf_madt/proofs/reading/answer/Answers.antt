use Rattle.std.proofs.Common.{Err}
use Rattle.mpf_madt.specs.declared.madt.Madt.{Madt}
use Rattle.mpf_madt.proofs.FaultLemmas.{IfMadtFault-first}
use Rattle.mpf_madt.proofs.reading.answer.Goals as goal

pub returns-in-Err-read_entries-clause-fault : goal.returns-in-Err-read_entries-clause-fault
returns-in-Err-read_entries-clause-fault c = IfMadtFault-first {T = Madt} c.args.bytes.now (Err c.in-Err-read_entries.refusal) c.in_default.ensures.sound c.in-Err-read_entries.ensures.fault
