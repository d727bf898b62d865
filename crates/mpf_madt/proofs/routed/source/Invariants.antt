use Rattle.std.proofs.Common.{◌≡◌, take}
use Rattle.std.specs.Prelude.{None}
use Rattle.mpf_madt.specs.Lines.{first_some, source_by}
use Rattle.mpf_madt.proofs.routed.source.Given as goal

abbrev pub invariant-loop-answer : goal.invariant-loop-answer
invariant-loop-answer l = first_some (source_by l.p l.irq) (take l.answer-index l.answers) ≡ None
