use Rattle.std.proofs.Common.{refl}
use Rattle.mptab_walk.specs.Commands.{bad_calls_line}
use Rattle.mptab_walk.specs.Limited.{RefusesCalls}
use Rattle.mptab_walk.proofs.LimitedLemmas.{refused_by}
use Rattle.mptab_walk.proofs.calls_text.calls_in.Goals as goal

pub returns-in-Err-Line-clause-refused : goal.returns-in-Err-Line-clause-refused
returns-in-Err-Line-clause-refused c =
    let facts = rw c.in-Err-Line.field-0-is at c.in-Err-Line.ensures in
    refused_by c.bad_calls.result c.refused.result (RefusesCalls c.args.text.now) 14 (bad_calls_line c.in-Err-Line.line) (refl, c.in-Err-Line.line, facts.fault, refl) c.bad_calls.ensures c.refused.ensures.refused c.refused.ensures.no_memory
