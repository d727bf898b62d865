use Rattle.std.proofs.Common.{refl}
use Rattle.mptab_walk.specs.Commands.{bad_report_line}
use Rattle.mptab_walk.specs.Limited.{RefusesReport}
use Rattle.mptab_walk.proofs.LimitedLemmas.{refused_by}
use Rattle.mptab_walk.proofs.report.report_in.Goals as goal

pub returns-in-Err-Line-clause-refused : goal.returns-in-Err-Line-clause-refused
returns-in-Err-Line-clause-refused c =
    let arm = c.in-Err-Line in
    let facts = rw arm.field-0-is at arm.ensures in
    refused_by c.bad_report.result c.refused.result (RefusesReport c.args.text.now) 8 (bad_report_line arm.line arm.why) (refl, arm.line, arm.why, facts.refused, refl) c.bad_report.ensures c.refused.ensures.refused c.refused.ensures.no_memory
