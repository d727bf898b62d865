use Rattle.std.proofs.Common.{refl, ap, inl, inr}
use Rattle.mptab_walk.specs.Commands.{bad_line_line, unfit_line}
use Rattle.mptab_walk.specs.Limited.{RefusesListing}
use Rattle.mptab_walk.proofs.LimitedLemmas.{refused_by}
use Rattle.mptab_walk.proofs.listing.tables_in.Goals as goal

pub returns-in-Err-Line-clause-refused : goal.returns-in-Err-Line-clause-refused
returns-in-Err-Line-clause-refused c =
    let arm = c.in-Err-Line in
    let facts = rw arm.field-0-is at arm.ensures in
    refused_by c.bad_line.result c.refused.result (RefusesListing c.args.text.now) 8 (bad_line_line arm.line arm.why) (inl (refl, arm.line, arm.why, facts.refused, refl)) c.bad_line.ensures c.refused.ensures.refused c.refused.ensures.no_memory

pub returns-in-Err-DoesNotFit-clause-refused : goal.returns-in-Err-DoesNotFit-clause-refused
returns-in-Err-DoesNotFit-clause-refused c =
    let arm = c.in-Err-DoesNotFit in
    let facts = rw arm.field-0-is at arm.ensures in
    let cause = facts.refused in
    let again = c.refused-in-Err-DoesNotFit in
    refused_by c.unfit.result again.result (RefusesListing c.args.text.now) 8 (unfit_line arm.bytes) (inr (refl, cause.0, cause.1, cause.2, ap unfit_line cause.3)) c.unfit.ensures again.ensures.refused again.ensures.no_memory
