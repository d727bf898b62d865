use Rattle.std.proofs.Common.{sym, subst}
use Rattle.mpt_rules.specs.Places.{IsOther}
use Rattle.mpt_rules.specs.Rules.{BreaksExtRule}
use Rattle.mpt_rules.proofs.ext_rules.other_of.Goals as goal

pub returns-in-MeetingRange : goal.returns-in-MeetingRange
returns-in-MeetingRange c = subst (λ r. IsOther (BreaksExtRule c.args.bases.now c.args.entries.now r c.args.entry.now c.args.i) c.meeting_range.result) (sym c.in-MeetingRange.is) c.meeting_range.ensures
