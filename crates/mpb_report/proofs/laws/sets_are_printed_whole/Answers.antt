use Rattle.mpb_report.proofs.MemberLemmas.{members_of_set}
use Rattle.mpb_report.proofs.laws.sets_are_printed_whole.Goals as goal

pub returns : goal.returns
returns c = members_of_set
