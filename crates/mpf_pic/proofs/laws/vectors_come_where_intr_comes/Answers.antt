use Rattle.mpf_pic.proofs.Acknowledged.{acknowledges}
use Rattle.mpf_pic.proofs.laws.vectors_come_where_intr_comes.Goals as goal

pub returns : goal.returns
returns c = acknowledges
