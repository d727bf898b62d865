use Rattle.mpb_replay_laws.proofs.Settling.{legal_is, is_legal}
use Rattle.mpb_replay_laws.proofs.laws.legal_reports_are_complete.Goals as goal

pub returns : goal.returns
returns c = λ plan r is. (legal_is plan r is, is_legal plan r)
