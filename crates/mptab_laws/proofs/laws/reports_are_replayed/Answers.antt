use Rattle.mptab_walk.specs.Forms.{IsAny, IsStill}
use Rattle.mptab_laws.proofs.ReplayLaws.{report_read, replayed, replay_status}
use Rattle.mptab_laws.proofs.laws.reports_are_replayed.Goals as goal

pub returns-clause-read : goal.returns-clause-read
returns-clause-read c = λ files image script text bytes is. report_read IsAny files image script text bytes is

pub returns-clause-any : goal.returns-clause-any
returns-clause-any c = λ files after image script report text t s bytes is kept answer. replayed files after image script report text bytes is kept IsAny s t tt answer

pub returns-clause-still : goal.returns-clause-still
returns-clause-still c = λ files after image script report text t s bytes is kept answer. replayed files after image script report text bytes is kept IsStill s t tt answer

pub returns-clause-any_status : goal.returns-clause-any_status
returns-clause-any_status c = λ files told image script report text before after result bytes is kept given. replay_status files told image script report text bytes is kept IsAny before after result tt given

pub returns-clause-still_status : goal.returns-clause-still_status
returns-clause-still_status c = λ files told image script report text before after result bytes is kept given. replay_status files told image script report text bytes is kept IsStill before after result tt given
