-- Where there is a config, nothing speaks against the board.
use Rattle.std.proofs.Common.{◌≡◌, Option, None, Some, refl, sym, ◌∙◌}
use Rattle.mpb_spec.specs.declared.fault.BoardError.{BoardError}
use Rattle.mpb_spec.specs.Plan.{Plan}
use Rattle.std.proofs.Common.{Result, Ok, Err}
use Rattle.mpb_setup.specs.Answers.{AnswersFault}

pub none_against : (x : Option BoardError) (r : Result Plan BoardError) (c : Plan) → r ≡ Ok c → ((f : BoardError) → x ≡ Some f → AnswersFault r f) → x ≡ None
none_against None r c e h = refl
none_against (Some f) r c e h = absurd (Rattle.std.proofs.Common.subst (λ (q : Result Plan BoardError). AnswersFault q f) e (h f refl))
