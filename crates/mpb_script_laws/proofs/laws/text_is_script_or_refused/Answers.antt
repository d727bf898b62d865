use Rattle.mpb_script_laws.proofs.Judgment.{judged}
use Rattle.mpb_script_laws.proofs.laws.text_is_script_or_refused.Goals as goal

pub returns : goal.returns
returns c = judged
