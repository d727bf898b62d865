use Rattle.mpt_laws.proofs.Judgment.{image-judged}
use Rattle.mpt_laws.proofs.laws.image_is_described_or_refused.Goals as goal

pub returns : goal.returns
returns c = image-judged
