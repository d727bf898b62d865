use Rattle.mpt_listing_laws.proofs.Complete.{every_text}
use Rattle.mpt_listing_laws.proofs.laws.every_text_is_judged.Goals as goal

pub returns : goal.returns
returns c = every_text
