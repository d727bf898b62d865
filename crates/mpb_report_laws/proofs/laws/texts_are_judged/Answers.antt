use Rattle.mpb_report_laws.proofs.Complete.{every_text}
use Rattle.mpb_report_laws.proofs.laws.texts_are_judged.Goals as goal

pub returns : goal.returns
returns c = every_text
