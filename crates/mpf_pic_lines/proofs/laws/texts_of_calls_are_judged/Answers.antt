use Rattle.mpf_pic_lines.proofs.TextLemmas.{every_text}
use Rattle.mpf_pic_lines.proofs.laws.texts_of_calls_are_judged.Goals as goal

pub returns : goal.returns
returns c = every_text
