use Rattle.mpf_pic_lines.proofs.TextLemmas.{every_reading}
use Rattle.mpf_pic_lines.proofs.laws.texts_of_calls_have_one_reading.Goals as goal

pub returns : goal.returns
returns c = every_reading
