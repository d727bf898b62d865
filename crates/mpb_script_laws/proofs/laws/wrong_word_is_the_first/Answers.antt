use Rattle.mpb_script_laws.proofs.FirstWord.{first_wrong_word}
use Rattle.mpb_script_laws.proofs.laws.wrong_word_is_the_first.Goals as goal

pub returns : goal.returns
returns c = first_wrong_word
