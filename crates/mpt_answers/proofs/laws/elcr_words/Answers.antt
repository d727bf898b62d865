use Rattle.mpt_answers.proofs.ElcrLemmas.{elcr_is_word}
use Rattle.mpt_answers.proofs.laws.elcr_words.Goals as goal

pub returns : goal.returns
returns c = elcr_is_word
