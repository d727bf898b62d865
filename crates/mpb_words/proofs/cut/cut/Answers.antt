use Rattle.mpb_words.proofs.PartLemmas.{cut_at, cut_nowhere}
use Rattle.mpb_words.proofs.cut.cut.Goals as goal

pub returns-in-Some : goal.returns-in-Some
returns-in-Some c = cut_at c.args.text.now c.in-Some.part c.in-Some.rest c.in-Some.ensures.cases

pub returns-in-None : goal.returns-in-None
returns-in-None c = cut_nowhere c.args.text.now c.in-None.ensures.cases
