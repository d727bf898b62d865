use Rattle.mpt_spec.proofs.WrittenImageLemmas.{part-overlay_before, part-overlay_after}
use Rattle.mpt_laws.proofs.PutLemmas.{number_at-put_2, number_at-put_4, number_at-put_8}
use Rattle.mpt_laws.proofs.laws.put_number_is_there.Goals as goal

pub returns-clause-two : goal.returns-clause-two
returns-clause-two c = number_at-put_2

pub returns-clause-four : goal.returns-clause-four
returns-clause-four c = number_at-put_4

pub returns-clause-eight : goal.returns-clause-eight
returns-clause-eight c = number_at-put_8

pub returns-clause-before : goal.returns-clause-before
returns-clause-before c = λ piece bytes at i n fits h. part-overlay_before bytes piece at fits i n h

pub returns-clause-behind : goal.returns-clause-behind
returns-clause-behind c = λ piece bytes at i n fits h. part-overlay_after bytes piece at fits i n h
