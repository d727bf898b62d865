use Rattle.mpt_spec.specs.Search.{HasPointerAt, search_places}
use Rattle.mpt_pointer.proofs.FirstLemmas.{first_of_answer, first_inside}
use Rattle.mpt_pointer.proofs.search.find.Goals as goal

pub returns-clause-only : goal.returns-clause-only
returns-clause-only c = λ at first.
    first_of_answer (HasPointerAt c.args.image.now) (search_places c.args.image.now) c.find_among.result
    (rw (c.as_slice.ensures.value, c.areas_of_image.ensures) at c.find_among.ensures.some)
    (rw (c.as_slice.ensures.value, c.areas_of_image.ensures) at c.find_among.ensures.none) at first

pub returns-clause-inside : goal.returns-clause-inside
returns-clause-inside c = first_inside c.args.image.now _ c.find_among.result c.find_among.ensures.some
