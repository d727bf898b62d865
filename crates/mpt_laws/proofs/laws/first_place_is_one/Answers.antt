use Rattle.mpt_spec.specs.Search.{search_places, HasPointerAt}
use Rattle.mpt_spec.proofs.SearchLemmas.{IsFirst-unique, IsFirst-some}
use Rattle.mpt_laws.proofs.laws.first_place_is_one.Goals as goal

pub returns-clause-one : goal.returns-clause-one
returns-clause-one c = λ image. IsFirst-unique (HasPointerAt image) (search_places image)

pub returns-clause-not_none : goal.returns-clause-not_none
returns-clause-not_none c = λ image. IsFirst-some (HasPointerAt image) (search_places image)
