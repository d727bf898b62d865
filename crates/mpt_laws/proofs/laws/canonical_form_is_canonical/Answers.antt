use Rattle.mpt_spec.proofs.CanonicalLemmas.{IsCanonical-canonical_of, canonical_of-twice, canonical_of-canonical, IsTablesValue-canonical_of, FitsInImage-canonical_of}
use Rattle.mpt_laws.proofs.laws.canonical_form_is_canonical.Goals as goal

pub returns-clause-canonical : goal.returns-clause-canonical
returns-clause-canonical c = IsCanonical-canonical_of

pub returns-clause-twice : goal.returns-clause-twice
returns-clause-twice c = canonical_of-twice

pub returns-clause-unchanged : goal.returns-clause-unchanged
returns-clause-unchanged c = canonical_of-canonical

pub returns-clause-fits : goal.returns-clause-fits
returns-clause-fits c = FitsInImage-canonical_of

pub returns-clause-values : goal.returns-clause-values
returns-clause-values c = IsTablesValue-canonical_of
