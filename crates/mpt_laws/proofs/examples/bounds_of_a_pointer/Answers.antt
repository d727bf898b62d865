use Rattle.std.proofs.Common.{inl, inr, refl, arith}
use Rattle.mpt_laws.proofs.ExampleLemmas.{FitsInImage-placed, FitsInImage-default}
use Rattle.mpt_laws.proofs.examples.bounds_of_a_pointer.Goals as goal

pub returns-clause-from_500h : goal.returns-clause-from_500h
returns-clause-from_500h c = FitsInImage-placed 0x500 0x600 refl (omega arith) (omega arith) (record { low = omega arith; high = omega arith; apart = inr (omega arith) })

pub returns-clause-not_below : goal.returns-clause-not_below
returns-clause-not_below c = λ f. absurd (omega (arith, f.low))

pub returns-clause-to_ffff0h : goal.returns-clause-to_ffff0h
returns-clause-to_ffff0h c = FitsInImage-placed 0xFFFF0 0x600 refl (omega arith) (omega arith) (record { low = omega arith; high = omega arith; apart = inl (omega arith) })

pub returns-clause-not_above : goal.returns-clause-not_above
returns-clause-not_above c = λ f. absurd (omega (arith, f.high))

pub returns-clause-not_between : goal.returns-clause-not_between
returns-clause-not_between c = λ f. absurd (omega (arith, f.well_formed.paragraph))

pub returns-clause-default_7 : goal.returns-clause-default_7
returns-clause-default_7 c = FitsInImage-default 7 0 (omega arith) (omega arith)

pub returns-clause-not_default_8 : goal.returns-clause-not_default_8
returns-clause-not_default_8 c = λ f. absurd (omega (arith, f.well_formed.body))

pub returns-clause-any_address : goal.returns-clause-any_address
returns-clause-any_address c = λ address. FitsInImage-default 1 address (omega arith) (omega arith)
