use Rattle.std.proofs.Common.{inl, inr, refl, arith}
use Rattle.mpt_laws.proofs.ExampleLemmas.{FitsInImage-placed}
use Rattle.mpt_laws.proofs.examples.bounds_of_a_block.Goals as goal

pub returns-clause-from_500h : goal.returns-clause-from_500h
returns-clause-from_500h c = FitsInImage-placed 0x600 0x500 refl (omega arith) (omega arith) (record { low = omega arith; high = omega arith; apart = inl (omega arith) })

pub returns-clause-not_below : goal.returns-clause-not_below
returns-clause-not_below c = λ f. absurd (omega (arith, f.block.low))

pub returns-clause-to_1_mib : goal.returns-clause-to_1_mib
returns-clause-to_1_mib c = FitsInImage-placed 0x500 0xFFFC0 refl (omega arith) (omega arith) (record { low = omega arith; high = omega arith; apart = inr (omega arith) })

pub returns-clause-not_above : goal.returns-clause-not_above
returns-clause-not_above c = λ f. absurd (omega (arith, f.block.high))

pub returns-clause-before_the_pointer : goal.returns-clause-before_the_pointer
returns-clause-before_the_pointer c = FitsInImage-placed 0x600 0x5C0 refl (omega arith) (omega arith) (record { low = omega arith; high = omega arith; apart = inl (omega arith) })

pub returns-clause-not_on_its_first_byte : goal.returns-clause-not_on_its_first_byte
returns-clause-not_on_its_first_byte c = λ f. elim f.block.apart [ inl low ↦ absurd (omega (arith, low)) | inr high ↦ absurd (omega (arith, high)) ]

pub returns-clause-behind_the_pointer : goal.returns-clause-behind_the_pointer
returns-clause-behind_the_pointer c = FitsInImage-placed 0x600 0x610 refl (omega arith) (omega arith) (record { low = omega arith; high = omega arith; apart = inr (omega arith) })

pub returns-clause-not_on_its_last_byte : goal.returns-clause-not_on_its_last_byte
returns-clause-not_on_its_last_byte c = λ f. elim f.block.apart [ inl low ↦ absurd (omega (arith, low)) | inr high ↦ absurd (omega (arith, high)) ]
