use Rattle.mpt_laws.proofs.ExampleLemmas.{Describes-default, Describes-extended, Describes-second_place}
use Rattle.mpt_laws.proofs.examples.other_images_describe_their_tables.Goals as goal

pub returns-clause-default_configuration : goal.returns-clause-default_configuration
returns-clause-default_configuration c = Describes-default

pub returns-clause-opaque_entry : goal.returns-clause-opaque_entry
returns-clause-opaque_entry c = Describes-extended

pub returns-clause-second_place : goal.returns-clause-second_place
returns-clause-second_place c = Describes-second_place
