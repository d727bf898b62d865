use Rattle.mpb_start_laws.proofs.Resting.{processors_rest, devices_rest, places_rest}
use Rattle.mpb_start_laws.proofs.rest.complete_boots_are_at_rest.Goals as goal

pub returns-clause-processors : goal.returns-clause-processors
returns-clause-processors c = processors_rest

pub returns-clause-devices : goal.returns-clause-devices
returns-clause-devices c = devices_rest

pub returns-clause-places : goal.returns-clause-places
returns-clause-places c = places_rest
