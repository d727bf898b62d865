use Rattle.mpb_setup.proofs.setup.config.Goals as goal

pub returns-clause-config : goal.returns-clause-config
returns-clause-config c = c.answer.ensures.config

pub returns-clause-fault : goal.returns-clause-fault
returns-clause-fault c = c.answer.ensures.fault

pub returns-clause-only_config : goal.returns-clause-only_config
returns-clause-only_config c = c.answer.ensures.only_config

pub returns-clause-only_fault : goal.returns-clause-only_fault
returns-clause-only_fault c = c.answer.ensures.only_fault

pub returns-clause-startable : goal.returns-clause-startable
returns-clause-startable c = c.answer.ensures.startable

pub returns-clause-small : goal.returns-clause-small
returns-clause-small c = c.answer.ensures.small

pub returns-clause-room : goal.returns-clause-room
returns-clause-room c = c.answer.ensures.room
