use Rattle.mpb_setup.specs.Faults.{board_fault_of}
use Rattle.mpb_boards.proofs.BoardLemmas.{none_against}
use Rattle.mpb_boards.proofs.setup.board_on.Goals as goal

pub returns-in-Ok-config-clause-sound : goal.returns-in-Ok-config-clause-sound
returns-in-Ok-config-clause-sound c = none_against (board_fault_of c.args.platform.now c.args.script.now) c.config.result c.in-Ok-config.config c.in-Ok-config.is c.config.ensures.only_fault
