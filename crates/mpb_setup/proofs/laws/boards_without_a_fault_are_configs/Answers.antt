use Rattle.mpb_setup.proofs.BoardLemmas.{config_right}
use Rattle.mpb_setup.proofs.StartLemmas.{config_starts}
use Rattle.mpb_setup.proofs.RoomLemmas.{config_small}
use Rattle.mpb_setup.proofs.laws.boards_without_a_fault_are_configs.Goals as goal

pub returns : goal.returns
returns c = record {
  config = config_right;
  startable = config_starts;
  small = λ p s none values bytes. (config_small p s none values bytes).size;
  room = λ p s none values bytes. (config_small p s none values bytes).room;
}
