use Rattle.mpb_report_laws.proofs.BoardOps.{board_values}
use Rattle.mpb_report_laws.proofs.laws.boards_have_op_values.Goals as goal

pub returns : goal.returns
returns c = board_values
