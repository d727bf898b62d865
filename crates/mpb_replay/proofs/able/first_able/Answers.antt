use Rattle.mpb_replay_laws.proofs.Able.{first_io, first_dev, all_idle}
use Rattle.mpb_replay.proofs.able.first_able.Goals as goal

pub returns-in-Some-able_io : goal.returns-in-Some-able_io
returns-in-Some-able_io c =
    first_io c.args.board.now.plan c.args.board.now.journal c.in-Some-able_io.place c.config.ensures.kept c.in_default.ensures c.in-Some-able_io.ensures.0 c.in-Some-able_io.ensures.1

pub returns-in-Some-able_dev : goal.returns-in-Some-able_dev
returns-in-Some-able_dev c =
    first_dev c.args.board.now.plan c.args.board.now.journal c.in-Some-able_dev.number c.config.ensures.kept c.in_default.ensures c.in_default-able_io.ensures c.in-Some-able_dev.ensures.0 c.in-Some-able_dev.ensures.1

pub returns-in-None : goal.returns-in-None
returns-in-None c = all_idle c.args.board.now.plan c.args.board.now.journal c.config.ensures.kept c.in_default.ensures c.in_default-able_io.ensures c.in-None.ensures
