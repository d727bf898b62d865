use Rattle.mpb_spec.specs.Pulses.{logs_of}
use Rattle.mpf_played.proofs.PlayedLemmas.{played}
use Rattle.mpf_played.proofs.played.play_behind.Goals as goal

pub returns-in-Ok : goal.returns-in-Ok
returns-in-Ok c =
    let b = c.in-Ok.ran.board in
    played c.args.config b.plan c.args.p.now b.journal (logs_of c.in-Ok.ran.account) c.of.result c.args.ops.now c.play.result c.in-Ok.ensures.plan c.of.ensures.state c.in-Ok.ensures.robin c.play.ensures.text
