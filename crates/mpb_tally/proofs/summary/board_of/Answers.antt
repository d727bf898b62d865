use Rattle.std.proofs.Common.{sym, subst}
use Rattle.mpb_script.specs.declared.script.Script.{Script}
use Rattle.mpb_script.specs.Values.{HasScriptValues}
use Rattle.mpb_setup.specs.Board.{board_config_of}
use Rattle.mpb_tally.proofs.CountLemmas.{no_refusal}
use Rattle.mpb_tally.proofs.summary.board_of.Goals as goal

pub config-requires-clause-values : goal.config-requires-clause-values
config-requires-clause-values c = subst (λ (s : Script). HasScriptValues s) (sym c.in-Ok.ensures.script) (c.drills_have_boards.ensures.values c.args.n)

pub no_memory-requires : goal.no_memory-requires
no_memory-requires c =
    no_refusal c.in-Err.error (board_config_of c.args.platform.now c.args.answers.now c.in-Ok.script)
    (c.in-Err.ensures.only_config (rw (c.requires.platform, c.in-Ok.ensures.script) (c.drills_have_boards.ensures.no_fault c.args.n)))
