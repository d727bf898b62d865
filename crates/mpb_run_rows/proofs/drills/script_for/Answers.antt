use Rattle.std.proofs.Common.{sym, subst}
use Rattle.mpb_script.specs.declared.script.Script.{Script}
use Rattle.mpb_script.specs.Values.{HasScriptValues}
use Rattle.mpb_run_rows.proofs.drills.script_for.Goals as goal

pub returns : goal.returns
returns c = subst (λ (s : Script). HasScriptValues s) (sym c.in_ok-drill_script.ensures.script) (c.drills_have_boards.ensures.values c.args.n)
