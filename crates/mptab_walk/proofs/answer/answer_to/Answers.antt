use Rattle.std.proofs.Common.{IfOk, subst, sym}
use Rattle.mptab_walk.specs.declared.words.TablesCommand.{TablesCommand}
use Rattle.mptab_walk.specs.Commands.{IsAnswerTo}
use Rattle.mptab_walk.proofs.answer.answer_to.Goals as goal

pub returns-in-Madt : goal.returns-in-Madt
returns-in-Madt c = subst (λ (d : TablesCommand). IfOk c.madt_made.result (λ answer. IsAnswerTo d c.args.tables answer.status answer.text.items)) (sym c.in-Madt.is) c.madt_made.ensures
