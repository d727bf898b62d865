use Rattle.std.proofs.Common.{sym, subst}
use Rattle.mpt_rules.specs.Places.{IsOther}
use Rattle.mpt_rules.specs.Rules.{BreaksBaseRule}
use Rattle.mpt_rules.specs.declared.rule.BaseRule.TheVariants as on_base
use Rattle.mpt_rules.proofs.SenseLemmas.{with_dest}
use Rattle.mpt_rules.proofs.base_rules.other_sense.Goals as goal

pub returns-else-e : goal.returns-else-e
returns-else-e c =
    subst (λ e. IsOther (BreaksBaseRule c.args.entries.now on_base.OtherSense e c.args.i) c.other_sense_of.result) (sym c.in-IoInt.is)
    (with_dest c.args.entries.now c.in-IoInt.e c.args.i c.other_sense_of.result c.if-e.false c.other_sense_of.ensures)
