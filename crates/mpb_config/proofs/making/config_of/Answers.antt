use Rattle.std.proofs.Common.{◌∙◌, sym, true≢false}
use Rattle.mpb_config.proofs.TestLemmas.{config_at, config_true, true_config}
use Rattle.mpb_config.proofs.making.config_of.Goals as goal

pub returns-then-not-is_config-clause-none : goal.returns-then-not-is_config-clause-none
returns-then-not-is_config-clause-none c at =
    let told = rw (c.as_slice.ensures.value, c.as_slice-2.ensures.value, c.as_slice-3.ensures.value) at c.is_config.ensures in
    true≢false (sym (true_config c.args.page _ at) ∙ sym told ∙ c.if-not-is_config.true)

pub invariant_of-result : goal.invariant_of-result
invariant_of-result c =
    let told = rw (c.as_slice.ensures.value, c.as_slice-2.ensures.value, c.as_slice-3.ensures.value) at c.is_config.ensures in
    config_true c.args.page _ (sym told ∙ c.if-not-is_config.false)

pub returns-clause-is : goal.returns-clause-is
returns-clause-is c =
    let told = rw (c.as_slice.ensures.value, c.as_slice-2.ensures.value, c.as_slice-3.ensures.value) at c.is_config.ensures in
    config_at c.args.page _ (sym told ∙ c.if-not-is_config.false)
