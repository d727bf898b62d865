use Rattle.std.proofs.Common.{◌≤◌, ◌∙◌, length, subst, arith}
use Rattle.mpf_madt.proofs.SizeLemmas.{madt_of-lawful}
use Rattle.mpf_madt.proofs.translation.translate.Goals as goal

pub returns-in-Ok-clause-lawful : goal.returns-in-Ok-clause-lawful
returns-in-Ok-clause-lawful c =
    let few : length c.args.p.now.processors ≤ 255 = subst (λ xs. length xs ≤ 255) c.as_slice-count.ensures c.if-count-gt-MOST_PROCESSORS.false in
    madt_of-lawful c.args.p.now c.args.answers.now c.new.result c.requires.small few (c.new.ensures ∙ c.in-Ok.ensures)

pub returns-in-Ok-clause-only_many : goal.returns-in-Ok-clause-only_many
returns-in-Ok-clause-only_many c h =
    let few : length c.args.p.now.processors ≤ 255 = subst (λ xs. length xs ≤ 255) c.as_slice-count.ensures c.if-count-gt-MOST_PROCESSORS.false in
    absurd (omega (arith, h))
