use Rattle.std.proofs.Common.{◌∙◌, length, subst, IfOk, List}
use Rattle.mpt_route.specs.declared.route.Answer.{Answer}
use Rattle.mpf_madt.specs.declared.translation.TranslateFault.TheVariants as fault
use Rattle.mptab_walk.specs.Made.{IsMadtOf}
use Rattle.mptab_walk.proofs.MadeLemmas.{madt-written, within_255}
use Rattle.mptab_walk.proofs.answer.madt_on.Goals as goal

pub returns-in-Ok-translate : goal.returns-in-Ok-translate
returns-in-Ok-translate c =
    let p = c.args.platform.now in
    let few = within_255 (length p.processors) c.translate.result c.in-Ok-translate.madt (fault.ManyProcessors (length p.processors)) c.translate.ensures.only_many c.in-Ok-translate.is in
    subst (λ (answers : List Answer). IfOk c.madt_written.result (λ a. IsMadtOf p answers a.status a.text.items)) (c.as_slice.ensures.value ∙ c.in-Ok.ensures.answers)
    (madt-written c.madt_written.result p c.as_slice.result.now c.in-Ok-translate.madt few c.in-Ok-translate.ensures.table c.madt_written.ensures)
