use Rattle.std.proofs.Common.{length, sym, subst, ap, ◌∙◌, arith}
use Rattle.std.specs.Prelude.{slice_index_or, None}
use Rattle.mpt_rules.specs.Places.{FirstIs}
use Rattle.mpt_rules.specs.Entries.{SharesProcessorId}
use Rattle.mpt_rules.specs.Index.{place_before}
use Rattle.mpt_rules.proofs.PlaceLemmas.{before_other}
use Rattle.mpt_rules.proofs.base_rules.duplicate_processor_id.Goals as goal

pub returns-in-Processor : goal.returns-in-Processor
returns-in-Processor c =
    let es = c.args.entries.now in
    let first = subst (λ e. FirstIs (SharesProcessorId e) es (length es) (slice_index_or c.args.index.now.processors c.in-Processor.e.apic None)) (sym c.in-Processor.is) (c.requires.indexed.processors c.in-Processor.e.apic) in
    before_other (SharesProcessorId c.args.entry.now) es c.args.i (length es) _ _ (omega arith) first (c.place_before.ensures ∙ ap (λ o. place_before o c.args.i) c.first_at.ensures)
