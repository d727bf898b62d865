use Rattle.std.proofs.Common.{length, sym, subst, ap, ◌∙◌, arith}
use Rattle.std.specs.Prelude.{slice_index_or, None}
use Rattle.mpt_rules.specs.Places.{FirstIs}
use Rattle.mpt_rules.specs.Entries.{SharesIoApicId}
use Rattle.mpt_rules.specs.Index.{place_before}
use Rattle.mpt_rules.proofs.PlaceLemmas.{before_other}
use Rattle.mpt_rules.proofs.base_rules.duplicate_io_apic_id.Goals as goal

pub returns-in-IoApic : goal.returns-in-IoApic
returns-in-IoApic c =
    let es = c.args.entries.now in
    let first = subst (λ e. FirstIs (SharesIoApicId e) es (length es) (slice_index_or c.args.index.now.ios c.in-IoApic.e.id None)) (sym c.in-IoApic.is) (c.requires.indexed.ios c.in-IoApic.e.id) in
    before_other (SharesIoApicId c.args.entry.now) es c.args.i (length es) _ _ (omega arith) first (c.place_before.ensures ∙ ap (λ o. place_before o c.args.i) c.first_at.ensures)
