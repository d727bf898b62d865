use Rattle.std.proofs.Common.{length, sym, subst}
use Rattle.std.specs.Prelude.{slice_index_or, None}
use Rattle.mpt_rules.specs.Places.{FirstIs}
use Rattle.mpt_rules.specs.Entries.{SharesIdWithProcessor}
use Rattle.mpt_rules.proofs.PlaceLemmas.{first_other}
use Rattle.mpt_rules.proofs.base_rules.shared_id.Goals as goal

pub returns-in-IoApic : goal.returns-in-IoApic
returns-in-IoApic c =
    let es = c.args.entries.now in
    let first = subst (λ e. FirstIs (SharesIdWithProcessor e) es (length es) (slice_index_or c.args.index.now.processors c.in-IoApic.e.id None)) (sym c.in-IoApic.is) (c.requires.indexed.processors c.in-IoApic.e.id) in
    first_other (SharesIdWithProcessor c.args.entry.now) es _ _ first c.first_at.ensures
