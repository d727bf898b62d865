use Rattle.std.proofs.Common.{length, refl, sym, subst, ◌∙◌}
use Rattle.std.specs.Prelude.{Some}
use Rattle.std.proofs.lemmas.Option.{slice_get_read, slice_get_within}
use Rattle.mpt_rules.specs.Places.{FirstIs}
use Rattle.mpt_rules.specs.Entries.{IsHierarchyOf}
use Rattle.mpt_rules.proofs.IndexLemmas.{parent_there}
use Rattle.mpt_rules.proofs.ext_index.parent_of.Goals as goal

pub returns-in-Some : goal.returns-in-Some
returns-in-Some c =
    let es = c.args.entries.now in
    let k = c.in-Some.k in
    let first : FirstIs (IsHierarchyOf c.args.bus) es (length es) (Some k) = subst (FirstIs (IsHierarchyOf c.args.bus) es (length es)) (sym c.first_at.ensures ∙ c.in-Some.is) (c.requires c.args.bus) in
    parent_there es c.args.bus k c.index-entries-k.result c.parent_by.result (slice_get_read es _ k c.index-entries-k.result refl first.before c.index-entries-k.is) first.place c.parent_by.ensures

pub returns-in-None : goal.returns-in-None
returns-in-None c =
    let es = c.args.entries.now in
    let none = subst (FirstIs (IsHierarchyOf c.args.bus) es (length es)) (sym c.first_at.ensures ∙ c.in-None.is) (c.requires c.args.bus) in
    λ parent p. none p.0 (slice_get_within es p.0 p.1.holds.0 p.1.holds.1) p.1.holds
