use Rattle.std.proofs.Common.{[], ◌∷◌, ◌++◌, sym, ◌∙◌}
use Rattle.std.proofs.lemmas.List.{map-append}
use Rattle.mpt_spec.specs.Canonical.{canonical_ext}
use Rattle.mpt_write.proofs.canonical.cleared_exts.Goals as goal

pub loop-entry-preserved : goal.loop-entry-preserved
loop-entry-preserved c =
    c.in-Ok.ensures.items ∙ (λ i. c.loop-entry.invariant i ++ c.cleared.ensures i ∷ []) ∙ sym (map-append canonical_ext c.loop-entry.yielded (c.in-Some.entry ∷ []))
