use Rattle.std.proofs.Common.{map, ap, ◌∙◌}
use Rattle.mpt_spec.specs.Canonical.{canonical_base, canonical_ext, in_type_order}
use Rattle.mpt_write.proofs.canonical.canonical_table.Goals as goal

pub returns : goal.returns
returns c =
    let base = c.new.ensures ∙ c.in-Ok.ensures ∙ ap (λ es. in_type_order (map canonical_base es)) c.as_slice.ensures in
    let ext = c.new-2.ensures ∙ c.in-Ok-canonical_exts.ensures ∙ ap (λ es. map canonical_ext es) c.into_vec.ensures in
    λ i. record c.args.table { reserved = c.cleared_reserved.ensures i; old = c.cleared_old.ensures i; base = base i; ext = ext i }
