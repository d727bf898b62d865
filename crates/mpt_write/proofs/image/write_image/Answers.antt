use Rattle.std.proofs.Common.{◌≡◌, ℕ, List, length, sym, ap, ◌∙◌, subst}
use Rattle.mpt_spec.specs.Image.{image_of}
use Rattle.mpt_spec.specs.Table.{Describes}
use Rattle.mpt_spec.proofs.WrittenImageLemmas.{image_of-over_zeros, length-image_of, Describes-image_of}
use Rattle.mpt_write.proofs.image.write_image.Goals as goal

pub returns-in-Ok-image_with-clause-bytes : goal.returns-in-Ok-image_with-clause-bytes
returns-in-Ok-image_with-clause-bytes c = c.in-Ok-image_with.ensures ∙ sym (image_of-over_zeros c.args.tables.now)

pub returns-in-Ok-image_with-clause-size : goal.returns-in-Ok-image_with-clause-size
returns-in-Ok-image_with-clause-size c =
    let t = c.args.tables.now in
    let same : c.in-Ok-image_with.image.items ≡ image_of t = c.in-Ok-image_with.ensures ∙ sym (image_of-over_zeros t) in
    ap (λ (xs : List ℕ). length xs) same ∙ length-image_of t c.tables_value.ensures c.requires.fits

pub returns-in-Ok-image_with-clause-describes : goal.returns-in-Ok-image_with-clause-describes
returns-in-Ok-image_with-clause-describes c =
    let t = c.args.tables.now in
    let same : c.in-Ok-image_with.image.items ≡ image_of t = c.in-Ok-image_with.ensures ∙ sym (image_of-over_zeros t) in
    subst (λ xs. Describes xs t) (sym same) (Describes-image_of t c.tables_value.ensures c.requires.fits)
