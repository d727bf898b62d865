use Rattle.std.proofs.Common.{sym, subst, ap, length, ◌∙◌}
use Rattle.mpf_madt.specs.Table.{IsMadt}
use Rattle.mpf_madt.proofs.SpelledLemmas.{IsMadt-spelled}
use Rattle.mpf_madt.proofs.WrittenLemmas.{IsMadt-written, length-madt_bytes}
use Rattle.mpf_madt.proofs.writing.write_madt.Goals as goal

pub returns-clause-table : goal.returns-clause-table
returns-clause-table c =
    let m = c.args.madt.now in
    subst (λ xs. IsMadt m xs) (sym c.in-Ok.ensures) (IsMadt-written m c.madt_value.ensures c.requires.lawful)

pub returns-clause-only : goal.returns-clause-only
returns-clause-only c bytes b t = c.in-Ok.ensures ∙ sym (IsMadt-spelled c.args.madt.now bytes b t)

pub returns-clause-size : goal.returns-clause-size
returns-clause-size c = ap length c.in-Ok.ensures ∙ length-madt_bytes c.args.madt.now c.madt_value.ensures
