use Rattle.std.proofs.Common.{length, sym, subst, arith, ◌∙◌}
use Rattle.std.proofs.lemmas.Bool.{eqb-true}
use Rattle.mpt_rules.specs.Places.{IsFirstBefore}
use Rattle.mpt_rules.specs.Entries.{HasBootFlag}
use Rattle.mpt_rules.proofs.PlaceLemmas.{before_other, and_other}
use Rattle.mpt_rules.proofs.base_rules.second_boot_flag.Goals as goal

pub returns-then-has_boot_flag : goal.returns-then-has_boot_flag
returns-then-has_boot_flag c =
    let es = c.args.entries.now in
    and_other (IsFirstBefore HasBootFlag es c.args.i) (subst HasBootFlag (sym c.in-Processor.is) (eqb-true _ _ (sym c.has_boot_flag.ensures ∙ c.if-has_boot_flag.true))) _ (before_other HasBootFlag es c.args.i (length es) _ _ (omega arith) c.requires.indexed.boot c.place_before.ensures)
