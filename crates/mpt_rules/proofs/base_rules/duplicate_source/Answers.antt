use Rattle.std.proofs.Common.{length, sym, subst, ap, ◌∙◌, arith}
use Rattle.std.specs.BTreeMap as tree
use Rattle.mpt_rules.specs.Places.{FirstIs}
use Rattle.mpt_rules.specs.Entries.{HasSameSource}
use Rattle.mpt_rules.specs.Index.{place_before, key_cmp}
use Rattle.mpt_rules.proofs.PlaceLemmas.{before_other}
use Rattle.mpt_rules.proofs.base_rules.duplicate_source.Goals as goal

pub returns-in-IoInt : goal.returns-in-IoInt
returns-in-IoInt c =
    let es = c.args.entries.now in
    let a = c.in-IoInt.e in
    let first = subst (λ e. FirstIs (HasSameSource e) es (length es) (tree.get key_cmp c.args.index.now.sources (a.kind, a.bus, a.irq))) (sym c.in-IoInt.is) (c.requires.indexed.sources (a.kind, a.bus, a.irq)) in
    before_other (HasSameSource c.args.entry.now) es c.args.i (length es) _ _ (omega arith) first (c.place_before.ensures ∙ ap (λ o. place_before o c.args.i) c.first_of_key.ensures)
