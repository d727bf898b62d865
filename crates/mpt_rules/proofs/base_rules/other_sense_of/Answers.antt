use Rattle.std.proofs.Common.{length, get_or, refl, sym, ap, ◌∙◌, subst, arith}
use Rattle.std.specs.BTreeMap as tree
use Rattle.std.proofs.lemmas.Bool.{false≢true}
use Rattle.std.proofs.lemmas.Option.{slice_get_within, slice_get-get_or, get_or_from_slice_get}
use Rattle.mpt_spec.specs.declared.entry.Base.TheVariants as base
use Rattle.std.specs.Prelude.{Some}
use Rattle.mpt_rules.specs.Places.{FirstIs}
use Rattle.mpt_rules.specs.Entries.{IsOnPin, IsOnPinWithOtherSense}
use Rattle.mpt_rules.specs.Index.{key_cmp, place_before}
use Rattle.mpt_rules.proofs.PlaceLemmas.{before_other, no_entry}
use Rattle.mpt_rules.proofs.SenseLemmas.{first_differs, second_is, sense_at}
use Rattle.mpt_rules.proofs.base_rules.other_sense_of.Goals as goal

pub returns-then-differs_from : goal.returns-then-differs_from
returns-then-differs_from c =
    let es = c.args.entries.now in
    let a = c.args.e.now in
    let k = c.in-Some.k in
    let f = subst (λ o. FirstIs (IsOnPin (a.dest, a.pin, 0)) es (length es) o) (sym c.first_of_key.ensures ∙ c.in-Some.is) (c.requires.indexed.pins (a.dest, a.pin, 0)) in
    first_differs es a c.args.i k c.requires.at f.place (get_or es k no_entry, slice_get-get_or es k no_entry f.before, c.differs_from.ensures.0 c.if-differs_from.true)

pub returns-else-differs_from : goal.returns-else-differs_from
returns-else-differs_from c =
    let es = c.args.entries.now in
    let a = c.args.e.now in
    let k = c.in-Some.k in
    let f = subst (λ o. FirstIs (IsOnPin (a.dest, a.pin, 0)) es (length es) o) (sym c.first_of_key.ensures ∙ c.in-Some.is) (c.requires.indexed.pins (a.dest, a.pin, 0)) in
    let at = slice_get-get_or es k no_entry f.before in
    let pin = subst (IsOnPin (a.dest, a.pin, 0)) (sym (get_or_from_slice_get es k f.place.holds.0 no_entry f.place.holds.1)) f.place.holds.2 in
    let s = sense_at a (get_or es k no_entry) pin (λ d. false≢true (sym c.if-differs_from.false ∙ c.differs_from.ensures.1 d)) in
    let there = at ∙ ap (λ e. Some e) s.1 in
    let o = tree.get key_cmp c.args.index.now.second_senses (a.dest, a.pin, 0) in
    let second = second_is es a c.args.i k s.0 there s.2 f.place (length es) o (c.requires.indexed.second_senses (a.dest, a.pin, 0)) in
    let l = slice_get_within es c.args.i (base.IoInt a) c.requires.at in
    before_other (IsOnPinWithOtherSense a) es c.args.i (length es) _ _ (omega (arith, l)) second (c.place_before.ensures ∙ ap (λ x. place_before x c.args.i) c.first_of_key-else-differs_from.ensures)

pub returns-in-None : goal.returns-in-None
returns-in-None c =
    let es = c.args.entries.now in
    let a = c.args.e.now in
    let none = subst (λ o. FirstIs (IsOnPin (a.dest, a.pin, 0)) es (length es) o) (sym c.first_of_key.ensures ∙ c.in-None.is) (c.requires.indexed.pins (a.dest, a.pin, 0)) in
    λ j h. none c.args.i (slice_get_within es c.args.i (base.IoInt a) c.requires.at) (base.IoInt a, c.requires.at, (refl, refl, refl))
