use Rattle.std.proofs.Common.{◌≡◌, ◌≤◌, ◌&&◌, ℕ, true, nat_le, refl, sym, ◌∙◌, arith}
use Rattle.std.proofs.lemmas.Bool.{le-leb}
use Rattle.mpb_setup.specs.Faults.{names_place}
use Rattle.mpb_setup.proofs.ListLemmas.{find-first}
use Rattle.mpb_setup.proofs.faults.least_absent_place.Goals as goal

pub returns-then-names_place : goal.returns-then-names_place
returns-then-names_place c =
    let a = c.loop-place.place in
    let f = λ (k : ℕ). nat_le c.args.ios k && names_place c.args.ids.now c.args.s.now k in
    let le : c.args.ios ≤ a = omega (arith, c.if-ios-from.true, c.from.ensures) in
    let past : nat_le c.args.ios a ≡ true = le-leb c.args.ios a le in
    let named : names_place c.args.ids.now c.args.s.now a ≡ true = sym c.names_place.ensures ∙ c.if-names_place.true in
    let on : f a ≡ true = rw (past, named) refl in
    sym (find-first f 0 4 a (omega arith) (omega (arith, c.loop-place-test.true)) c.loop-place.invariant on)
