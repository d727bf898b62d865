use Rattle.std.proofs.Common.{◌≡◌, sym, ap, ◌∙◌, decimal, Ok, arith}
use Rattle.std.proofs.lemmas.Bool.{both_ways}
use Rattle.std.proofs.lemmas.Fmt.{parse-decimal}
use Rattle.std.proofs.lemmas.Slice.Eq.{bytes_eq-Decides}
use Rattle.mptab_walk.proofs.number.drill_number.Goals as goal

pub returns-in_default : goal.returns-in_default
returns-in_default c = λ m lt e.
    let parsed : c.parse.result ≡ Ok m = parse-decimal 16 m c.args.word.now c.parse.result (omega (arith, lt)) (omega (arith, lt)) e c.parse.ensures.value.0 in
    let found : c.parse.result ≡ Ok c.in-Ok.n = c.in-Ok.is in
    let both : Ok m ≡ Ok c.in-Ok.n = sym parsed ∙ found in
    let same : m ≡ c.in-Ok.n = cc in
    both_ways _ (sym c.spells.ensures ∙ c.if-spells.false) ((bytes_eq-Decides c.args.word.now (decimal c.in-Ok.n)).1 (e ∙ ap decimal same))

pub returns-in_default-2 : goal.returns-in_default-2
returns-in_default-2 c = λ m lt e.
    let parsed : c.parse.result ≡ Ok m = parse-decimal 16 m c.args.word.now c.parse.result (omega (arith, lt)) (omega (arith, lt)) e c.parse.ensures.value.0 in
    let found : c.parse.result ≡ Ok c.in-Ok.n = c.in-Ok.is in
    let both : Ok m ≡ Ok c.in-Ok.n = sym parsed ∙ found in
    let same : m ≡ c.in-Ok.n = cc in
    omega (arith, same, lt, c.if-n-lt10000.false)

pub returns-in_default-3 : goal.returns-in_default-3
returns-in_default-3 c = λ m lt e.
    let parsed : c.parse.result ≡ Ok m = parse-decimal 16 m c.args.word.now c.parse.result (omega (arith, lt)) (omega (arith, lt)) e c.parse.ensures.value.0 in
    let failed = c.in_default.is in
    cc
