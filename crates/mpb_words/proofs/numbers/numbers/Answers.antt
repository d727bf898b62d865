use Rattle.std.proofs.Common.{Option, List, ℕ, Bor, length, option_copied, sym, ap, arith}
use Rattle.mpb_words.specs.Steps.{parts_behind}
use Rattle.mpb_words.proofs.NumberLemmas.{wrong_count}
use Rattle.mpb_words.proofs.PartLemmas.{some_parts}
use Rattle.mpb_words.proofs.numbers.numbers.Goals as goal

pub returns-in_default-clause-value : goal.returns-in_default-clause-value
returns-in_default-clause-value c =
    let none = c.in_default.len_below in
    let some = some_parts c.in-Some.rest.now in
    let same = ap (λ (o : Option (Bor (List ℕ))). length (parts_behind (option_copied o))) c.in-Some.is in
    sym (wrong_count c.args.limits.now (parts_behind (option_copied c.args.rest)) (λ e. omega (arith, none, some, same, e)))
