use Rattle.std.proofs.Common.{arith, ap, sym, ◌∙◌, option_map}
use Rattle.mpb_words.specs.Numbers.{number_of}
use Rattle.mpb_words.specs.Steps.{held}
use Rattle.mpb_words.proofs.NumberLemmas.{number_within, number_above, no_number}
use Rattle.mpb_words.proofs.numbers.number_up_to.Goals as goal

pub returns-then-n-from-clause-value : goal.returns-then-n-from-clause-value
returns-then-n-from-clause-value c =
    let limit = c.from.ensures in
    let within = c.if-n-from.true in
    number_within c.args.most c.in-Some.n (number_of c.args.part.now) (omega arith) (sym c.in-Some.is ∙ c.number.ensures ∙ ap (λ t. option_map held (number_of t)) c.as_bytes.ensures.value) (omega arith)

pub returns-else-n-from-clause-value : goal.returns-else-n-from-clause-value
returns-else-n-from-clause-value c =
    let limit = c.from.ensures in
    let above = c.if-n-from.false in
    number_above c.args.most c.in-Some.n (number_of c.args.part.now) (sym c.in-Some.is ∙ c.number.ensures ∙ ap (λ t. option_map held (number_of t)) c.as_bytes.ensures.value) (omega arith)

pub returns-in-None-clause-value : goal.returns-in-None-clause-value
returns-in-None-clause-value c = no_number c.args.most (number_of c.args.part.now) (sym c.in-None.is ∙ c.number.ensures ∙ ap (λ t. option_map held (number_of t)) c.as_bytes.ensures.value)
