use Rattle.std.proofs.Common.{[], ◌∷◌, Ok, sym, ap, ◌∙◌, arith}
use Rattle.mpb_words.specs.Words.{parts_of}
use Rattle.mpb_words.specs.Numbers.{numbers_of}
use Rattle.mpb_words.specs.Steps.{both}
use Rattle.mpb_words.proofs.NumberLemmas.{one_number_of, wrong_count}
use Rattle.mpb_words.proofs.PartLemmas.{parts_more, parts_end, several_parts}
use Rattle.mpb_words.proofs.numbers.one_number.Goals as goal

pub returns-in_default-None-clause-value : goal.returns-in_default-None-clause-value
returns-in_default-None-clause-value c =
    let part = c.cut.result.0.now in
    let one = parts_end c.args.text.now part c.cut.result.1 c.cut.ensures c.in_default-None.is-1 in
    c.both.ensures
    ∙ ap (λ r. both r (Ok 0)) c.number_up_to.ensures.value
    ∙ one_number_of c.args.most part
    ∙ ap (numbers_of (c.args.most ∷ [])) (sym one)

pub returns-in_default-Some-clause-value : goal.returns-in_default-Some-clause-value
returns-in_default-Some-clause-value c =
    let rest = c.in_default-Some.field-0-1 in
    let more = parts_more c.args.text.now c.cut.result.0.now c.cut.result.1 rest c.cut.ensures c.in_default-Some.is-1 in
    let several = several_parts c.args.text.now c.cut.result.0.now rest.now more in
    sym (wrong_count (c.args.most ∷ []) (parts_of c.args.text.now) (λ e. omega (arith, e, several)))
