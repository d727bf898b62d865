use Rattle.std.proofs.Common.{[], ◌∷◌, length, sym, ap, ◌∙◌, arith}
use Rattle.mpb_words.specs.Words.{parts_of}
use Rattle.mpb_words.specs.Numbers.{numbers_of}
use Rattle.mpb_words.specs.Steps.{both}
use Rattle.mpb_words.proofs.NumberLemmas.{two_numbers_of, wrong_count}
use Rattle.mpb_words.proofs.PartLemmas.{parts_more, parts_end, several_parts}
use Rattle.mpb_words.proofs.numbers.two_numbers.Goals as goal

pub returns-in_default-None-clause-value : goal.returns-in_default-None-clause-value
returns-in_default-None-clause-value c =
    let text = c.args.text.now in
    let one = c.cut.result.0.now in
    let other = c.cut-2.result.0.now in
    let more = parts_more text one c.cut.result.1 c.in-Some.rest c.cut.ensures c.in-Some.is in
    let last = parts_end c.in-Some.rest.now other c.cut-2.result.1 c.cut-2.ensures c.in_default-None.is-1 in
    c.both.ensures
    ∙ ap (λ r. both r c.number_up_to-in_default-None.result) c.number_up_to.ensures.value
    ∙ ap (both _) c.number_up_to-in_default-None.ensures.value
    ∙ two_numbers_of c.args.first c.args.second one other
    ∙ ap (λ ps. numbers_of (c.args.first ∷ c.args.second ∷ []) (one ∷ ps)) (sym last)
    ∙ ap (numbers_of (c.args.first ∷ c.args.second ∷ [])) (sym more)

pub returns-in_default-Some-clause-value : goal.returns-in_default-Some-clause-value
returns-in_default-Some-clause-value c =
    let text = c.args.text.now in
    let one = c.cut.result.0.now in
    let rest = c.in_default-Some.field-0-1 in
    let more = parts_more text one c.cut.result.1 c.in-Some.rest c.cut.ensures c.in-Some.is in
    let again = parts_more c.in-Some.rest.now c.cut-2.result.0.now c.cut-2.result.1 rest c.cut-2.ensures c.in_default-Some.is-1 in
    let several = several_parts c.in-Some.rest.now c.cut-2.result.0.now rest.now again in
    let many = ap length more in
    sym (wrong_count (c.args.first ∷ c.args.second ∷ []) (parts_of text) (λ e. omega (arith, e, several, many)))
