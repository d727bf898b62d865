use Rattle.std.proofs.Common.{◌≡◌, ◌<◌, ◌*◌, ◌+◌, ◌^◌, length, get_or, ap, sym, ◌∙◌, arith, rules}
use lib.Count.{ones}
use Rattle.std.proofs.lemmas.Nat.{ones-le}
use Rattle.mpb_bits.proofs.CountLemmas.{count_before, count_before-le, count_before-word, count_before-none, count_before-all}
use Rattle.mpb_bits.proofs.words.count_in.Goals as goal

pub overflow_add-count : goal.overflow_add-count
overflow_add-count c =
    let words = c.args.words.now in
    let i = c.loop-word.word-index in
    let fits : get_or words i 0 < 2 ^ 64 = search rules in
    omega (arith, c.loop-word.invariant, count_before-le words (64 * i), ones-le 64 (get_or words i 0) fits)

pub loop-word-init : goal.loop-word-init
loop-word-init c = sym (count_before-none c.args.words.now)

pub loop-word-preserved : goal.loop-word-preserved
loop-word-preserved c =
    let words = c.args.words.now in
    let i = c.loop-word.word-index in
    let fits : get_or words i 0 < 2 ^ 64 = search rules in
    ap (λ n. n + ones (get_or words i 0)) c.loop-word.invariant ∙ sym (count_before-word words i fits)

pub returns : goal.returns
returns c =
    let words = c.args.words.now in
    let end : c.loop-word.word-index ≡ length words = omega arith in
    c.loop-word.invariant ∙ ap (λ i. count_before words (64 * i)) end ∙ count_before-all words
