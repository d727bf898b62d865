use Rattle.std.proofs.Common.{◌≡◌, ◌++◌, ◌∷◌, [], List, map, take, take_all, sym, ap, ◌∙◌}
use Rattle.std.proofs.lemmas.List.{map-append, take-map}
use Rattle.mpb_spec.specs.declared.config.DevWord.{DevWord}
use Rattle.mpb_spec.proofs.Lists.{map_one_more}
use Rattle.mpb_crew.proofs.opening.words_of.Goals as goal

pub loop-words-preserved : goal.loop-words-preserved
loop-words-preserved c =
    let devices = c.args.devices.now in
    let i = c.loop-words.words-index in
    let words = c.words-item.result in
    let made = c.in-Ok-from_slice.made in
    let same : made.items ≡ words.items = c.in-Ok-from_slice.ensures.items ∙ c.as_slice.ensures.value in
    ap (λ l. map (λ p. p.items) l) c.in-Ok-push.ensures.items
    ∙ map-append (λ p. p.items) c.loop-words.copy.items (made ∷ [])
    ∙ ap (λ (l : List (List DevWord)). l ++ made.items ∷ []) c.loop-words.invariant
    ∙ ap (λ (x : List DevWord). take i (map (λ p. p.items) devices) ++ x ∷ []) same
    ∙ sym (map_one_more (λ p. p.items) devices i words c.loop-words-test.true c.words-item.is)

pub returns : goal.returns
returns c =
    let i = c.loop-words.words-index in
    let devices = c.args.devices.now in
    c.loop-words.invariant ∙ take-map (λ p. p.items) i devices ∙ ap (λ l. map (λ p. p.items) l) (take_all i devices c.loop-words-test.false)
