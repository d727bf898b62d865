use Rattle.std.proofs.Common.{◌++◌, ◌∷◌, [], ℕ, List, map, take, sym, ap, ◌∙◌}
use Rattle.std.proofs.lemmas.List.{map_more, map_push, take_all}
use Rattle.toml.specs.View.{view}
use Rattle.mpb_script.specs.Document.{number_in}
use Rattle.mpb_script.proofs.reading.numbers.Goals as goal

pub loop-value-preserved : goal.loop-value-preserved
loop-value-preserved c =
    let values = c.args.values.now in
    let i = c.loop-value.value-index in
    let value = c.value-item.result in
    let before = map view (take i values) in
    c.in-Ok.ensures.items
    ∙ ap (λ (l : List ℕ). l ++ c.number.result ∷ []) c.loop-value.invariant
    ∙ ap (λ (n : ℕ). map (number_in 254) before ++ n ∷ []) (c.number.ensures.value ∙ ap (λ v. number_in 254 (view v)) c.value-item.is)
    ∙ sym (ap (map (number_in 254)) (map_more view values i value c.loop-value-test.true) ∙ map_push (number_in 254) before _)

pub loop-value-init : goal.loop-value-init
loop-value-init c = c.new-ids.ensures.items

pub returns : goal.returns
returns c =
    c.new.ensures ∙ c.loop-value.invariant ∙ ap (λ vs. map (number_in 254) (map view vs)) (take_all c.loop-value.value-index c.args.values.now c.loop-value-test.false)
