use Rattle.std.proofs.Common.{◌≡◌, ◌++◌, ◌∷◌, [], List, map, take, take_all, sym, ap, ◌∙◌}
use Rattle.std.proofs.lemmas.List.{map-append, take-map}
use Rattle.mpb_spec.specs.declared.pulse.Pulse.{Pulse}
use Rattle.mpb_spec.proofs.Lists.{map_one_more}
use Rattle.mpb_latch.proofs.opening.copied.Goals as goal

pub loop-plan-preserved : goal.loop-plan-preserved
loop-plan-preserved c =
    let plans = c.args.plans.now in
    let i = c.loop-plan.plan-index in
    let plan = c.plan-item.result in
    let pulses = c.in-Ok-from_slice.pulses in
    let same : pulses.items ≡ plan.items = c.in-Ok-from_slice.ensures.items ∙ c.as_slice.ensures.value in
    ap (λ l. map (λ p. p.items) l) c.in-Ok-push.ensures.items
    ∙ map-append (λ p. p.items) c.loop-plan.copy.items (pulses ∷ [])
    ∙ ap (λ (l : List (List Pulse)). l ++ pulses.items ∷ []) c.loop-plan.invariant
    ∙ ap (λ (x : List Pulse). take i (map (λ p. p.items) plans) ++ x ∷ []) same
    ∙ sym (map_one_more (λ p. p.items) plans i plan c.loop-plan-test.true c.plan-item.is)

pub returns : goal.returns
returns c =
    let i = c.loop-plan.plan-index in
    let plans = c.args.plans.now in
    c.loop-plan.invariant ∙ take-map (λ p. p.items) i plans ∙ ap (λ l. map (λ p. p.items) l) (take_all i plans c.loop-plan-test.false)
