use Rattle.std.proofs.Common.{◌≡◌, ◌++◌, ◌∷◌, [], List, map, take, sym, ap, ◌∙◌, arith}
use Rattle.std.proofs.lemmas.List.{map-append}
use Rattle.mpb_spec.specs.declared.pulse.Pulse.{Pulse}
use Rattle.mpb_spec.specs.Pulses.{pulses_in}
use Rattle.mpb_spec.proofs.Lists.{map_one_more}
use Rattle.mpb_crew.proofs.Opened.{all_plans}
use Rattle.mpb_crew.proofs.opening.plans_of.Goals as goal

pub loop-words-preserved : goal.loop-words-preserved
loop-words-preserved c =
    let devices = c.args.devices.now in
    let i = c.loop-words.words-index in
    let words = c.words-item.result in
    let plan = c.in-Ok-plan_of.plan in
    let same : plan.items ≡ pulses_in words.items = c.in-Ok-plan_of.ensures ∙ ap pulses_in c.as_slice.ensures.value in
    ap (λ l. map (λ p. p.items) l) c.in-Ok-push.ensures.items
    ∙ map-append (λ p. p.items) c.loop-words.plans.items (plan ∷ [])
    ∙ ap (λ (l : List (List Pulse)). l ++ plan.items ∷ []) c.loop-words.invariant
    ∙ ap (λ (x : List Pulse). take i (map (λ ws. pulses_in ws.items) devices) ++ x ∷ []) same
    ∙ sym (map_one_more (λ ws. pulses_in ws.items) devices i words c.loop-words-test.true c.words-item.is)

pub returns : goal.returns
returns c = c.loop-words.invariant ∙ all_plans c.args.devices.now c.loop-words.words-index (omega (arith, c.loop-words-test.false))
