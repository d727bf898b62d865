use Rattle.std.proofs.Common.{◌≡◌, ◌++◌, ◌∷◌, [], map, replicate, ap, ap₂, ◌∙◌, rules}
use Rattle.std.proofs.lemmas.List.{map-append, replicate_more}
use Rattle.mpb_run.proofs.lists.no_counts.Goals as goal

pub loop-preserved : goal.loop-preserved
loop-preserved c =
    let zeros : c.in-Ok.pins.items ≡ replicate 24 0 = search rules in
    ap (λ ls. map (λ l. l.items) ls) c.in-Ok-push.ensures.items
    ∙ map-append (λ l. l.items) c.loop.counts.items (c.in-Ok.pins ∷ [])
    ∙ ap₂ (λ ls l. ls ++ l ∷ []) c.loop.invariant zeros
    ∙ replicate_more c.loop.counter (replicate 24 0)
