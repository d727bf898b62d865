use Rattle.std.proofs.Common.{◌∷◌, ◌++◌, [], List, map, ap, sym, ◌∙◌, arith}
use Rattle.std.proofs.lemmas.List.{append_assoc}
use Rattle.std.proofs.lemmas.List.FromFn.{map-range_with_len_more}
use Rattle.std.specs.List.{range_with_len}
use Rattle.mpb_spec.specs.declared.agent.Agent.{Agent}
use Rattle.mpb_spec.specs.declared.agent.Agent.TheVariants.{Io}
use Rattle.mpb_board.proofs.roster.push_ios.Goals as goal

pub loop-place-preserved : goal.loop-place-preserved
loop-place-preserved c =
    let n = c.loop-place.place in
    c.in-Ok.ensures.items
    ∙ ap (λ (xs : List Agent). xs ++ Io n ∷ []) c.loop-place.invariant
    ∙ append_assoc c.args.agents.now.items (map Io (range_with_len 0 n)) (Io n ∷ [])
    ∙ ap (λ (xs : List Agent). c.args.agents.now.items ++ xs) (sym (map-range_with_len_more Io 0 n n (omega arith)))
