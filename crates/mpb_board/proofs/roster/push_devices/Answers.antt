use Rattle.std.proofs.Common.{◌∷◌, ◌++◌, [], List, map, ap, sym, ◌∙◌, arith}
use Rattle.std.proofs.lemmas.List.{append_assoc}
use Rattle.std.proofs.lemmas.List.FromFn.{map-range_with_len_more}
use Rattle.std.specs.List.{range_with_len}
use Rattle.mpb_spec.specs.declared.agent.Agent.{Agent}
use Rattle.mpb_spec.specs.declared.agent.Agent.TheVariants.{Dev}
use Rattle.mpb_board.proofs.roster.push_devices.Goals as goal

pub loop-device-preserved : goal.loop-device-preserved
loop-device-preserved c =
    let n = c.loop-device.device in
    c.in-Ok.ensures.items
    ∙ ap (λ (xs : List Agent). xs ++ Dev n ∷ []) c.loop-device.invariant
    ∙ append_assoc c.args.agents.now.items (map Dev (range_with_len 0 n)) (Dev n ∷ [])
    ∙ ap (λ (xs : List Agent). c.args.agents.now.items ++ xs) (sym (map-range_with_len_more Dev 0 n n (omega arith)))
