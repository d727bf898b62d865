use Rattle.std.proofs.Common.{◌≡◌, ◌∷◌, ◌++◌, [], List, ap, ◌∙◌, rules, arith}
use Rattle.std.specs.Vec.{vec_capacity}
use Rattle.mpb_spec.specs.declared.pulse.Pulse.{Pulse}
use Rattle.mpb_spec.specs.declared.pulse.Hit.{Hit}
use Rattle.mpb_run.proofs.ListLemmas.{all_as_large, map_changes}
use Rattle.mpb_run.proofs.lists.log_hit.Goals as goal

pub returns-clause-logs : goal.returns-clause-logs
returns-clause-logs c =
    let vs = c.args.logs.now.items in
    let v = c.index_mut.result.now in
    let is : c.push.new.self.items ≡ v.items ++ (c.args.pulse, c.args.hit) ∷ [] = search rules in
    map_changes (λ l. l.items) (λ (l : List (Pulse × Hit)). l ++ (c.args.pulse, c.args.hit) ∷ []) c.args.device vs c.push.new.self v c.requires.there
    (is ∙ ap (λ u. u.items ++ (c.args.pulse, c.args.hit) ∷ []) c.index_mut.ensures.value)

pub returns-clause-room : goal.returns-clause-room
returns-clause-room c d =
    let vs = c.args.logs.now.items in
    let v = c.index_mut.result.now in
    all_as_large (λ l. vec_capacity l) c.args.device vs c.push.new.self v (let e = ap (λ u. vec_capacity u) c.index_mut.ensures.value in let l = c.push.ensures.capacity in omega arith) d
