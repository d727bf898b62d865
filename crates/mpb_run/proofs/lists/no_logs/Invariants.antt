use Rattle.std.proofs.Common.{◌≡◌, [], length, map, take, replicate}
use Rattle.std.specs.Vec.{vec_capacity}
use Rattle.mpb_run.proofs.lists.no_logs.Given as goal

abbrev pub invariant-loop-words : goal.invariant-loop-words
invariant-loop-words l = (map (λ v. v.items) l.logs.items ≡ replicate l.words-index []) × (map (λ v. vec_capacity v) l.logs.items ≡ map (λ words. length words.items) (take l.words-index l.devices))
