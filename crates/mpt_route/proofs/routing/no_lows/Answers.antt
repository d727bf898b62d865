use Rattle.std.proofs.Common.{ℕ, ◌∙◌, List, [], ap, get_or, replicate}
use Rattle.std.specs.Prelude.{Option, None}
use Rattle.std.proofs.lemmas.List.{get_or-replicate}
use Rattle.mpt_route.proofs.routing.no_lows.Goals as goal

pub returns-clause-none : goal.returns-clause-none
returns-clause-none c =
    λ io pin i p. ap (λ (xs : List (Option ℕ)). get_or xs pin None) (get_or-replicate 4 io (replicate 24 None) [] i) ∙ get_or-replicate 24 pin None None p
