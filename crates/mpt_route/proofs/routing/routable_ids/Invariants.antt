use Rattle.std.proofs.Common.{◌≡◌, map, take}
use Rattle.std.specs.Prelude.{filter}
use Rattle.mpt_route.specs.Routes.{is_enabled}
use Rattle.mpt_route.proofs.routing.routable_ids.Given as goal

abbrev pub invariant-loop-io : goal.invariant-loop-io
invariant-loop-io l = l.ids.items ≡ map (λ io. io.id) (take 4 (filter is_enabled (take l.io-index l.ios)))
