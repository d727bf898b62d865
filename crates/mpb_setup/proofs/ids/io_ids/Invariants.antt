use Rattle.std.proofs.Common.{◌≡◌, filter, map, take}
use Rattle.mpt_route.specs.Routes.{is_enabled}
use Rattle.mpb_setup.proofs.ids.io_ids.Given as goal

abbrev pub invariant-loop-io : goal.invariant-loop-io
invariant-loop-io l = l.ids.items ≡ map (λ x. x.id) (filter is_enabled (take l.io-index l.ios))
