use Rattle.std.proofs.Common.{◌≡◌, filter, map, take}
use Rattle.mpb_setup.specs.Boot.{is_enabled}
use Rattle.mpb_setup.proofs.ids.enabled_ids.Given as goal

abbrev pub invariant-loop-e : goal.invariant-loop-e
invariant-loop-e l = l.ids.items ≡ map (λ x. x.apic) (filter is_enabled (take l.e-index l.processors))
