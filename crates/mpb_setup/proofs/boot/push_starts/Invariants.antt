use Rattle.std.proofs.Common.{◌≡◌, ◌==◌, ◌&&◌, ◌++◌, not, take, filter}
use Rattle.std.specs.List.{flat_map}
use Rattle.mpb_setup.specs.Boot.{is_enabled, start_ops}
use Rattle.mpb_setup.proofs.boot.push_starts.Given as goal

abbrev pub invariant-loop-e : goal.invariant-loop-e
invariant-loop-e l = l.ops.items ≡ l.fn.ops.items ++ flat_map (start_ops l.page) (filter (λ e. is_enabled e && not (e.apic == l.boot)) (take l.e-index l.processors))
