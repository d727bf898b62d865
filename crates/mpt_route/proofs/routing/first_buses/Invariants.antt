use Rattle.std.proofs.Common.{take}
use Rattle.mpt_route.specs.Routes.{bus_kind_in}
use Rattle.mpt_route.specs.Index.{IsTableOf}
use Rattle.mpt_route.proofs.routing.first_buses.Given as goal

abbrev pub invariant-loop-b : goal.invariant-loop-b
invariant-loop-b l = IsTableOf 256 l.table.items (bus_kind_in (take l.b-index l.buses))
