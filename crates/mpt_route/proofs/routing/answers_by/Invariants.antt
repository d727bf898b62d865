use Rattle.std.proofs.Common.{◌≡◌, [], length, take}
use Rattle.std.specs.Prelude.{fold}
use Rattle.mpt_route.specs.Routes.{routes_after}
use Rattle.mpt_route.specs.Pins.{HasPins, IsLowsOf}
use Rattle.mpt_route.proofs.routing.answers_by.Given as goal

abbrev pub invariant-loop-e : goal.invariant-loop-e
invariant-loop-e l = record {
  found : l.answers.items ≡ fold (routes_after l.p l.elcr) [] (take l.e-index l.e-items);
  count : length l.answers.items ≡ l.e-index;
  pins : HasPins l.lows;
  lows : IsLowsOf l.lows l.answers.items;
}
