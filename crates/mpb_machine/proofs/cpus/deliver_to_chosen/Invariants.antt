use Rattle.std.proofs.Common.{◌≡◌, ◌≤◌, ◌++◌, map, take, drop, filter, length}
use Rattle.mpb_spec.specs.Delivery.{outcome_at, delivered_to}
use Rattle.mpb_spec.specs.Ranks.{is_chosen}
use Rattle.mpb_machine.proofs.cpus.deliver_to_chosen.Given as goal

-- the processors before this one have the message, and their outcomes are told
abbrev pub invariant-loop-cpu : goal.invariant-loop-cpu
invariant-loop-cpu l = record {
  cpus : l.cpus ≡ map (delivered_to l.warm (is_chosen l.to l.rank) l.delivery) (take l.cpu-index l.initial.cpus) ++ drop l.cpu-index l.initial.cpus;
  outcomes : l.outcomes.items ≡ map (outcome_at l.warm l.delivery) (filter (is_chosen l.to l.rank) (take l.cpu-index l.initial.cpus));
  count : length l.outcomes.items ≤ l.cpu-index;
}
