use Rattle.std.proofs.Common.{◌∙◌, ap, map, List, Option}
use Rattle.mpb_spec.specs.State.{Processor}
use Rattle.mpb_spec.specs.Delivery.{is_target, delivered_to, received, outcome_at, outcomes_at, unless_absent, byte_of}
use Rattle.mpb_spec.specs.Ranks.{rank_sought, is_chosen}
use Rattle.mpb_spec.proofs.Ranks.{Rank, chosen-targets, same-changes, same-kept}
use Rattle.mpb_machine.proofs.cpus.deliver_to.Goals as goal

pub returns-clause-state : goal.returns-clause-state
returns-clause-state c =
    let ps = c.args.cpus.now in
    let at = c.args.aim.at in
    c.deliver_to_chosen.ensures.state
    ∙ ap (λ (r : Option Rank). map (delivered_to c.args.warm (is_chosen at r) c.args.delivery) ps) c.rank_sought-rank.ensures
    ∙ same-changes (is_chosen at (rank_sought c.args.aim ps)) (is_target c.args.aim ps) (received c.args.warm c.args.delivery) ps (chosen-targets c.args.aim ps)

pub returns-clause-outcomes : goal.returns-clause-outcomes
returns-clause-outcomes c =
    let ps = c.args.cpus.now in
    let at = c.args.aim.at in
    c.deliver_to_chosen.ensures.outcomes
    ∙ ap (λ (r : Option Rank). outcomes_at c.args.warm (is_chosen at r) (byte_of at) c.args.delivery ps) c.rank_sought-rank.ensures
    ∙ ap (λ (l : List Processor). unless_absent (byte_of at) (map (outcome_at c.args.warm c.args.delivery) l)) (same-kept (is_chosen at (rank_sought c.args.aim ps)) (is_target c.args.aim ps) ps (chosen-targets c.args.aim ps))
