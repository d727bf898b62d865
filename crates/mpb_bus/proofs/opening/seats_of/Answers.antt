use Rattle.std.proofs.Common.{◌++◌, ◌∷◌, [], List, map, take, take_all, get_or, sym, ap, ◌∙◌, arith}
use Rattle.std.proofs.lemmas.List.{length-map, get_or_default, take-map}
use Rattle.mpb_spec.specs.declared.agent.Agent.TheVariants.{Cpu}
use Rattle.mpb_bus.specs.declared.view.AgentView.{AgentView}
use Rattle.mpb_bus.specs.Seats.{AgentSeat, fresh_seat}
use Rattle.mpb_bus.specs.Rule.{Sat, fresh_agent, no_agent, shown_agent}
use Rattle.mpb_spec.specs.Lists.{rest_of}
use Rattle.mpb_spec.proofs.Lists.{map_one_more, first_of_rest, rest_of_rest}
use Rattle.mpb_bus.proofs.opening.seats_of.Goals as goal

pub loop-agent-preserved : goal.loop-agent-preserved
loop-agent-preserved c =
    let agents = c.args.agents.now in
    let i = c.loop-agent.agent-index in
    let agent = get_or agents i (Cpu 0) in
    let start = c.args.words.now.shared.key.value in
    let bus = c.args.words.now.shared.table_id in
    let fresh = fresh_agent start.plan start.journal in
    let inv = c.loop-agent.invariant in
    let t = c.loop-agent-test.true in
    let here = get_or_default agents i (Cpu 0) agent t in
    let cut = c.cut_agent-seat.ensures in
    let first = ap (λ l. get_or l 0 no_agent) inv.2 ∙ first_of_rest fresh agents i agent no_agent t here in
    let seat = cut.seat ∙ ap (λ (a : AgentView). shown_agent c.loop-agent.all.table_id a) first ∙ ap (λ z. shown_agent z (fresh agent)) inv.0 in (
      cut.left.0 ∙ inv.0,
      ap (λ (m : Sat). m.0.holds) cut.left.1,
      ap (λ (m : Sat). m.0.agents) cut.left.1
          ∙ ap (λ l. rest_of l) inv.2
          ∙ rest_of_rest (map fresh agents) i no_agent (let n = length-map agents fresh in omega arith),
      c.in-Ok-push.ensures.items
          ∙ ap (λ (l : List AgentSeat). l ++ c.cut_agent-seat.result ∷ []) inv.3
          ∙ ap (λ (s : AgentSeat). take i (map (fresh_seat bus start.plan start.journal) agents) ++ s ∷ []) seat
          ∙ sym (map_one_more (fresh_seat bus start.plan start.journal) agents i agent t here),
    )

pub returns : goal.returns
returns c =
    let agents = c.args.agents.now in
    let i = c.loop-agent.agent-index in
    let start = c.args.words.now.shared.key.value in
    let seat = fresh_seat c.args.words.now.shared.table_id start.plan start.journal in
    c.loop-agent.invariant.3 ∙ take-map seat i agents ∙ ap (map seat) (take_all i agents c.loop-agent-test.false)
