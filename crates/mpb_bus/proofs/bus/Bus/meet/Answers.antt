use Rattle.std.proofs.Common.{◌≡◌, ◌∙◌, ◌∷◌, All, [], arith, sym, ap, subst}
use Rattle.atomic_table.specs.Table.{Splits, Joins}
use Rattle.mpb_bus.specs.declared.view.AgentView.{AgentView}
use Rattle.mpb_bus.specs.declared.view.SeatView.{SeatView}
use Rattle.mpb_spec.specs.Agents.{IsPrefix}
use Rattle.mpb_bus.specs.Rule.{Sat, agent_of, hearing, heard, nobody, telling, IsKept}
use Rattle.mpb_bus.proofs.Journals.{prefixes_order}
use Rattle.mpb_bus.proofs.Moves.{hears, tells_seen}
use Rattle.mpb_bus.proofs.bus.Bus.meet.Goals as goal

pub split_seat-told-requires : goal.split_seat-told-requires
split_seat-told-requires g c =
    let plan = c.self.inside.words.shared.key.value.plan in
    let one = c.one.inside.seat in (
      ap (λ s. s.bus) c.one.view_is ∙ c.requires.one ∙ sym (ap (λ b. b.bus) c.self.view_is),
      (let w = c.self.invariant.0 in omega arith),
      subst (λ (m : Sat). Splits (IsKept plan) one.id m.0 m.0 (telling m.0)) (sym c.one.invariant.0) (tells_seen plan one.id (agent_of one.me.0)),
    )

pub join_seat-requires : goal.join_seat-requires
join_seat-requires g c =
    let plan = c.self.inside.words.shared.key.value.plan in
    let one = c.one.inside.seat in
    let two = c.two.inside.seat in
    let told = c.split_seat-told.result in
    let e = c.split_seat-told.ensures in
    let seen = (agent_of one.me.0).seen ∷ [] in
    let words_one = ap (λ s. s.bus) c.one.view_is ∙ c.requires.one ∙ sym (ap (λ b. b.bus) c.self.view_is) in (
      ap (λ s. s.bus) c.two.view_is ∙ c.requires.two ∙ sym (ap (λ b. b.bus) c.self.view_is),
      e.3 ∙ words_one,
      ap (λ m. m.1) e.4,
      (let w = c.self.invariant.0 in omega arith),
      subst (λ (x : SeatView × SeatView). Joins (IsKept plan) two.id x.0 told.id x.1 (heard x.0 x.1) nobody) (λ i. ((sym c.two.invariant.0 i).0, (sym e.4 i).0))
          (hears plan two.id told.id (agent_of two.me.0) seen),
    )

pub returns-clause-both : goal.returns-clause-both
returns-clause-both g c =
    let b = c.take-board.result in
    let two = agent_of c.two.inside.seat.me.0 in
    let seen = (agent_of c.one.inside.seat.me.0).seen ∷ [] in
    let joined : agent_of c.join_seat.new.seat.me.0 ≡ hearing seen two = ap (λ (m : Sat). agent_of m.0) c.join_seat.ensures.2 ∙ ap (λ (m : Sat). hearing m.0.told two) c.split_seat-told.ensures.4 in
    let now : (agent_of c.give.new.seat.me.0).seen ≡ b.journal = ap (λ (m : Sat). (agent_of m.0).seen) c.give.ensures.gave in
    let olds = subst (λ (x : AgentView). All (λ xs. IsPrefix xs b.journal) x.olds) joined c.take-board.ensures.fits.olds in
    subst (λ l. IsPrefix c.args.one.now.seen l × IsPrefix c.args.two.now.seen l) (sym now) (
      subst (λ l. IsPrefix l b.journal) (ap (λ s. s.seen) c.one.view_is) (olds 0 [] (omega arith)),
      subst (λ l. IsPrefix l b.journal) (ap (λ s. s.seen) c.two.view_is) (olds 1 [] (omega arith)),
    )

pub returns-clause-order : goal.returns-clause-order
returns-clause-order g c =
    let b = c.take-board.result in
    let two = agent_of c.two.inside.seat.me.0 in
    let seen = (agent_of c.one.inside.seat.me.0).seen ∷ [] in
    let joined : agent_of c.join_seat.new.seat.me.0 ≡ hearing seen two = ap (λ (m : Sat). agent_of m.0) c.join_seat.ensures.2 ∙ ap (λ (m : Sat). hearing m.0.told two) c.split_seat-told.ensures.4 in
    let olds = subst (λ (x : AgentView). All (λ xs. IsPrefix xs b.journal) x.olds) joined c.take-board.ensures.fits.olds in
    prefixes_order c.args.one.now.seen c.args.two.now.seen b.journal
    (subst (λ l. IsPrefix l b.journal) (ap (λ s. s.seen) c.one.view_is) (olds 0 [] (omega arith)))
    (subst (λ l. IsPrefix l b.journal) (ap (λ s. s.seen) c.two.view_is) (olds 1 [] (omega arith)))
