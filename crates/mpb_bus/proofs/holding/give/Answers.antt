use Rattle.std.proofs.Common.{arith, ◌≡◌, ◌∙◌, ◌*◌, sym, ap, subst, [], ◌∷◌, Some, length}
use mathlib.Core.Option.{none}
use Rattle.atomic_table.specs.Table.{Allows, step, rest}
use Rattle.mpb_bus.specs.Rule.{agent_of, holding, IsKept, Gives, Sat}
use Rattle.mpb_bus.proofs.Gives.{gives_allowed}
use Rattle.mpb_bus.proofs.holding.give.Goals as goal

pub store-requires : goal.store-requires
store-requires c =
    let plan = c.args.words.now.shared.key.value.plan in
    let slots = c.args.words.now.shared.table_id.slots in
    let a = agent_of c.args.seat.now.me.0 in
    let board = c.args.board in
    let new = 2 * length c.journal.result.now in
    let e = c.exchange.ensures in
    let me_is : c.exchange.new.seat.me ≡ (holding a, (0, Some board) ∷ []) = e.3 ∙ ap (λ (m : Sat). (m.0, (0, Some board) ∷ rest m.1)) c.requires.holds in (
      e.0 ∙ c.requires.words.1,
      (let w = c.requires.words.0 in omega arith),
      subst (λ m. Allows (IsKept plan) slots c.exchange.new.seat.id m 0 (λ _. new) (λ _. Gives (step slots 0 new 0 none) m new)) (sym me_is)
          (gives_allowed plan slots c.exchange.new.seat.id a board new c.requires.board.0 c.requires.board.1 (ap (λ l. 2 * length l) c.journal.ensures.journal)),
    )
