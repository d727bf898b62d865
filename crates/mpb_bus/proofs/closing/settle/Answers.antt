use Rattle.std.proofs.Common.{◌≡◌, ◌∙◌, sym, ap, subst, Some, All, Any}
use mathlib.Core.Option.{some-injective}
use Rattle.mpb_board.specs.BoardView.{BoardView}
use Rattle.mpb_bus.specs.Rule.{AgentFits}
use Rattle.mpb_bus.proofs.Ends.{settles, board_same}
use Rattle.mpb_bus.proofs.closing.settle.Goals as goal

pub unreachable-requires : goal.unreachable-requires
unreachable-requires c =
    let plan = c.args.words.shared.key.value.plan in
    let final = c.close_with-closed.ensures.values.2 in
    let end = settles plan final.0 final.1.0 c.args.all.id c.args.all.me.0 final.1.1 c.requires.all.0 c.requires.all.1 in
    let found = some-injective (Some end.board) c.take-slot.result (sym (final.4 0 (Some end.board) end.home) ∙ c.take-slot.ensures.value) in
    c.in_default.not-Some end.board (sym found)

pub returns-clause-plan : goal.returns-clause-plan
returns-clause-plan c =
    let plan = c.args.words.shared.key.value.plan in
    let final = c.close_with-closed.ensures.values.2 in
    let end = settles plan final.0 final.1.0 c.args.all.id c.args.all.me.0 final.1.1 c.requires.all.0 c.requires.all.1 in
    let found = some-injective (Some end.board) c.take-slot.result (sym (final.4 0 (Some end.board) end.home) ∙ c.take-slot.ensures.value) in
    let same = board_same end.board c.in-Some.board (found ∙ c.in-Some.is) in
    ap (λ (b : BoardView). b.plan) (sym same) ∙ end.plan

pub returns-clause-fits : goal.returns-clause-fits
returns-clause-fits c =
    let plan = c.args.words.shared.key.value.plan in
    let final = c.close_with-closed.ensures.values.2 in
    let end = settles plan final.0 final.1.0 c.args.all.id c.args.all.me.0 final.1.1 c.requires.all.0 c.requires.all.1 in
    let found = some-injective (Some end.board) c.take-slot.result (sym (final.4 0 (Some end.board) end.home) ∙ c.take-slot.ensures.value) in
    let same = board_same end.board c.in-Some.board (found ∙ c.in-Some.is) in
    subst (λ (b : BoardView). All (AgentFits b.plan b.journal) c.args.all.me.0.agents) same (subst (λ p. All (AgentFits p end.board.journal) c.args.all.me.0.agents) (sym end.plan) end.fits)

pub returns-clause-latest : goal.returns-clause-latest
returns-clause-latest c =
    let plan = c.args.words.shared.key.value.plan in
    let final = c.close_with-closed.ensures.values.2 in
    let end = settles plan final.0 final.1.0 c.args.all.id c.args.all.me.0 final.1.1 c.requires.all.0 c.requires.all.1 in
    let found = some-injective (Some end.board) c.take-slot.result (sym (final.4 0 (Some end.board) end.home) ∙ c.take-slot.ensures.value) in
    let same = board_same end.board c.in-Some.board (found ∙ c.in-Some.is) in
    subst (λ (b : BoardView). Any (λ a. a.seen ≡ b.journal) c.args.all.me.0.agents) same end.latest
