use Rattle.std.proofs.Common.{◌&&◌, ℕ, List, filter, ap, sym, ◌∙◌}
use Rattle.mpb_spec.specs.Numbers.{has}
use Rattle.mpb_setup.specs.Board.{all_ids, is_present}
use Rattle.mpb_setup.proofs.ListLemmas.{filter-grows, filter-stays, filter-all}
use Rattle.mpb_setup.proofs.ids.board_ids.Goals as goal
use Rattle.mpb_setup.proofs.ids.board_ids.Goals.{then-is_on_board+in-Ok, else-is_on_board}

pub loop-n-preserved : goal.loop-n-preserved
loop-n-preserved c =
    let f = λ (id : ℕ). has id c.args.enabled.now && is_present c.args.s.now.present id in
    elim c.if-is_on_board.branch [
      | then-is_on_board+in-Ok w ↦ filter-grows f c.loop-n.n c.loop-n.ids.items c.if-is_on_board.ids.items (sym c.is_on_board.ensures ∙ w.if-is_on_board.true) (ap (λ v. v.items) w.ids-is ∙ w.in-Ok.ensures.items) c.loop-n.invariant
      | else-is_on_board w ↦ filter-stays f c.loop-n.n c.loop-n.ids.items c.if-is_on_board.ids.items (sym c.is_on_board.ensures ∙ w.if-is_on_board.false) (ap (λ v. v.items) w.ids-is) c.loop-n.invariant
    ]

pub returns : goal.returns
returns c =
    let f = λ (ids : List ℕ) (id : ℕ). has id ids && is_present c.args.s.now.present id in
    c.loop-n.invariant ∙ filter-all (f c.args.enabled.now) c.loop-n.n c.loop-n.auto.n-end c.loop-n-test.false ∙ ap (λ (ids : List ℕ). filter (f ids) all_ids) c.requires
