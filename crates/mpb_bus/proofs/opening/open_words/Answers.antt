use Rattle.std.proofs.Common.{rules, ◌≡◌, ◌*◌, sym, subst, [], ◌∷◌, Some, length, List, refl}
use Rattle.atomic_table.specs.Table.{opening}
use Rattle.mpb_board.specs.BoardView.{BoardView}
use Rattle.mpb_bus.specs.Rule.{IsKept, Slot, opening_view}
use Rattle.mpb_bus.proofs.Starts.{opens}
use Rattle.mpb_bus.proofs.opening.open_words.Goals as goal

pub new-requires : goal.new-requires
new-requires c =
    let b = c.args.board in
    let items : c.push.new.self.items ≡ Some b ∷ [] = search rules in
    subst (λ (x : BoardView). IsKept x.plan (opening (2 * length c.journal.result.now ∷ []) c.push.new.self.items (opening_view x.plan x.journal))) (sym c.of-start.ensures)
    (subst (λ (xs : List Slot). IsKept b.plan (opening (2 * length c.journal.result.now ∷ []) xs (opening_view b.plan b.journal))) (sym items)
    (subst (λ k. IsKept b.plan (opening (2 * length k ∷ []) (Some b ∷ []) (opening_view b.plan b.journal))) (sym c.journal.ensures.journal) (opens b.plan b refl c.requires)))
