use Rattle.std.proofs.Common.{◌∙◌, sym, ap, ◌∷◌, Some}
use Rattle.atomic_table.specs.Table.{rest}
use Rattle.mpb_bus.proofs.holding.take.Goals as goal

pub exchange-requires : goal.exchange-requires
exchange-requires g c =
    let t = c.win.ensures.took in
    (c.win.ensures.seat ∙ c.requires.words.1, (Some t.board, ap (λ m. m.1) t.sat ∙ ap (λ l. (0, Some t.board) ∷ l) (sym (ap (λ m. rest m.1) t.sat))))
