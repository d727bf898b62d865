use Rattle.std.proofs.Common.{length, sym, ap, ◌∙◌}
use Rattle.mpb_ioapic.proofs.RowLemmas.{length-pins_of}
use Rattle.mpb_ioapic.proofs.pins.Pins.len.Goals as goal

pub returns-clause-count : goal.returns-clause-count
returns-clause-count c = sym (length-pins_of c.self.inside.rows c.self.inside.redirections) ∙ ap length c.self.view_is
