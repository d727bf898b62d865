use Rattle.std.proofs.Common.{ℕ, List, replicate, ap, ◌∙◌}
use Rattle.mpb_ioapic.specs.Signs.{pins_of}
use Rattle.mpb_ioapic.proofs.RowLemmas.{pins_of-masked}
use Rattle.mpb_ioapic.proofs.pins.Pins.masked.Goals as goal

pub returns : goal.returns
returns c = ap (λ (rows : List ℕ). pins_of rows (replicate 24 (record { low = 65536; high = 0 }))) c.none.ensures.empty ∙ pins_of-masked
