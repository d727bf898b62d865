use Rattle.std.proofs.Common.{◌≡◌, length}
use Rattle.mpb_bus_rows.proofs.beside.stay_quiet.Given as goal

abbrev pub invariant-loop : goal.invariant-loop
invariant-loop g l = (length l.plain.pins ≡ length l.initial.plain.pins) × (l.plain.devices ≡ l.initial.plain.devices) × (l.plain.ended ≡ l.initial.plain.ended) × (l.col.latch ≡ l.initial.col.latch) × (l.col.io ≡ l.initial.col.io)
