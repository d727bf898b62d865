use Rattle.std.proofs.Common.{◌≡◌, ◌≤◌, ◌+◌, ◌-◌, length}
use Rattle.mptab_walk.specs.File.{IsFilledTo}
use Rattle.mptab_walk.proofs.file.fill.Given as goal

abbrev pub invariant-loop-at : goal.invariant-loop-at
invariant-loop-at g l = record {
  files : g.S.Shelf.files l.shelf ≡ g.S.Shelf.files l.initial.shelf;
  misses : g.S.Shelf.misses l.shelf ≡ g.S.Shelf.misses l.initial.shelf;
  faults : g.S.Shelf.faults l.shelf ≡ g.S.Shelf.faults l.initial.shelf;
  asked : g.S.Shelf.asked l.shelf ≤ g.S.Shelf.asked l.initial.shelf + l.at;
  within : l.at ≤ length l.initial.buf;
  filled : IsFilledTo (g.S.Shelf.files l.initial.shelf) l.name l.at l.buf;
}

abbrev pub decreases-loop-at : goal.decreases-loop-at
decreases-loop-at g l = length l.buf - l.at
