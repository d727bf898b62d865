-- What the shelf over the operating system tells: its counts, and no contents.
use Rattle.std.specs.Prelude.{ℕ, Option, None}
use Rattle.mpt_base.specs.Count.{next_count, count_after}
use Rattle.mpt_base.specs.Outside.{Files}

-- how many calls failed, how many found no file, and how many bytes were asked for
pub record ShelfCounts : Type 0 where
  pub faults : ℕ
  pub misses : ℕ
  pub asked : ℕ

-- the files of a shelf that tells no contents
abbrev pub untold_files : Option Files
untold_files = None

-- the counts of a shelf to which nothing has happened
abbrev pub no_shelf_counts : ShelfCounts
no_shelf_counts = record { faults = 0; misses = 0; asked = 0 }

-- the counts after a call that failed
abbrev pub counting_fault : ShelfCounts → ShelfCounts
counting_fault counts = record counts { faults = next_count counts.faults }

-- the counts after a call that found no file
abbrev pub counting_miss : ShelfCounts → ShelfCounts
counting_miss counts = record counts { misses = next_count counts.misses }

-- the counts when n bytes have been asked for
abbrev pub counting_asked : ShelfCounts → ℕ → ShelfCounts
counting_asked counts n = record counts { asked = count_after counts.asked n }
