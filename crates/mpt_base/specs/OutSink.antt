-- What the sink over the standard output tells: how many calls failed, and no contents.
use Rattle.std.specs.Prelude.{ℕ, List, Option, None}
use Rattle.mpt_base.specs.Count.{next_count}

-- how many calls failed
pub record SinkCounts : Type 0 where
  pub faults : ℕ

-- the bytes of a sink that tells none
abbrev pub untold_bytes : Option (List ℕ)
untold_bytes = None

-- the counts of a sink to which nothing has happened
abbrev pub no_sink_counts : SinkCounts
no_sink_counts = record { faults = 0 }

-- the counts after a call that failed
abbrev pub counting_refusal : SinkCounts → SinkCounts
counting_refusal counts = record { faults = next_count counts.faults }
