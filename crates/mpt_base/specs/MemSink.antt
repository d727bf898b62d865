-- What a sink in memory is to its callers, and what its calls do to it.
use Rattle.std.specs.Prelude.{ℕ, ◌+◌, ◌<◌, ◌⊎◌, List, [], ◌∷◌, ◌++◌, length, Contains}
use Rattle.mpt_base.specs.Count.{next_count}

-- the bytes that were written and the room for them, the numbers of the calls that fail, how many calls there were, and how many of them failed
pub record SinkState : Type 0 where
  pub written : List ℕ
  pub room : ℕ
  pub failing : List ℕ
  pub calls : ℕ
  pub faults : ℕ

-- a sink with that room to which nothing has happened
abbrev pub empty_sink : ℕ → SinkState
empty_sink room = record { written = []; room = room; failing = []; calls = 0; faults = 0 }

-- the next call fails with this piece: its number was added, or the piece passes the room that is left
abbrev pub IsRefused : SinkState → List ℕ → Type 0
IsRefused sink piece = Contains sink.failing (next_count sink.calls) ⊎ (sink.room < length sink.written + length piece)

-- the sink after a call that took the piece
abbrev pub after_piece : SinkState → List ℕ → SinkState
after_piece sink piece = record sink { written = sink.written ++ piece; calls = next_count sink.calls }

-- the sink after a call that failed
abbrev pub after_refusal : SinkState → SinkState
after_refusal sink = record sink { calls = next_count sink.calls; faults = next_count sink.faults }

-- the sink after a further call number that fails
abbrev pub with_failing_put : SinkState → ℕ → SinkState
with_failing_put sink call = record sink { failing = sink.failing ++ call ∷ [] }
