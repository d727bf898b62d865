use Rattle.mpb_spec.specs.Pulses.{pulses_of}
use Rattle.mpb_replay.proofs.LogLemmas.{IsAlong}
use Rattle.mpb_replay.proofs.logs.is_log_of.Given as goal

abbrev pub invariant-loop-word : goal.invariant-loop-word
invariant-loop-word l = IsAlong (pulses_of l.log) l.words l.count l.word-index
