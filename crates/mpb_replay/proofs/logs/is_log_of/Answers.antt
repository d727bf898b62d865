use Rattle.std.proofs.Common.{◌+◌, ℕ, length, refl, sym, subst}
use Rattle.std.proofs.lemmas.List.{length-map}
use Rattle.mpb_spec.specs.declared.pulse.Pulse.{Pulse}
use Rattle.mpb_spec.specs.declared.pulse.Hit.{Hit}
use Rattle.mpb_spec.specs.Pulses.{pulses_of}
use Rattle.mpb_replay.proofs.LogLemmas.{IsAlong, off, on, past, at_end}
use Rattle.mpb_replay.proofs.logs.is_log_of.Goals as goal
use Rattle.mpb_replay.proofs.logs.is_log_of.Goals.{in-Some+else-not-has_pulse, in_default}

pub returns-then-not-has_pulse : goal.returns-then-not-has_pulse
returns-then-not-has_pulse c = off (pulses_of c.args.log.now) c.args.words.now c.loop-word.count c.loop-word.word-index _ c.in-Some.pulse c.loop-word.invariant c.loop-word-test.true c.in-Some.ensures c.if-not-has_pulse.ensures

pub loop-word-preserved : goal.loop-word-preserved
loop-word-preserved c =
    let ps = pulses_of c.args.log.now in
    let ws = c.args.words.now in
    let i = c.loop-word.word-index in
    elim c.match-pulse_of.branch [
      | in-Some+else-not-has_pulse w ↦ subst (λ (k : ℕ). IsAlong ps ws k (i + 1)) (sym w.count-is) (on ps ws c.loop-word.count i _ w.in-Some.pulse c.loop-word.invariant c.loop-word-test.true w.in-Some.ensures w.if-not-has_pulse.ensures)
      | in_default w ↦ subst (λ (k : ℕ). IsAlong ps ws k (i + 1)) (sym w.count-is) (past ps ws c.loop-word.count i _ c.loop-word.invariant c.loop-word-test.true w.in_default.ensures)
    ]

pub returns : goal.returns
returns c = at_end (pulses_of c.args.log.now) c.args.words.now c.loop-word.count c.loop-word.word-index (length c.args.log.now) _ c.loop-word.invariant c.loop-word-test.false (sym (length-map c.args.log.now (λ (x : Pulse × Hit). x.0))) refl
