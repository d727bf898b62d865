use Rattle.std.proofs.Common.{ap, sym, ◌∙◌, Some}
use Rattle.mpb_spec.specs.Pulses.{pulses_of, pulses_in}
use Rattle.mpb_replay.proofs.PlaceLemmas.{got_one, got_two, got_none, got_none_two, both, left, right, neither}
use Rattle.mpb_replay.proofs.logs.is_log_right.Goals as goal

pub returns-in-Some-get : goal.returns-in-Some-get
returns-in-Some-get c =
    both c.is_log_of.result (pulses_of c.as_slice.result.now) (pulses_in c.as_slice-in-Some-get.result.now) _ _
    (got_one pulses_of c.args.number c.args.logs.now c.in-Some.log.now c.in-Some.ensures.lookup.3.0 c.in-Some.ensures.lookup.1 ∙ ap (λ l. Some (pulses_of l)) (sym c.as_slice.ensures))
    (got_two pulses_in (λ words. words.items) c.args.number c.args.devices.now c.in-Some-get.words.now c.in-Some-get.ensures.lookup.3.0 c.in-Some-get.ensures.lookup.1 ∙ ap (λ l. Some (pulses_in l)) (sym c.as_slice-in-Some-get.ensures.value))
    c.is_log_of.ensures

pub returns-in-None-get : goal.returns-in-None-get
returns-in-None-get c =
    left (pulses_of c.in-Some.log.now) _ _
    (got_one pulses_of c.args.number c.args.logs.now c.in-Some.log.now c.in-Some.ensures.lookup.3.0 c.in-Some.ensures.lookup.1)
    (got_none_two pulses_in (λ words. words.items) c.args.number c.args.devices.now c.in-None-get.ensures.lookup.0)

pub returns-in-Some-get-2 : goal.returns-in-Some-get-2
returns-in-Some-get-2 c =
    right (pulses_in c.in-Some-get-2.field-0.now.items) _ _ (got_none pulses_of c.args.number c.args.logs.now c.in-None.ensures.lookup.0)
    (got_two pulses_in (λ words. words.items) c.args.number c.args.devices.now c.in-Some-get-2.field-0.now c.in-Some-get-2.ensures.lookup.3.0 c.in-Some-get-2.ensures.lookup.1)

pub returns-in-None-get-2 : goal.returns-in-None-get-2
returns-in-None-get-2 c =
    neither _ _ (got_none pulses_of c.args.number c.args.logs.now c.in-None.ensures.lookup.0)
    (got_none_two pulses_in (λ words. words.items) c.args.number c.args.devices.now c.in-None-get-2.ensures.lookup.0)
