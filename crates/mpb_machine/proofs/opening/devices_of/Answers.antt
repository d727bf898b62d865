use Rattle.std.proofs.Common.{map, take_all, ap, ◌∙◌}
use Rattle.mpb_spec.specs.Plan.{first_device}
use Rattle.mpb_machine.proofs.Made.{mapped_pushed}
use Rattle.mpb_machine.proofs.opening.devices_of.Goals as goal

pub loop-words-preserved : goal.loop-words-preserved
loop-words-preserved c =
    mapped_pushed first_device (λ w. w.items) c.loop-words.devices.items _ c.args.list.now c.loop-words.words-index c.words-item.result _ c.loop-words-test.true
    (c.in-Ok.ensures ∙ ap first_device (c.as_slice.ensures.value ∙ ap (λ w. w.items) c.words-item.is)) c.in-Ok-push.ensures.items c.loop-words.invariant

pub returns : goal.returns
returns c =
    c.loop-words.invariant ∙ ap (λ xs. map first_device (map (λ w. w.items) xs)) (take_all c.loop-words.words-index c.args.list.now c.loop-words-test.false)
