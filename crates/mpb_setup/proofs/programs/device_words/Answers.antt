use Rattle.std.proofs.Common.{◌∙◌}
use Rattle.std.proofs.lemmas.List.{take_all}
use Rattle.mpb_setup.proofs.PushLemmas.{shown_pushed}
use Rattle.mpb_setup.proofs.programs.device_words.Goals as goal

pub loop-words-preserved : goal.loop-words-preserved
loop-words-preserved c =
    shown_pushed (λ w. w.items) c.loop-words.copies.items _ c.in-Ok.copy c.args.devices.now c.loop-words.words-index c.words-item.result c.loop-words-test.true c.words-item.is
    (c.in-Ok.ensures.items ∙ c.as_slice.ensures) c.in-Ok-push.ensures.items c.loop-words.invariant

pub returns : goal.returns
returns c = c.loop-words.invariant ∙ take_all c.loop-words.words-index c.args.devices.now c.loop-words-test.false
