use Rattle.std.proofs.Common.{sym, ap, ◌∙◌}
use Rattle.std.proofs.lemmas.List.Folds.{list_any_at}
use Rattle.std.specs.List.{list_any}
use Rattle.mpb_setup.specs.Faults.{is_word_at}
use Rattle.mpb_setup.proofs.PushLemmas.{none_passes}
use Rattle.mpb_setup.proofs.faults.is_some_device_at.Goals as goal

pub loop-words-preserved : goal.loop-words-preserved
loop-words-preserved c = none_passes (list_any (is_word_at c.args.place)) c.args.devices.now c.loop-words.words-index c.words-item.result c.loop-words-test.true (sym (c.is_some_word_at.ensures ∙ ap (list_any (is_word_at c.args.place)) (c.as_slice.ensures ∙ c.words-item.is)) ∙ c.if-is_some_word_at.false) c.loop-words.invariant

pub returns-then-is_some_word_at : goal.returns-then-is_some_word_at
returns-then-is_some_word_at c = sym (list_any_at (list_any (is_word_at c.args.place)) c.args.devices.now c.loop-words.words-index c.words-item.result c.loop-words-test.true (sym (c.is_some_word_at.ensures ∙ ap (list_any (is_word_at c.args.place)) (c.as_slice.ensures ∙ c.words-item.is)) ∙ c.if-is_some_word_at.true))
