use Rattle.std.proofs.Common.{sym, ◌∙◌}
use Rattle.std.proofs.lemmas.List.Folds.{list_any_at}
use Rattle.mpb_setup.specs.Faults.{is_word_at}
use Rattle.mpb_setup.proofs.PushLemmas.{none_passes}
use Rattle.mpb_setup.proofs.faults.is_some_word_at.Goals as goal

pub loop-word-preserved : goal.loop-word-preserved
loop-word-preserved c = none_passes (is_word_at c.args.place) c.args.words.now c.loop-word.word-index _ c.loop-word-test.true (sym c.is_word_at.ensures ∙ c.if-is_word_at.false) c.loop-word.invariant

pub returns-then-is_word_at : goal.returns-then-is_word_at
returns-then-is_word_at c = sym (list_any_at (is_word_at c.args.place) c.args.words.now c.loop-word.word-index _ c.loop-word-test.true (sym c.is_word_at.ensures ∙ c.if-is_word_at.true))
