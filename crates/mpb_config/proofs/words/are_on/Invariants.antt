use Rattle.std.proofs.Common.{◌≡◌, true, take}
use Rattle.std.specs.List.{list_all}
use Rattle.mpb_config.specs.ConfigTests.{is_word_on}
use Rattle.mpb_config.proofs.words.are_on.Given as goal

abbrev pub invariant-loop-word : goal.invariant-loop-word
invariant-loop-word l = list_all (is_word_on l.ios) (take l.word-index l.words) ≡ true
