use Rattle.std.proofs.Common.{◌≡◌, false, take}
use Rattle.std.specs.List.{list_any}
use Rattle.mpb_setup.specs.Faults.{is_word_at}
use Rattle.mpb_setup.proofs.faults.is_some_word_at.Given as goal

abbrev pub invariant-loop-word : goal.invariant-loop-word
invariant-loop-word l = list_any (is_word_at l.place) (take l.word-index l.words) ≡ false
