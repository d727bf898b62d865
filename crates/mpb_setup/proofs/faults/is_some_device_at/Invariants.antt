use Rattle.std.proofs.Common.{◌≡◌, false, take}
use Rattle.std.specs.List.{list_any}
use Rattle.mpb_setup.specs.Faults.{is_word_at}
use Rattle.mpb_setup.proofs.faults.is_some_device_at.Given as goal

abbrev pub invariant-loop-words : goal.invariant-loop-words
invariant-loop-words l = list_any (list_any (is_word_at l.place)) (take l.words-index l.devices) ≡ false
