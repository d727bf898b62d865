use Rattle.std.proofs.Common.{◌≡◌, map, take}
use Rattle.mpb_setup.proofs.programs.device_words.Given as goal

abbrev pub invariant-loop-words : goal.invariant-loop-words
invariant-loop-words l = map (λ w. w.items) l.copies.items ≡ take l.words-index l.devices
