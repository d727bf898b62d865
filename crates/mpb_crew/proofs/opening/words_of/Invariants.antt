use Rattle.std.proofs.Common.{◌≡◌, map, take}
use Rattle.mpb_crew.proofs.opening.words_of.Given as goal

abbrev pub invariant-loop-words : goal.invariant-loop-words
invariant-loop-words l = map (λ p. p.items) l.copy.items ≡ take l.words-index (map (λ p. p.items) l.devices)
