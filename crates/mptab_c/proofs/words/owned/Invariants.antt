use Rattle.std.proofs.Common.{◌≡◌, map, take}
use Rattle.mptab_walk.specs.Walk.{texts_of}
use Rattle.mptab_c.proofs.words.owned.Given as goal

abbrev pub invariant-loop-word : goal.invariant-loop-word
invariant-loop-word l = texts_of l.all.items ≡ map (λ word. word.now) (take l.word-index l.words)
