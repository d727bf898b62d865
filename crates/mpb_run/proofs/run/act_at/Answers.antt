use Rattle.std.proofs.Common.{◌≡◌, ◌<◌, ℕ, arith}
use Rattle.mpb_spec.specs.declared.config.DevWord.TheVariants as word
use Rattle.mpb_run.proofs.ListLemmas.{word_is, end_is, past_is}
use Rattle.mpb_run.proofs.run.act_at.Goals as goal

some_made : (n : ℕ) → (n ≡ 0 → ⊥) → 0 < n
some_made n ne = omega arith

pub returns-then-made-words : goal.returns-then-made-words
returns-then-made-words c = word_is c.args.words.now c.args.made (word.Pulse 0 0) (some_made c.args.made c.if-made-eq0.false) c.if-made-words.true

pub returns-then-made-words-2 : goal.returns-then-made-words-2
returns-then-made-words-2 c = end_is c.args.words.now c.args.made (some_made c.args.made c.if-made-eq0.false) c.if-made-words-2.true

pub returns-else-made-words-2 : goal.returns-else-made-words-2
returns-else-made-words-2 c = past_is c.args.words.now c.args.made (some_made c.args.made c.if-made-eq0.false) (let l = c.if-made-words.false in let n = c.if-made-words-2.false in omega arith)
