use Rattle.std.proofs.Common.{arith}
use Rattle.mpb_spec.specs.declared.config.DevWord.TheVariants.{Pulse}
use Rattle.mpb_machine.proofs.Made.{words_planned}
use Rattle.mpb_machine.proofs.opening.count_words.Goals as goal

pub loop-word-preserved : goal.loop-word-preserved
loop-word-preserved c = record {
  wide = c.count_word.ensures.wide;
  counts = λ k lt.
      let more = words_planned c.args.at k c.args.words.now c.loop-word.word-index (Pulse 0 0) c.loop-word-test.true in
      let now = c.count_word.ensures.counts k lt in
      let before = c.loop-word.invariant.counts k lt in
      omega (arith, more, now, before);
  most = λ k. let now = c.count_word.ensures.most k in let before = c.loop-word.invariant.most k in omega (arith, now, before);
}
