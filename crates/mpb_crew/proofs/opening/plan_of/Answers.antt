use Rattle.std.proofs.Common.{◌∙◌, ap, slice_index_or, take_all}
use Rattle.std.proofs.lemmas.List.{get_or_default}
use Rattle.mpb_spec.specs.declared.config.DevWord.{DevWord}
use Rattle.mpb_spec.specs.declared.config.DevWord.TheVariants.{Pulse}
use Rattle.mpb_spec.specs.Pulses.{pulses_in}
use Rattle.mpb_crew.proofs.Opened.{word_more}
use Rattle.mpb_crew.proofs.opening.plan_of.Goals as goal

pub loop-word-preserved : goal.loop-word-preserved
loop-word-preserved c =
    let words = c.args.words.now in
    let i = c.loop-word.word-index in
    let w : DevWord = slice_index_or words i (Pulse 0 0) in
    word_more words i w c.loop-word.plan.items c.push_pulse.new.plan.items c.loop-word-test.true (get_or_default words i (Pulse 0 0) w c.loop-word-test.true) c.loop-word.invariant c.in_default.ensures

pub returns : goal.returns
returns c = c.loop-word.invariant ∙ ap pulses_in (take_all c.loop-word.word-index c.args.words.now c.loop-word-test.false)
