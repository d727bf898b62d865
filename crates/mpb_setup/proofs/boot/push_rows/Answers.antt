use Rattle.std.proofs.Common.{◌++◌, ap, ◌∙◌}
use Rattle.std.proofs.lemmas.List.{take_all}
use Rattle.std.specs.List.{flat_map}
use Rattle.mpb_setup.specs.Steps.{HasPin}
use Rattle.mpb_setup.proofs.ListLemmas.{all-at}
use Rattle.mpb_setup.specs.Boot.{row_ops}
use Rattle.mpb_setup.proofs.PushLemmas.{flat_map_pushed}
use Rattle.mpb_setup.proofs.boot.push_rows.Goals as goal

pub loop-answer-preserved : goal.loop-answer-preserved
loop-answer-preserved c = flat_map_pushed row_ops c.args.ops.now.items c.loop-answer.ops.items _ c.args.answers.now c.loop-answer.answer-index _ c.loop-answer-test.true c.in_default.ensures c.loop-answer.invariant

pub push_row-requires : goal.push_row-requires
push_row-requires c = all-at HasPin c.args.answers.now c.loop-answer.answer-index _ c.requires c.loop-answer-test.true

pub returns : goal.returns
returns c = c.loop-answer.invariant ∙ ap (λ xs. c.args.ops.now.items ++ flat_map row_ops xs) (take_all c.loop-answer.answer-index c.args.answers.now c.loop-answer-test.false)
