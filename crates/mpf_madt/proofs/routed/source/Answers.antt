use Rattle.std.proofs.Common.{sym, ◌∙◌, arith}
use Rattle.mpf_madt.specs.Lines.{source_by}
use Rattle.mpf_madt.proofs.FirstLemmas.{first_some-finds, first_some-passes, none_of}
use Rattle.mpf_madt.proofs.routed.source.Goals as goal

pub returns-in-Some : goal.returns-in-Some
returns-in-Some c =
    sym (first_some-finds (source_by c.args.p.now c.args.irq) c.args.answers.now c.loop-answer.answer-index _ c.in-Some.line (omega (arith, c.loop-answer-test.true)) c.loop-answer.invariant (sym c.source_by.ensures ∙ c.in-Some.is))

pub loop-answer-preserved : goal.loop-answer-preserved
loop-answer-preserved c =
    first_some-passes (source_by c.args.p.now c.args.irq) c.args.answers.now c.loop-answer.answer-index _ (omega (arith, c.loop-answer-test.true)) c.loop-answer.invariant (sym c.source_by.ensures ∙ none_of c.source_by.result c.in_default.not-Some)
