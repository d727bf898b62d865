use Rattle.mpt_base.proofs.AppendLemmas.{appended_more, appended_all}
use Rattle.mpb_report_spec.specs.EntryLines.{further_outcome}
use Rattle.mpb_report.proofs.entry_lines.push_outcomes.Goals as goal

pub loop-outcome-preserved : goal.loop-outcome-preserved
loop-outcome-preserved c = appended_more further_outcome c.args.outcomes.now c.loop-outcome.outcome-index _ c.args.out.now.items _ _ c.loop-outcome-test.true c.loop-outcome.invariant c.in_default.ensures

pub returns : goal.returns
returns c = appended_all further_outcome c.args.outcomes.now c.loop-outcome.outcome-index c.args.out.now.items _ c.loop-outcome-test.false c.loop-outcome.invariant
