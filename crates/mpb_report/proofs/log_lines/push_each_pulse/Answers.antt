use Rattle.mpt_base.proofs.AppendLemmas.{appended_more, appended_all}
use Rattle.mpb_report_spec.specs.LogLines.{pulse_text}
use Rattle.mpb_report.proofs.log_lines.push_each_pulse.Goals as goal

pub loop-pulse-preserved : goal.loop-pulse-preserved
loop-pulse-preserved c = appended_more pulse_text c.args.log.now c.loop-pulse.pulse-index _ c.args.out.now.items _ _ c.loop-pulse-test.true c.loop-pulse.invariant c.in_default.ensures

pub returns : goal.returns
returns c = appended_all pulse_text c.args.log.now c.loop-pulse.pulse-index c.args.out.now.items _ c.loop-pulse-test.false c.loop-pulse.invariant
