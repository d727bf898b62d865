use Rattle.std.proofs.Common.{◌≡◌, ◌++◌, take}
use Rattle.std.specs.List.{flat_map}
use Rattle.mpb_report_spec.specs.LogLines.{pulse_text}
use Rattle.mpb_report.proofs.log_lines.push_each_pulse.Given as goal

abbrev pub invariant-loop-pulse : goal.invariant-loop-pulse
invariant-loop-pulse l = l.out.items ≡ l.initial.out.items ++ flat_map pulse_text (take l.pulse-index l.log)
