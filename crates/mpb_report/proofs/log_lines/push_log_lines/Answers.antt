use Rattle.std.proofs.Common.{◌≡◌, ◌++◌, take, ap, sym, ◌∙◌}
use Rattle.std.proofs.lemmas.List.{take_all}
use Rattle.std.specs.List.{concat}
use Rattle.mpb_report_spec.specs.Numbered.{numbered}
use Rattle.mpb_report_spec.specs.LogLines.{log_line}
use Rattle.mpb_report.proofs.LineLemmas.{numbered_more, numbered_map}
use Rattle.mpb_report.proofs.log_lines.push_log_lines.Goals as goal

pub loop-number-preserved : goal.loop-number-preserved
loop-number-preserved c =
    let out = c.args.out.now.items in
    let logs = c.args.logs.now in
    let n = c.loop-number.number in
    c.in_default.ensures
    ∙ ap (λ t. t ++ log_line n c.as_slice.result.now) c.loop-number.invariant
    ∙ ap (λ log. (out ++ concat (numbered (λ k l. log_line k l.items) 0 (take n logs))) ++ log_line n log) (c.as_slice.ensures.value ∙ ap (λ l. l.items) c.index-logs-number.is)
    ∙ numbered_more out (λ k l. log_line k l.items) logs n c.index-logs-number.result c.loop-number-test.true

pub returns : goal.returns
returns c =
    let out = c.args.out.now.items in
    let logs = c.args.logs.now in
    let whole : take c.loop-number.number logs ≡ logs = take_all c.loop-number.number logs c.loop-number-test.false in
    c.loop-number.invariant
    ∙ ap (λ ls. out ++ concat (numbered (λ k l. log_line k l.items) 0 ls)) whole
    ∙ ap (λ t. out ++ concat t) (sym (numbered_map log_line (λ l. l.items) 0 logs))
