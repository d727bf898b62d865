use Rattle.mpb_spec.specs.Pulses.{logs_of}
use Rattle.mpb_boot.proofs.ReportLemmas.{traced, whole, booted}
use Rattle.mpb_boot.proofs.reports.trace.Goals as goal

pub returns-in-Ok : goal.returns-in-Ok
returns-in-Ok c =
    let config = c.args.config in
    let b = c.in-Ok.ran.board in
    let logs = logs_of c.in-Ok.ran.account in
    record {
      trace = traced config b.plan b.journal logs c.in-Ok.ensures.plan c.report_text.result c.report_text.ensures.text c.in-Ok.ensures.robin;
      run = whole config b.plan b.journal logs c.in-Ok.ensures.plan c.in-Ok.ensures.complete c.in-Ok.ensures.accounts c.in-Ok.ensures.started c.report_text.result c.report_text.ensures.text;
      boot = booted config b.plan b.journal logs c.in-Ok.ensures.plan c.in-Ok.ensures.complete c.in-Ok.ensures.accounts c.in-Ok.ensures.started c.report_text.result c.report_text.ensures.text;
    }
