use Rattle.mpb_spec.specs.Pulses.{logs_of}
use Rattle.mpb_boot.proofs.ReportLemmas.{whole, booted}
use Rattle.mpb_boot.proofs.reports.boot.Goals as goal

pub returns-in-Ok : goal.returns-in-Ok
returns-in-Ok g c =
    let config = c.args.config in
    let b = c.in-Ok.ran.board in
    let logs = logs_of c.in-Ok.ran.account in
    record {
      run = whole config b.plan b.journal logs c.in-Ok.ensures.plan c.in-Ok.ensures.complete c.in-Ok.ensures.accounts c.in-Ok.ensures.started c.report_text.result c.report_text.ensures.text;
      boot = booted config b.plan b.journal logs c.in-Ok.ensures.plan c.in-Ok.ensures.complete c.in-Ok.ensures.accounts c.in-Ok.ensures.started c.report_text.result c.report_text.ensures.text;
    }
