use Rattle.std.proofs.Common.{ℕ, ◌+◌, ◌≤◌, refl, subst}
use Rattle.mpt_parse.specs.Listings.{IsFirstBadLine}
use Rattle.mpb_report_parse.specs.Reports.{IsReport, IsReportOf}
use Rattle.mptab_walk.specs.Forms.{Report}
use Rattle.mptab_walk.specs.Ending.{shelves_of}
use Rattle.mptab_walk.specs.Limited.{RefusesReport}
use Rattle.mptab_walk.proofs.LimitedLemmas.{held-taken, held-ended, held-read, most_within-most}
use Rattle.mptab_walk.proofs.report.take_report.Goals as goal

pub returns-in-Ok-clause-report : goal.returns-in-Ok-clause-report
returns-in-Ok-clause-report g c = held-taken (g.S.Shelf.files c.args.shelf.now) (Report c.args.name.now) c.in-Ok.bytes.items c.in-Ok.ensures.bytes c.report_in.result (λ r text. IsReportOf r text) (rw c.as_slice.ensures.value at c.report_in.ensures.report)

pub returns-in-Ok-clause-ends : goal.returns-in-Ok-clause-ends
returns-in-Ok-clause-ends g c =
    held-ended (g.S.Shelf.files c.args.shelf.now) (Report c.args.name.now) c.in-Ok.bytes.items c.in-Ok.ensures.bytes c.report_in.result (shelves_of g.S.Shelf c.args.shelf.now c.take_bytes.new.shelf) (RefusesReport c.in-Ok.bytes.items) c.in-Ok.ensures.quiet
    (λ status text h. (h.0, h.1, h.2, held-read (g.S.Shelf.files c.args.shelf.now) (Report c.args.name.now) c.in-Ok.bytes.items c.in-Ok.ensures.bytes (λ report. IsFirstBadLine IsReport report h.1 h.2) h.3, h.4)) (rw c.as_slice.ensures.value at c.report_in.ensures.refused)

pub returns-in-Err-clause-ends : goal.returns-in-Err-clause-ends
returns-in-Err-clause-ends g c = c.in-Err.ensures.ends (Report c.args.name.now) refl refl

pub returns-in-Ok-clause-asks : goal.returns-in-Ok-clause-asks
returns-in-Ok-clause-asks g c = subst (λ (n : ℕ). g.S.Shelf.asked c.take_bytes.new.shelf ≤ g.S.Shelf.asked c.args.shelf.now + n) (most_within-most (g.S.Shelf.files c.args.shelf.now) (Report c.args.name.now) (λ n. refl)) c.in-Ok.ensures.asks

pub returns-in-Err-clause-asks : goal.returns-in-Err-clause-asks
returns-in-Err-clause-asks g c = subst (λ (n : ℕ). g.S.Shelf.asked c.take_bytes.new.shelf ≤ g.S.Shelf.asked c.args.shelf.now + n) (most_within-most (g.S.Shelf.files c.args.shelf.now) (Report c.args.name.now) (λ n. refl)) c.in-Err.ensures.asks
