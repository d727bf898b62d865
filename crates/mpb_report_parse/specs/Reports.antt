-- What texts are reports, and the first bad line of a text that is none.
--     HasReport r           the report has a text
--     lines_of r            its lines, the first to the last
--     IsReport              the lines are those of a report
--     IsReportOf r text     the text is that of the report
--     shown_report c journal logs   what the report of a run says
--     IsCauseOf text fault  the fault has its cause in the text
--     AnswersReport, AnswersLine    what the answer is, unless memory ran out
use Rattle.std.specs.Prelude.{◌≡◌, ℕ, ◌≤◌, List, [], ◌∷◌, ◌++◌, length, map, ⊤, Result, Ok, Err}
use Rattle.std.specs.List.{AllByRecursion, concat}
use Rattle.mpb_spec.specs.declared.entry.Entry.{Entry}
use Rattle.mpb_spec.specs.Numbers.{IsAscending}
use Rattle.mpb_spec.specs.IoApic.{mask_by}
use Rattle.mpb_spec.specs.Plan.{Plan}
use Rattle.mpb_spec.specs.State.{Processor, Place}
use Rattle.mpb_spec.specs.Journal.{final_state_of}
use Rattle.mpb_spec.specs.declared.pulse.Pulse.{Pulse}
use Rattle.mpb_spec.specs.declared.pulse.Hit.{Hit}
use Rattle.mpb_report_spec.specs.Numbered.{numbered}
use Rattle.mpb_report_spec.specs.EntryLines.{entry_line}
use Rattle.mpb_report_spec.specs.LogLines.{log_line}
use Rattle.mpb_report_spec.specs.StateLines.{members, imcr_line}
use Rattle.mpb_report_spec.specs.Report.{title_line, end_line}
use Rattle.mpb_report_line.specs.declared.report.CpuLine.{CpuLine}
use Rattle.mpb_report_line.specs.declared.report.IoLine.{IoLine}
use Rattle.mpb_report_line.specs.declared.report.Report.{Report}
use Rattle.mpb_report_line.specs.Lines.{entry_count_line, cpu_text, io_text}
use Rattle.mpb_report_line.specs.Values.{IsRightEntry, IsRightLog, IsRightCpu, IsRightIo}
use Rattle.mpt_parse.specs.declared.fault.LineWhy.{LineWhy}
use Rattle.mpt_parse.specs.Listings.{IsFirstBadLine}
use Rattle.mpb_report_parse.specs.declared.fault.ReportFault.{ReportFault}
use Rattle.mpb_report_parse.specs.declared.fault.ReportFault.TheVariants as fault

-- the report has a text: right entries, the logs of at most four devices, processors ascending by id, at most four I/O APICs
pub record HasReport (r : Report) : Type 0 where
  pub entries : AllByRecursion IsRightEntry r.entries
  pub logs : (length r.logs ≤ 4) × AllByRecursion IsRightLog r.logs
  pub cpus : IsAscending (map (λ p. p.id) r.cpus) × AllByRecursion IsRightCpu r.cpus
  pub ios : (length r.ios ≤ 4) × AllByRecursion IsRightIo r.ios

-- the lines of a report
abbrev pub lines_of : Report → List (List ℕ)
lines_of r =
    title_line ∷ entry_count_line (length r.entries) ∷ (numbered entry_line 0 r.entries
    ++ (numbered log_line 0 r.logs ++ (imcr_line r.imcr ∷ (map cpu_text r.cpus ++ (numbered io_text 0 r.ios ++ end_line ∷ [])))))

-- the lines are those of a report
abbrev pub IsReport : List (List ℕ) → Type 0
IsReport lines = (r : Report) × HasReport r × (lines ≡ lines_of r)

-- the text is that of the report
abbrev pub IsReportOf : Report → List ℕ → Type 0
IsReportOf r text = HasReport r × (text ≡ concat (lines_of r))

-- a processor and an I/O APIC as a report says them
abbrev pub shown_cpu : Processor → CpuLine
shown_cpu p = record { id = p.id; life = p.life; tpr = p.apic.tpr; irr = members p.apic.irr; isr = members p.apic.isr; tmr = members p.apic.tmr }

abbrev pub shown_io : Place → IoLine
shown_io p = record { line = mask_by (λ q. q.line) p.chip.pins; due = mask_by (λ q. q.due) p.chip.pins; remote = mask_by (λ q. q.remote) p.chip.pins }

-- what the report of a run says: its entries, its logs, and the state that the entries leave
abbrev pub shown_report : Plan → List Entry → List (List (Pulse × Hit)) → Report
shown_report c journal logs =
    let s = final_state_of c journal in
    record { entries = journal; logs = logs; imcr = s.imcr; cpus = map shown_cpu s.processors; ios = map shown_io s.places }

-- the fault has its cause in the text
abbrev pub IsCauseOf : List ℕ → ReportFault → Type 0
IsCauseOf text (fault.Line n why) = IsFirstBadLine IsReport text n why
IsCauseOf text fault.NoMemory = ⊤

-- the answer is this report, or this bad line, unless memory ran out
abbrev pub AnswersReport : Result Report ReportFault → Report → Type 0
AnswersReport (Ok found) r = found ≡ r
AnswersReport (Err fault.NoMemory) r = ⊤
AnswersReport (Err _) r = ⊥

abbrev pub AnswersLine : Result Report ReportFault → ℕ → LineWhy → Type 0
AnswersLine (Err (fault.Line m w)) n why = (m ≡ n) × (w ≡ why)
AnswersLine (Err fault.NoMemory) n why = ⊤
AnswersLine _ n why = ⊥
