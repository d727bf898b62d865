-- A text is that of one report at most, or has one first bad line at most.
use Rattle.std.proofs.Common.{◌≡◌, ℕ, ◌+◌, List, [], ◌∷◌, ◌++◌, length, sym, refl, ap, ◌∙◌, subst, arith}
use Rattle.std.specs.Prelude.{IfOk, IfErr, Result, Ok, Err}
use Rattle.std.specs.List.{AllByRecursion, concat, flat_map}
use Rattle.mpt_line.proofs.Exact.{text_is_one}
use Rattle.mpt_parse.specs.declared.fault.LineWhy.{LineWhy}
use Rattle.mpt_parse.specs.Listings.{IsLongestValidPrefix, IsFirstBadLine, IsWholeLine}
use Rattle.mpt_parse.proofs.BadLines.{prefix_one, one_bad_line, member_prefix, member_is_not_bad}
use Rattle.mpb_report_spec.specs.EntryLines.{entry_line}
use Rattle.mpb_report_spec.specs.LogLines.{log_line}
use Rattle.mpb_report_spec.specs.StateLines.{imcr_line}
use Rattle.mpb_report_spec.specs.Report.{title_line, end_line}
use Rattle.mpb_report_line.specs.declared.report.Report.{Report}
use Rattle.mpb_report_line.specs.Lines.{entry_count_line, io_text}
use Rattle.mpb_report_line.proofs.StateForms.{imcr-exact}
use Rattle.mpb_report_parse.specs.declared.fault.ReportFault.{ReportFault}
use Rattle.mpb_report_parse.specs.declared.fault.ReportFault.TheVariants as fault
use Rattle.mpb_report_parse.specs.Reports.{HasReport, lines_of, IsReport, IsReportOf, IsCauseOf, AnswersReport, AnswersLine}
use Rattle.mpb_report_parse.specs.Languages.{run_lines, up, above, IsEntryAt, IsLogAt, IsCpuFrom, cpu_line_at, IsIoAt, IsEnd, AreIoLines, AreBehindCpus, AreCpuLines, AreBehindLogs, AreLogLines, AreBehindEntries, IsFaultBehind}
use Rattle.mpb_report_parse.proofs.Prefix.{no_end}
use Rattle.mpb_report_parse.proofs.Runs.{head_is, tail_is, run_one}
use Rattle.mpb_report_parse.proofs.Places.{up_end, right_below, io_one, io_apart, io_some, cpu_one, cpu_apart, log_one, log_apart, behind_logs_some, entry_one, entry_apart, behind_entries_some}
use Rattle.mpb_report_parse.proofs.ReportLines.{tail_lines, lines_as_runs, right_tail, count_one}
use Rattle.mpb_report_parse.proofs.WholeLines.{lines_whole}

report_whole_lines : (ls : List (List ℕ)) → IsReport ls → AllByRecursion IsWholeLine ls
report_whole_lines ls (r, h, e) = subst (λ (x : List (List ℕ)). AllByRecursion IsWholeLine x) (sym e) (lines_whole r)

-- a text has one first bad line at most
pub bad_line_is_one : (text : List ℕ) (n m : ℕ) (w v : LineWhy) → IsFirstBadLine IsReport text n w → IsFirstBadLine IsReport text m v → (n ≡ m) × (w ≡ v)
bad_line_is_one text n m w v h k = one_bad_line IsReport report_whole_lines text n m w v h k

-- a whole report is its own longest prefix
flat_is : (ls : List (List ℕ)) → flat_map (λ l. l) ls ≡ concat ls
flat_is [] = refl
flat_is (l ∷ ls) = ap (λ x. l ++ x) (flat_is ls)

report_prefix : (r : Report) (text : List ℕ) → IsReportOf r text → IsLongestValidPrefix IsReport (lines_of r) text []
report_prefix r text h = member_prefix IsReport report_whole_lines (lines_of r) text (r, h.0, refl) (h.1 ∙ sym (flat_is (lines_of r)))

-- a report has no bad line
pub report_is_not_bad : (r : Report) (text : List ℕ) (n : ℕ) (w : LineWhy) → IsReportOf r text → IsFirstBadLine IsReport text n w → ⊥
report_is_not_bad r text n w h k = member_is_not_bad IsReport report_whole_lines (lines_of r) text n w (r, h.0, refl) (h.1 ∙ sym (flat_is (lines_of r))) k

-- reports with the same lines are one
module _ (r s : Report) (h : HasReport r) (k : HasReport s) where
  abbrev io_lines : Report → List (List ℕ)
  io_lines q = run_lines io_text up 0 q.ios (end_line ∷ [])

  abbrev cpu_lines : Report → List (List ℕ)
  cpu_lines q = run_lines cpu_line_at above 0 q.cpus (io_lines q)

  ios_of : (q : Report) → HasReport q → AreIoLines 0 (io_lines q)
  ios_of q v = (q.ios, (right_tail q v).ios_right, end_line ∷ [], refl, refl)

  cpus_lines_of : (q : Report) → HasReport q → AreCpuLines 0 (cpu_lines q)
  cpus_lines_of q v = (q.cpus, (right_tail q v).cpus_right, io_lines q, ios_of q v, refl)

  behind_logs_of : (q : Report) (d : ℕ) → HasReport q → AreBehindLogs d (imcr_line q.imcr ∷ cpu_lines q)
  behind_logs_of q d v = (q.imcr, cpu_lines q, cpus_lines_of q v, refl)

  logs_of_lines : (q : Report) → HasReport q → AreLogLines 0 (tail_lines q.logs q.imcr q.cpus q.ios)
  logs_of_lines q v = (q.logs, (right_tail q v).logs_right, imcr_line q.imcr ∷ cpu_lines q, behind_logs_of q 0 v, refl)

  abbrev entry_lines : Report → List (List ℕ)
  entry_lines q = run_lines entry_line up 0 q.entries (tail_lines q.logs q.imcr q.cpus q.ios)

  lines_one : lines_of r ≡ lines_of s → r ≡ s
  lines_one e =
      let a : entry_count_line (length r.entries) ∷ entry_lines r ≡ entry_count_line (length s.entries) ∷ entry_lines s =
      tail_is title_line title_line (entry_count_line (length r.entries) ∷ entry_lines r) (entry_count_line (length s.entries) ∷ entry_lines s) (lines_as_runs r ∙ e ∙ sym (lines_as_runs s)) in
      let n : ℕ = length r.entries in
      let number : length r.entries ≡ length s.entries = count_one (length r.entries) (length s.entries) (head_is (entry_count_line (length r.entries)) (entry_count_line (length s.entries)) (entry_lines r) (entry_lines s) a) in
      let first = run_one entry_line (IsEntryAt n) up (AreBehindEntries n) (entry_one n) (entry_apart n) (behind_entries_some n) 0 r.entries s.entries (tail_lines r.logs r.imcr r.cpus r.ios) (tail_lines s.logs s.imcr s.cpus s.ios)
      (right_below n 0 r.entries (omega arith) h.entries) (right_below n 0 s.entries (omega (arith, number)) k.entries)
      (up_end r.entries, logs_of_lines r h) (up_end s.entries ∙ sym number, logs_of_lines s k)
      (tail_is (entry_count_line (length r.entries)) (entry_count_line (length s.entries)) (entry_lines r) (entry_lines s) a) in
      let second = run_one log_line IsLogAt up AreBehindLogs log_one log_apart behind_logs_some 0 r.logs s.logs (imcr_line r.imcr ∷ cpu_lines r) (imcr_line s.imcr ∷ cpu_lines s)
      (right_tail r h).logs_right (right_tail s k).logs_right (behind_logs_of r 0 h) (behind_logs_of s 0 k) first.1 in
      let mode = text_is_one imcr-exact r.imcr s.imcr tt tt (head_is (imcr_line r.imcr) (imcr_line s.imcr) (cpu_lines r) (cpu_lines s) second.1) in
      let third = run_one cpu_line_at IsCpuFrom above AreBehindCpus cpu_one cpu_apart (λ s. io_some 0) 0 r.cpus s.cpus (io_lines r) (io_lines s)
      (right_tail r h).cpus_right (right_tail s k).cpus_right (ios_of r h) (ios_of s k) (tail_is (imcr_line r.imcr) (imcr_line s.imcr) (cpu_lines r) (cpu_lines s) second.1) in
      let fourth = run_one io_text IsIoAt up IsEnd io_one io_apart no_end 0 r.ios s.ios (end_line ∷ []) (end_line ∷ []) (right_tail r h).ios_right (right_tail s k).ios_right refl refl third.1 in
      (λ i. record { entries = first.0 i; logs = second.0 i; imcr = mode i; cpus = third.0 i; ios = fourth.0 i })

pub report_is_one : (r s : Report) (text : List ℕ) → IsReportOf r text → IsReportOf s text → r ≡ s
report_is_one r s text h k = lines_one r s h.0 k.0 (prefix_one IsReport report_whole_lines (lines_of r) (lines_of s) text [] [] (report_prefix r text h) (report_prefix s text k)).0

-- each answer comes where it is right
pub only_report : (text : List ℕ) (o : Result Report ReportFault) → IfOk o (λ r. IsReportOf r text) → IfErr o (IsCauseOf text) → (r : Report) → IsReportOf r text → AnswersReport o r
only_report text (Ok s) h e r k = report_is_one s r text h k
only_report text (Err (fault.Line n w)) h e r k = report_is_not_bad r text n w k e
only_report text (Err fault.NoMemory) h e r k = tt

pub only_line : (text : List ℕ) (o : Result Report ReportFault) → IfOk o (λ r. IsReportOf r text) → IfErr o (IsCauseOf text) → (n : ℕ) (w : LineWhy) → IsFirstBadLine IsReport text n w → AnswersLine o n w
only_line text (Ok s) h e n w b = report_is_not_bad s text n w h b
only_line text (Err (fault.Line m v)) h e n w b = bad_line_is_one text m n v w e b
only_line text (Err fault.NoMemory) h e n w b = tt

-- the fault behind no line is that of the text
pub caused : (text : List ℕ) (o : Result Report ReportFault) → IfErr o (IsFaultBehind IsReport 0 text) → IfErr o (IsCauseOf text)
caused text (Ok s) h = tt
caused text (Err (fault.Line n w)) (m, e, b) = let same : m ≡ n = omega (arith, e) in subst (λ (k : ℕ). IsFirstBadLine IsReport text k w) same b
caused text (Err fault.NoMemory) h = tt
