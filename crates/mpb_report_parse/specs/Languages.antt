-- What the lines of a report are from a place on, and a fault behind so many valid lines. Only private functions cite it.
use Rattle.std.specs.Prelude.{◌≡◌, ℕ, ◌+◌, ◌<◌, ◌≤◌, List, [], ◌∷◌, ◌++◌, length, ⊤}
use Rattle.std.specs.List.{AllByRecursion}
use Rattle.mpb_spec.specs.declared.config.Imcr.{Imcr}
use Rattle.mpb_spec.specs.declared.entry.Entry.{Entry}
use Rattle.mpb_spec.specs.declared.pulse.Pulse.{Pulse}
use Rattle.mpb_spec.specs.declared.pulse.Hit.{Hit}
use Rattle.mpb_report_spec.specs.EntryLines.{entry_line}
use Rattle.mpb_report_spec.specs.LogLines.{log_line}
use Rattle.mpb_report_spec.specs.StateLines.{imcr_line}
use Rattle.mpb_report_spec.specs.Report.{end_line}
use Rattle.mpt_line.specs.Lines.{BeginsWithNone}
use Rattle.mpb_report_line.specs.declared.report.CpuLine.{CpuLine}
use Rattle.mpb_report_line.specs.declared.report.IoLine.{IoLine}
use Rattle.mpb_report_line.specs.declared.report.Report.{Report}
use Rattle.mpb_report_line.specs.Lines.{entry_count_line, cpu_text, io_text}
use Rattle.mpb_report_line.specs.Values.{IsRightEntry, IsRightLog, IsRightCpu, IsRightIo}
use Rattle.mpt_parse.specs.Listings.{IsFirstBadLine}
use Rattle.mpt_parse.specs.Languages.{IsUnfinishedBy}
use Rattle.mpb_report_parse.specs.declared.fault.ReportFault.{ReportFault}
use Rattle.mpb_report_parse.specs.declared.fault.ReportFault.TheVariants as fault

-- Items one after another, each at a place: the first place, and the one behind an item. Their lines before others, their text,
-- the place behind them, and that each is right at its place.
abbrev pub run_lines : {E : Type 0} → (ℕ → E → List ℕ) → (ℕ → E → ℕ) → ℕ → List E → List (List ℕ) → List (List ℕ)
run_lines show next s [] tail = tail
run_lines show next s (e ∷ es) tail = show s e ∷ run_lines show next (next s e) es tail

abbrev pub run_text : {E : Type 0} → (ℕ → E → List ℕ) → (ℕ → E → ℕ) → ℕ → List E → List ℕ
run_text show next s [] = []
run_text show next s (e ∷ es) = show s e ++ run_text show next (next s e) es

abbrev pub run_end : {E : Type 0} → (ℕ → E → ℕ) → ℕ → List E → ℕ
run_end next s [] = s
run_end next s (e ∷ es) = run_end next (next s e) es

abbrev pub AreRightFrom : {E : Type 0} → (ℕ → E → Type 0) → (ℕ → E → ℕ) → ℕ → List E → Type 0
AreRightFrom Right next s [] = ⊤
AreRightFrom Right next s (e ∷ es) = Right s e × AreRightFrom Right next (next s e) es

-- the lines are those of right items, and then others
abbrev pub AreRunLines : {E : Type 0} → (ℕ → E → List ℕ) → (ℕ → E → Type 0) → (ℕ → E → ℕ) → (ℕ → List (List ℕ) → Type 0) → ℕ → List (List ℕ) → Type 0
AreRunLines {E} show Right next Tail s ls = (es : List E) × AreRightFrom Right next s es × (tail : List (List ℕ)) × Tail (run_end next s es) tail × (ls ≡ run_lines show next s es tail)

-- the items are those whose lines stand first in the text, and no other line of one follows
pub record AreFirstItems {E : Type 0} (show : ℕ → E → List ℕ) (Right : ℕ → E → Type 0) (next : ℕ → E → ℕ) (s : ℕ) (es : List E) (text rest : List ℕ) : Type 0 where
  pub whole : text ≡ run_text show next s es ++ rest
  pub right : AreRightFrom Right next s es
  pub last : BeginsWithNone (show (run_end next s es)) (Right (run_end next s es)) rest

-- the next number
abbrev pub up : {E : Type 0} → ℕ → E → ℕ
up k e = k + 1

-- one of so many entries
abbrev pub IsEntryAt : ℕ → ℕ → Entry → Type 0
IsEntryAt n k e = (k < n) × IsRightEntry e

-- one of four logs, a processor whose id isn't too low, one of four I/O APICs
abbrev pub IsLogAt : ℕ → List (Pulse × Hit) → Type 0
IsLogAt d log = (d < 4) × IsRightLog log

abbrev pub IsCpuFrom : ℕ → CpuLine → Type 0
IsCpuFrom low p = (low ≤ p.id) × IsRightCpu p

abbrev pub cpu_line_at : ℕ → CpuLine → List ℕ
cpu_line_at low p = cpu_text p

abbrev pub above : ℕ → CpuLine → ℕ
above low p = p.id + 1

abbrev pub IsIoAt : ℕ → IoLine → Type 0
IsIoAt a x = (a < 4) × IsRightIo x

-- behind all I/O APICs, behind all processors, behind the interrupt mode register, behind all logs, behind all entries
abbrev pub IsEnd : ℕ → List (List ℕ) → Type 0
IsEnd a ls = ls ≡ end_line ∷ []

abbrev pub AreIoLines : ℕ → List (List ℕ) → Type 0
AreIoLines a ls = AreRunLines io_text IsIoAt up IsEnd a ls

abbrev pub AreBehindCpus : ℕ → List (List ℕ) → Type 0
AreBehindCpus low ls = AreIoLines 0 ls

abbrev pub AreCpuLines : ℕ → List (List ℕ) → Type 0
AreCpuLines low ls = AreRunLines cpu_line_at IsCpuFrom above AreBehindCpus low ls

abbrev pub AreBehindLogs : ℕ → List (List ℕ) → Type 0
AreBehindLogs d ls = (r : Imcr) × (tail : List (List ℕ)) × AreCpuLines 0 tail × (ls ≡ imcr_line r ∷ tail)

abbrev pub AreLogLines : ℕ → List (List ℕ) → Type 0
AreLogLines d ls = AreRunLines log_line IsLogAt up AreBehindLogs d ls

abbrev pub AreBehindEntries : ℕ → ℕ → List (List ℕ) → Type 0
AreBehindEntries n k ls = (k ≡ n) × AreLogLines 0 ls

abbrev pub AreEntryLines : ℕ → ℕ → List (List ℕ) → Type 0
AreEntryLines n k ls = AreRunLines entry_line (IsEntryAt n) up (AreBehindEntries n) k ls

-- behind the title
abbrev pub AreBehindTitle : List (List ℕ) → Type 0
AreBehindTitle ls = (n : ℕ) × (tail : List (List ℕ)) × AreEntryLines n 0 tail × (ls ≡ entry_count_line n ∷ tail)

-- the fault's line is the first bad one of the text, which stands behind so many valid lines; want of memory is free
abbrev pub IsFaultBehind : (List (List ℕ) → Type 0) → ℕ → List ℕ → ReportFault → Type 0
IsFaultBehind Member before text (fault.Line m w) = (n : ℕ) × (m ≡ before + n) × IsFirstBadLine Member text n w
IsFaultBehind Member before text fault.NoMemory = ⊤

-- the fault of the line behind so many valid ones, which make no whole report
abbrev pub IsUnfinished : ℕ → List ℕ → ReportFault → Type 0
IsUnfinished before text (fault.Line m w) = (m ≡ before + 1) × IsUnfinishedBy w text
IsUnfinished before text fault.NoMemory = ⊥

-- what stands behind the entries: logs, the interrupt mode register, processors, I/O APICs
abbrev pub tail_text : List (List (Pulse × Hit)) → Imcr → List CpuLine → List IoLine → List ℕ
tail_text logs r cpus ios = run_text log_line up 0 logs ++ (imcr_line r ++ (run_text cpu_line_at above 0 cpus ++ (run_text io_text up 0 ios ++ end_line)))

pub record IsRightTail (logs : List (List (Pulse × Hit))) (cpus : List CpuLine) (ios : List IoLine) : Type 0 where
  pub logs_right : AreRightFrom IsLogAt up 0 logs
  pub cpus_right : AreRightFrom IsCpuFrom above 0 cpus
  pub ios_right : AreRightFrom IsIoAt up 0 ios

-- what stands behind the first two lines, which say so many entries, held at the end of u64
pub record IsRightBehindCount (r : Report) (count : ℕ) : Type 0 where
  pub entries : AllByRecursion IsRightEntry r.entries
  pub count_is : length r.entries ≡ count
  pub tail : IsRightTail r.logs r.cpus r.ios

abbrev pub behind_count_text : Report → List ℕ
behind_count_text r = run_text entry_line up 0 r.entries ++ tail_text r.logs r.imcr r.cpus r.ios
