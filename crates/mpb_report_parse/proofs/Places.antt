-- The lines of a report from each place on, and the first bad line behind them.
use Rattle.std.proofs.Common.{◌≡◌, ℕ, zero, suc, ◌+◌, ◌-◌, ◌^◌, ◌<◌, ◌≤◌, min, List, [], ◌∷◌, ◌++◌, length, sym, refl, ap, ◌∙◌, subst, length-append, arith}
use Rattle.std.specs.Prelude.{◌≢◌, codes, decimal, slice_index}
use Rattle.std.specs.List.{AllByRecursion, flat_map}
use Rattle.mpt_listing.specs.Listing.{line}
use Rattle.mpt_line.specs.Lines.{BeginsWith, BeginsWithNone}
use Rattle.mpt_line.proofs.Exact.{text_is_one}
use Rattle.mpb_spec.specs.declared.agent.Agent.TheVariants as agent
use Rattle.mpb_spec.specs.declared.agent.Op.TheVariants as op
use Rattle.mpb_spec.specs.declared.config.Imcr.{Imcr}
use Rattle.mpb_spec.specs.declared.config.Imcr.TheVariants as imcr
use Rattle.mpb_spec.specs.declared.entry.Entry.{Entry}
use Rattle.mpb_spec.specs.declared.entry.What.TheVariants as what
use Rattle.mpb_spec.specs.declared.pulse.Pulse.{Pulse}
use Rattle.mpb_spec.specs.declared.pulse.Hit.{Hit}
use Rattle.mpb_report_spec.specs.EntryLines.{agent_text, op_text, further_outcome, entry_line}
use Rattle.mpb_report_spec.specs.LogLines.{log_line}
use Rattle.mpb_report_spec.specs.StateLines.{imcr_line}
use Rattle.mpb_report_spec.specs.Report.{end_line}
use Rattle.mpb_report_line.specs.declared.report.CpuLine.{CpuLine}
use Rattle.mpb_report_line.specs.declared.report.IoLine.{IoLine}
use Rattle.mpb_report_line.specs.Lines.{cpu_text, io_text}
use Rattle.mpb_report_line.specs.Values.{IsRightEntry, IsRightImcr}
use Rattle.mpb_report_line.proofs.EntryForms.{entry-exact}
use Rattle.mpb_report_line.proofs.LogForms.{log-exact}
use Rattle.mpb_report_line.proofs.StateForms.{cpu-exact, io-exact}
use Rattle.mpb_report_parse.specs.declared.fault.ReportFault.{ReportFault}
use Rattle.mpb_report_parse.specs.Languages.{run_lines, run_text, run_end, AreRightFrom, AreFirstItems, up, IsEntryAt, IsLogAt, IsCpuFrom, cpu_line_at, above, IsIoAt, IsEnd, AreIoLines, AreBehindCpus, AreCpuLines, AreBehindLogs, AreLogLines, AreBehindEntries, AreEntryLines, IsFaultBehind, IsUnfinished, IsRightTail, tail_text}
use Rattle.mpb_report_parse.proofs.Prefix.{step, narrow, stop, no_end}
use Rattle.mpb_report_parse.proofs.Runs.{head_is, tail_is, run_fault, run_stop, run_some}

-- a byte of two lines that are one
byte_is : (n : ℕ) (a b : List ℕ) → a ≡ b → slice_index a n ≡ slice_index b n
byte_is n a b h = ap (λ (l : List ℕ). slice_index l n) h

-- I/O APICs
pub io_one : (a : ℕ) (x y : IoLine) → IsIoAt a x → IsIoAt a y → io_text a x ≡ io_text a y → x ≡ y
io_one a x y v w h = text_is_one (io-exact a) x y v.1 w.1 h

pub io_apart : (a : ℕ) (x : IoLine) (ls : List (List ℕ)) → IsIoAt a x → IsEnd a (io_text a x ∷ ls) → ⊥
io_apart a x ls v h = let k : 115 ≡ 101 = byte_is 0 (io_text a x) end_line (head_is (io_text a x) end_line ls [] h) in absurd (omega (arith, k))

pub io_some : (a : ℕ) → AreIoLines a [] → ⊥
io_some a = run_some io_text IsIoAt up IsEnd io_one io_apart no_end a

-- processors
pub cpu_one : (low : ℕ) (p q : CpuLine) → IsCpuFrom low p → IsCpuFrom low q → cpu_line_at low p ≡ cpu_line_at low q → p ≡ q
cpu_one low p q v w h = text_is_one cpu-exact p q v.1 w.1 h

pub cpu_apart : (low : ℕ) (p : CpuLine) (ls : List (List ℕ)) → IsCpuFrom low p → AreBehindCpus low (cpu_line_at low p ∷ ls) → ⊥
cpu_apart low p ls v ([], w, tail, t, h) = let k : 115 ≡ 101 = byte_is 0 (cpu_text p) end_line (head_is (cpu_text p) end_line ls [] (h ∙ t)) in absurd (omega (arith, k))
cpu_apart low p ls v (x ∷ es, w, tail, t, h) = let k : 99 ≡ 105 = byte_is 6 (cpu_text p) (io_text 0 x) (head_is (cpu_text p) (io_text 0 x) ls (run_lines io_text up 1 es tail) h) in absurd (omega (arith, k))

pub cpu_some : (low : ℕ) → AreCpuLines low [] → ⊥
cpu_some low = run_some cpu_line_at IsCpuFrom above AreBehindCpus cpu_one cpu_apart (λ s. io_some 0) low

-- logs
pub log_one : (d : ℕ) (x y : List (Pulse × Hit)) → IsLogAt d x → IsLogAt d y → log_line d x ≡ log_line d y → x ≡ y
log_one d x y v w h = text_is_one (log-exact d) x y v.1 w.1 h

pub log_apart : (d : ℕ) (x : List (Pulse × Hit)) (ls : List (List ℕ)) → IsLogAt d x → AreBehindLogs d (log_line d x ∷ ls) → ⊥
log_apart d x ls v (r, tail, t, h) = let k : 108 ≡ 115 = byte_is 0 (log_line d x) (imcr_line r) (head_is (log_line d x) (imcr_line r) ls tail h) in absurd (omega (arith, k))

pub behind_logs_some : (d : ℕ) → AreBehindLogs d [] → ⊥
behind_logs_some d (r, tail, t, h) = absurd (cc (h))

pub log_some : (d : ℕ) → AreLogLines d [] → ⊥
log_some d = run_some log_line IsLogAt up AreBehindLogs log_one log_apart behind_logs_some d

-- entries
pub entry_one : (n k : ℕ) (x y : Entry) → IsEntryAt n k x → IsEntryAt n k y → entry_line k x ≡ entry_line k y → x ≡ y
entry_one n k x y v w h = text_is_one (entry-exact k) x y v.1 w.1 h

pub entry_apart : (n k : ℕ) (x : Entry) (ls : List (List ℕ)) → IsEntryAt n k x → AreBehindEntries n k (entry_line k x ∷ ls) → ⊥
entry_apart n k x ls v t = absurd (omega (arith, v.0, t.0))

pub behind_entries_some : (n k : ℕ) → AreBehindEntries n k [] → ⊥
behind_entries_some n k t = log_some 0 t.1

pub entry_some : (n k : ℕ) → AreEntryLines n k [] → ⊥
entry_some n k = run_some entry_line (IsEntryAt n) up (AreBehindEntries n) (entry_one n) (entry_apart n) (behind_entries_some n) k

-- no line is empty
line_some : (parts : List (List ℕ)) → 1 ≤ length (line parts)
line_some [] = omega arith
line_some (p ∷ ps) = omega (arith, length-append p (line ps), line_some ps)

pub entry_line_some : (k : ℕ) (x : Entry) → 1 ≤ length (entry_line k x)
entry_line_some k x = line_some (decimal k ∷ codes " " ∷ agent_text x.agent ∷ codes " " ∷ op_text x.op ∷ codes " :" ∷ flat_map further_outcome x.outcomes.items ∷ [])

pub log_line_some : (d : ℕ) (x : List (Pulse × Hit)) → 1 ≤ length (log_line d x)
log_line_some d x = omega arith

pub cpu_line_some : (low : ℕ) (p : CpuLine) → 1 ≤ length (cpu_line_at low p)
cpu_line_some low p = omega arith

pub io_line_some : (a : ℕ) (x : IoLine) → 1 ≤ length (io_text a x)
io_line_some a x = omega arith

-- the shortest lists of lines from a place on
abbrev pub behind_logs_lines : List (List ℕ)
behind_logs_lines = imcr_line imcr.Absent ∷ end_line ∷ []

behind_logs_member : (d : ℕ) → (ls : List (List ℕ)) × AreBehindLogs d ls
behind_logs_member d = (behind_logs_lines, (imcr.Absent, end_line ∷ [], ([], tt, end_line ∷ [], ([], tt, end_line ∷ [], refl, refl), refl), refl))

pub log_member : (ls : List (List ℕ)) × AreLogLines 0 ls
log_member = ((behind_logs_member 0).0, ([], tt, (behind_logs_member 0).0, (behind_logs_member 0).1, refl))

abbrev small_entry : Entry
small_entry = record { agent = agent.Cpu 0; op = op.Take; outcomes = record { items = record { at = 0; what = what.Nothing } ∷ [] } }

right_small : IsRightEntry small_entry
right_small = record { agent = omega arith; op = tt; some = omega arith; few = omega arith; outcomes = ((refl, tt), tt) }

-- m entries more make n
entries_member : (n m k : ℕ) → k + m ≡ n → (ls : List (List ℕ)) × AreEntryLines n k ls
entries_member n zero k h = (log_member.0, ([], tt, log_member.0, (omega arith, log_member.1), refl))
entries_member n (suc m) k h =
    let more = entries_member n m (k + 1) (omega arith) in
    let less : k < n = omega arith in
    (entry_line k small_entry ∷ more.0, (small_entry ∷ more.1.0, ((less, right_small), more.1.1), more.1.2, more.1.3, ap (λ x. entry_line k small_entry ∷ x) more.1.4))

pub entry_member : (n k : ℕ) → k ≤ n → (ls : List (List ℕ)) × AreEntryLines n k ls
entry_member n k h = entries_member n (n - k) k (omega arith)

-- behind the interrupt mode register processors follow
imcr_to : (d : ℕ) (r : Imcr) (ls : List (List ℕ)) → AreBehindLogs d (imcr_line r ∷ ls) → AreCpuLines 0 ls
imcr_to d r ls (q, tail, t, h) = subst (λ (x : List (List ℕ)). AreCpuLines 0 x) (sym (tail_is (imcr_line r) (imcr_line q) ls tail h)) t

imcr_from : (d : ℕ) (r : Imcr) (ls : List (List ℕ)) → AreCpuLines 0 ls → AreBehindLogs d (imcr_line r ∷ ls)
imcr_from d r ls t = (r, ls, t, refl)

-- the first bad line of what stands behind the entries
pub imcr_stop : (logs : List (List (Pulse × Hit))) (text rest : List ℕ) (before : ℕ) (f : ReportFault) → AreFirstItems log_line IsLogAt up 0 logs text rest → BeginsWithNone imcr_line IsRightImcr rest → IsUnfinished (before + length logs) rest f
    → IsFaultBehind (AreLogLines 0) before text f
imcr_stop logs text rest before f p none h =
    run_fault log_line IsLogAt up AreBehindLogs log_one log_apart behind_logs_some logs 0 text rest before f p
    (stop (AreBehindLogs (run_end up 0 logs)) rest (before + length logs) f (behind_logs_member (run_end up 0 logs)) (behind_logs_some (run_end up 0 logs)) here h)
  where
    here : (x follow : List ℕ) (ls : List (List ℕ)) → rest ≡ x ++ follow → AreBehindLogs (run_end up 0 logs) (x ∷ ls) → ⊥
    here x follow ls e (r, tail, t, k) = none r follow tt (e ∙ ap (λ y. y ++ follow) (head_is x (imcr_line r) ls tail k))

pub tail_fault : (logs : List (List (Pulse × Hit))) (r : Imcr) (cpus : List CpuLine) (ios : List IoLine) (text rest after middle end : List ℕ) (before : ℕ) (f : ReportFault)
    → AreFirstItems log_line IsLogAt up 0 logs text rest → BeginsWith imcr_line IsRightImcr rest r after → AreFirstItems cpu_line_at IsCpuFrom above 0 cpus after middle → AreFirstItems io_text IsIoAt up 0 ios middle end
    → IsFaultBehind (IsEnd (run_end up 0 ios)) (before + length logs + 1 + length cpus + length ios) end f → IsFaultBehind (AreLogLines 0) before text f
tail_fault logs r cpus ios text rest after middle end before f p b q s h =
    let d : ℕ = run_end up 0 logs in
    run_fault log_line IsLogAt up AreBehindLogs log_one log_apart behind_logs_some logs 0 text rest before f p
    (step (AreBehindLogs (run_end up 0 logs)) (AreCpuLines 0) (imcr_line r) rest after (before + length logs) f (imcr_to (run_end up 0 logs) r) (imcr_from (run_end up 0 logs) r) b.whole
    (run_fault cpu_line_at IsCpuFrom above AreBehindCpus cpu_one cpu_apart (λ s. io_some 0) cpus 0 after middle (before + length logs + 1) f q
    (run_fault io_text IsIoAt up IsEnd io_one io_apart no_end ios 0 middle end (before + length logs + 1 + length cpus) f s h)))

pub tail_whole : (logs : List (List (Pulse × Hit))) (r : Imcr) (cpus : List CpuLine) (ios : List IoLine) (text rest after middle end : List ℕ)
    → AreFirstItems log_line IsLogAt up 0 logs text rest → BeginsWith imcr_line IsRightImcr rest r after → AreFirstItems cpu_line_at IsCpuFrom above 0 cpus after middle → AreFirstItems io_text IsIoAt up 0 ios middle end
    → end ≡ end_line → text ≡ tail_text logs r cpus ios
tail_whole logs r cpus ios text rest after middle end p b q s h =
    p.whole ∙ ap (λ x. run_text log_line up 0 logs ++ x) (b.whole ∙ ap (λ x. imcr_line r ++ x) (q.whole ∙ ap (λ x. run_text cpu_line_at above 0 cpus ++ x) (s.whole ∙ ap (λ x. run_text io_text up 0 ios ++ x) h)))

pub tail_right : (logs : List (List (Pulse × Hit))) (cpus : List CpuLine) (ios : List IoLine) (text rest after middle end : List ℕ)
    → AreFirstItems log_line IsLogAt up 0 logs text rest → AreFirstItems cpu_line_at IsCpuFrom above 0 cpus after middle → AreFirstItems io_text IsIoAt up 0 ios middle end → IsRightTail logs cpus ios
tail_right logs cpus ios text rest after middle end p q s = record { logs_right = p.right; cpus_right = q.right; ios_right = s.right }

-- numbered items: the number behind them, and that each is below a bound
up_end_from : {E : Type 0} (s : ℕ) (es : List E) → run_end up s es ≡ s + length es
up_end_from {E} s [] = omega arith
up_end_from {E} s (e ∷ es) = up_end_from (s + 1) es ∙ omega arith

pub up_end : {E : Type 0} (es : List E) → run_end up 0 es ≡ length es
up_end {E} es = omega (arith, up_end_from 0 es)

pub right_below : (n s : ℕ) (es : List Entry) → s + length es ≤ n → AllByRecursion IsRightEntry es → AreRightFrom (IsEntryAt n) up s es
right_below n s [] h v = tt
right_below n s (e ∷ es) h v = let less : s < n = omega arith in ((less, v.0), right_below n (s + 1) es (omega arith) v.1)

-- the entries that were read are the first ones, where there are to be n
pub entries_first : (n count : ℕ) (es : List Entry) (text rest : List ℕ) → count ≡ min n 18446744073709551615 → length es < 2 ^ 32 → text ≡ run_text entry_line up 0 es ++ rest → AllByRecursion IsRightEntry es → length es ≤ count
    → (length es < count → BeginsWithNone (entry_line (length es)) IsRightEntry rest) → AreFirstItems entry_line (IsEntryAt n) up 0 es text rest
entries_first n count es text rest is few whole right low last = record {
  whole = whole;
  right = right_below n 0 es (omega arith) right;
  last = λ e follow v h. none e follow v.1 (behind v.0) (h ∙ ap (λ (k : ℕ). entry_line k e ++ follow) (up_end es));
}
  where
    behind : run_end up 0 es < n → length es < count
    behind h = omega (arith, h, up_end es)

    none : (e : Entry) (follow : List ℕ) → IsRightEntry e → length es < count → rest ≢ entry_line (length es) e ++ follow
    none e follow v less = last less e follow v

-- the first bad line behind the second one
pub entries_stop : (n : ℕ) (es : List Entry) (text rest : List ℕ) (before : ℕ) (f : ReportFault) → AreFirstItems entry_line (IsEntryAt n) up 0 es text rest → length es < n → IsUnfinished (before + length es) rest f → IsFaultBehind (AreEntryLines n 0) before text f
entries_stop n es text rest before f p less h =
    let end : run_end up 0 es ≡ length es = up_end es in
    run_stop entry_line (IsEntryAt n) up (AreBehindEntries n) (entry_one n) (entry_apart n) (behind_entries_some n) es 0 text rest before f p
    (λ ls t. absurd (omega (arith, t.0, less, end))) (entry_member n (run_end up 0 es) (omega (arith, less, end))) h

pub entries_fault : (n : ℕ) (es : List Entry) (text rest : List ℕ) (before : ℕ) (f : ReportFault) → AreFirstItems entry_line (IsEntryAt n) up 0 es text rest → length es ≡ n → IsFaultBehind (AreLogLines 0) (before + length es) rest f → IsFaultBehind (AreEntryLines n 0) before text f
entries_fault n es text rest before f p all h =
    run_fault entry_line (IsEntryAt n) up (AreBehindEntries n) (entry_one n) (entry_apart n) (behind_entries_some n) es 0 text rest before f p
    (narrow (AreLogLines 0) (AreBehindEntries n (run_end up 0 es)) rest (λ ls m. (up_end es ∙ all, m)) (λ x follow ls e t. t.1) (behind_entries_some n (run_end up 0 es)) (before + length es) f h)
