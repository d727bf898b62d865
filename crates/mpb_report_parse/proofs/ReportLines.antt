-- The lines of a whole report: the title, the number of entries, and what is behind it.
use Rattle.std.proofs.Common.{◌≡◌, ℕ, ◌+◌, ◌^◌, ◌<◌, ◌≤◌, min, List, [], ◌∷◌, ◌++◌, length, map, sym, refl, ap, ◌∙◌, subst, append_assoc, length-append, arith}
use Rattle.std.specs.Prelude.{◌≢◌, codes, Some, Result, Ok, Err, IfOk, IfErr}
use Rattle.std.specs.List.{AllByRecursion, concat}
use Rattle.mpt_line.specs.Reading.{text_in}
use Rattle.mpt_line.proofs.Exact.{some_is, text_again}
use Rattle.mpb_spec.specs.declared.config.Imcr.{Imcr}
use Rattle.mpb_spec.specs.Numbers.{IsAscending}
use Rattle.mpb_spec.specs.declared.pulse.Pulse.{Pulse}
use Rattle.mpb_spec.specs.declared.pulse.Hit.{Hit}
use Rattle.mpb_report_spec.specs.Numbered.{numbered}
use Rattle.mpb_report_spec.specs.EntryLines.{entry_line}
use Rattle.mpb_report_spec.specs.LogLines.{log_line}
use Rattle.mpb_report_spec.specs.StateLines.{imcr_line}
use Rattle.mpb_report_spec.specs.Report.{title_line, end_line}
use Rattle.mpb_report_line.specs.declared.report.CpuLine.{CpuLine}
use Rattle.mpb_report_line.specs.declared.report.IoLine.{IoLine}
use Rattle.mpb_report_line.specs.declared.report.Report.{Report}
use Rattle.mpb_report_line.specs.Numerals.{numeral}
use Rattle.mpb_report_line.specs.Lines.{entry_count_line, cpu_text, io_text}
use Rattle.mpb_report_line.specs.Values.{IsRightEntry, IsRightLog, IsRightCpu, IsRightIo}
use Rattle.mpb_report_line.specs.Reading.{numeral_in}
use Rattle.mpb_report_line.proofs.NumeralLemmas.{numeral_again}
use Rattle.mpb_report_parse.specs.declared.fault.ReportFault.{ReportFault}
use Rattle.mpb_report_parse.specs.Reports.{HasReport, lines_of, IsReport, IsReportOf}
use Rattle.mpb_report_parse.specs.Languages.{run_lines, run_text, AreRightFrom, up, IsCpuFrom, cpu_line_at, above, AreLogLines, AreCpuLines, AreIoLines, AreEntryLines, AreBehindTitle, IsFaultBehind, IsUnfinished, IsRightTail, IsRightBehindCount, behind_count_text}
use Rattle.mpb_report_parse.proofs.Prefix.{step, stop}
use Rattle.mpb_report_parse.proofs.Runs.{head_is, tail_is}
use Rattle.mpb_report_parse.proofs.Places.{up_end, right_below, entry_member}

-- runs of numbered items, and of processors
numbered_lines : {E : Type 0} (show : ℕ → E → List ℕ) (s : ℕ) (es : List E) (tail : List (List ℕ)) → run_lines show up s es tail ≡ numbered show s es ++ tail
numbered_lines {E} show s [] tail = refl
numbered_lines {E} show s (e ∷ es) tail = ap (λ x. show s e ∷ x) (numbered_lines show (s + 1) es tail)

cpu_lines : (s : ℕ) (ps : List CpuLine) (tail : List (List ℕ)) → run_lines cpu_line_at above s ps tail ≡ map cpu_text ps ++ tail
cpu_lines s [] tail = refl
cpu_lines s (p ∷ ps) tail = ap (λ x. cpu_text p ∷ x) (cpu_lines (p.id + 1) ps tail)

-- the lines of a run, end to end
run_concat : {E : Type 0} (show : ℕ → E → List ℕ) (next : ℕ → E → ℕ) (s : ℕ) (es : List E) (tail : List (List ℕ)) → concat (run_lines show next s es tail) ≡ run_text show next s es ++ concat tail
run_concat {E} show next s [] tail = refl
run_concat {E} show next s (e ∷ es) tail = ap (λ x. show s e ++ x) (run_concat show next (next s e) es tail) ∙ sym (append_assoc (show s e) (run_text show next (next s e) es) (concat tail))

-- the lines behind the first two, as runs
abbrev pub tail_lines : List (List (Pulse × Hit)) → Imcr → List CpuLine → List IoLine → List (List ℕ)
tail_lines logs r cpus ios = run_lines log_line up 0 logs (imcr_line r ∷ run_lines cpu_line_at above 0 cpus (run_lines io_text up 0 ios (end_line ∷ [])))

pub lines_as_runs : (r : Report) → title_line ∷ entry_count_line (length r.entries) ∷ run_lines entry_line up 0 r.entries (tail_lines r.logs r.imcr r.cpus r.ios) ≡ lines_of r
lines_as_runs r =
    ap (λ (x : List (List ℕ)). title_line ∷ entry_count_line (length r.entries) ∷ x) (
    numbered_lines entry_line 0 r.entries (tail_lines r.logs r.imcr r.cpus r.ios)
    ∙ ap (λ (x : List (List ℕ)). numbered entry_line 0 r.entries ++ x) (
    numbered_lines log_line 0 r.logs (imcr_line r.imcr ∷ run_lines cpu_line_at above 0 r.cpus (run_lines io_text up 0 r.ios (end_line ∷ [])))
    ∙ ap (λ (x : List (List ℕ)). numbered log_line 0 r.logs ++ imcr_line r.imcr ∷ x) (
    cpu_lines 0 r.cpus (run_lines io_text up 0 r.ios (end_line ∷ []))
    ∙ ap (λ (x : List (List ℕ)). map cpu_text r.cpus ++ x) (numbered_lines io_text 0 r.ios (end_line ∷ []))
    )
    )
    )

pub text_as_runs : (r : Report) → concat (lines_of r) ≡ title_line ++ (entry_count_line (length r.entries) ++ behind_count_text r)
text_as_runs r =
    ap concat (sym (lines_as_runs r))
    ∙ ap (λ (x : List ℕ). title_line ++ (entry_count_line (length r.entries) ++ x)) (
    run_concat entry_line up 0 r.entries (tail_lines r.logs r.imcr r.cpus r.ios)
    ∙ ap (λ (x : List ℕ). run_text entry_line up 0 r.entries ++ x) (
    run_concat log_line up 0 r.logs (imcr_line r.imcr ∷ run_lines cpu_line_at above 0 r.cpus (run_lines io_text up 0 r.ios (end_line ∷ [])))
    ∙ ap (λ (x : List ℕ). run_text log_line up 0 r.logs ++ (imcr_line r.imcr ++ x)) (
    run_concat cpu_line_at above 0 r.cpus (run_lines io_text up 0 r.ios (end_line ∷ []))
    ∙ ap (λ (x : List ℕ). run_text cpu_line_at above 0 r.cpus ++ x) (run_concat io_text up 0 r.ios (end_line ∷ []))
    )
    )
    )

-- right values, from item to item and all at once
module _ {E : Type 0} (R : E → Type 0) (m : ℕ) where
  pub all_of : (s : ℕ) (es : List E) → AreRightFrom (λ k e. (k < m) × R e) up s es → AllByRecursion R es
  all_of s [] v = tt
  all_of s (e ∷ es) v = (v.0.1, all_of (s + 1) es v.1)

  pub few_of : (s : ℕ) (es : List E) → s ≤ m → AreRightFrom (λ k e. (k < m) × R e) up s es → s + length es ≤ m
  few_of s [] h v = omega arith
  few_of s (e ∷ es) h v = let less : s < m = v.0.0 in omega (arith, few_of (s + 1) es (omega arith) v.1)

  pub of_all : (s : ℕ) (es : List E) → s + length es ≤ m → AllByRecursion R es → AreRightFrom (λ k e. (k < m) × R e) up s es
  of_all s [] h v = tt
  of_all s (e ∷ es) h v = let less : s < m = omega arith in ((less, v.0), of_all (s + 1) es (omega arith) v.1)

abbrev ids_of : List CpuLine → List ℕ
ids_of ps = map (λ p. p.id) ps

record AreRightCpus (low : ℕ) (ps : List CpuLine) : Type 0 where
  pub all : AllByRecursion IsRightCpu ps
  pub high : AllByRecursion (λ i. low ≤ i) (ids_of ps)
  pub ascending : IsAscending (ids_of ps)

behind_id : (i : ℕ) (xs : List ℕ) → AllByRecursion (λ j. i + 1 ≤ j) xs → AllByRecursion (λ j. i < j) xs
behind_id i [] v = tt
behind_id i (x ∷ xs) v = let k : i + 1 ≤ x = v.0 in (omega arith, behind_id i xs v.1)

from_id : (i : ℕ) (xs : List ℕ) → AllByRecursion (λ j. i < j) xs → AllByRecursion (λ j. i + 1 ≤ j) xs
from_id i [] v = tt
from_id i (x ∷ xs) v = let k : i < x = v.0 in (omega arith, from_id i xs v.1)

lower : (low i : ℕ) (xs : List ℕ) → low ≤ i → AllByRecursion (λ j. i + 1 ≤ j) xs → AllByRecursion (λ j. low ≤ j) xs
lower low i [] h v = tt
lower low i (x ∷ xs) h v = let k : i + 1 ≤ x = v.0 in (omega arith, lower low i xs h v.1)

cpus_of : (low : ℕ) (ps : List CpuLine) → AreRightFrom IsCpuFrom above low ps → AreRightCpus low ps
cpus_of low [] v = record { all = tt; high = tt; ascending = tt }
cpus_of low (p ∷ ps) v =
    let more = cpus_of (p.id + 1) ps v.1 in
    record { all = (v.0.1, more.all); high = (v.0.0, lower low p.id (ids_of ps) v.0.0 more.high); ascending = (behind_id p.id (ids_of ps) more.high, more.ascending) }

of_cpus : (low : ℕ) (ps : List CpuLine) → AreRightCpus low ps → AreRightFrom IsCpuFrom above low ps
of_cpus low [] v = tt
of_cpus low (p ∷ ps) v = ((v.high.0, v.all.0), of_cpus (p.id + 1) ps (record { all = v.all.1; high = from_id p.id (ids_of ps) v.ascending.0; ascending = v.ascending.1 }))

from_zero : (xs : List ℕ) → AllByRecursion (λ j. 0 ≤ j) xs
from_zero [] = tt
from_zero (x ∷ xs) = (omega arith, from_zero xs)

pub has_report : (r : Report) → AllByRecursion IsRightEntry r.entries → IsRightTail r.logs r.cpus r.ios → HasReport r
has_report r v t =
    let c = cpus_of 0 r.cpus t.cpus_right in
    let logs : 0 + length r.logs ≤ 4 = few_of IsRightLog 4 0 r.logs (omega arith) t.logs_right in
    let ios : 0 + length r.ios ≤ 4 = few_of IsRightIo 4 0 r.ios (omega arith) t.ios_right in
    record {
      entries = v;
      logs = (omega (arith, logs), all_of IsRightLog 4 0 r.logs t.logs_right);
      cpus = (c.ascending, c.all);
      ios = (omega (arith, ios), all_of IsRightIo 4 0 r.ios t.ios_right);
    }

pub right_tail : (r : Report) → HasReport r → IsRightTail r.logs r.cpus r.ios
right_tail r h = record {
  logs_right = of_all IsRightLog 4 0 r.logs (omega (arith, h.logs.0)) h.logs.1;
  cpus_right = of_cpus 0 r.cpus (record { all = h.cpus.1; high = from_zero (ids_of r.cpus); ascending = h.cpus.0 });
  ios_right = of_all IsRightIo 4 0 r.ios (omega (arith, h.ios.0)) h.ios.1;
}

-- behind the title
pub title_to : (ls : List (List ℕ)) → IsReport (title_line ∷ ls) → AreBehindTitle ls
title_to ls (r, h, e) =
    let t = right_tail r h in
    let same : ls ≡ entry_count_line (length r.entries) ∷ run_lines entry_line up 0 r.entries (tail_lines r.logs r.imcr r.cpus r.ios) =
    tail_is title_line title_line ls (entry_count_line (length r.entries) ∷ run_lines entry_line up 0 r.entries (tail_lines r.logs r.imcr r.cpus r.ios)) (e ∙ sym (lines_as_runs r)) in
    let ios : AreIoLines 0 (run_lines io_text up 0 r.ios (end_line ∷ [])) = (r.ios, t.ios_right, end_line ∷ [], refl, refl) in
    let cpus : AreCpuLines 0 (run_lines cpu_line_at above 0 r.cpus (run_lines io_text up 0 r.ios (end_line ∷ []))) = (r.cpus, t.cpus_right, run_lines io_text up 0 r.ios (end_line ∷ []), ios, refl) in
    let logs : AreLogLines 0 (tail_lines r.logs r.imcr r.cpus r.ios) =
    (r.logs, t.logs_right, imcr_line r.imcr ∷ run_lines cpu_line_at above 0 r.cpus (run_lines io_text up 0 r.ios (end_line ∷ [])), (r.imcr, run_lines cpu_line_at above 0 r.cpus (run_lines io_text up 0 r.ios (end_line ∷ [])), cpus, refl), refl) in (
      length r.entries,
      run_lines entry_line up 0 r.entries (tail_lines r.logs r.imcr r.cpus r.ios),
      (r.entries, right_below (length r.entries) 0 r.entries (omega arith) h.entries, tail_lines r.logs r.imcr r.cpus r.ios, (up_end r.entries, logs), refl),
      same,
    )

pub title_from : (ls : List (List ℕ)) → AreBehindTitle ls → IsReport (title_line ∷ ls)
title_from ls (n, entry_tail, (es, v, log_tail, (count, (logs, w, imcr_tail, (r, cpu_tail, (cpus, x, io_tail, (ios, y, end, e, i), c), k), l)), m), h) =
    let report : Report = record { entries = es; logs = logs; imcr = r; cpus = cpus; ios = ios } in
    let number : length es ≡ n = sym (up_end es) ∙ count in
    let last : run_lines io_text up 0 ios end ≡ run_lines io_text up 0 ios (end_line ∷ []) = ap (λ (z : List (List ℕ)). run_lines io_text up 0 ios z) e in
    let third : cpu_tail ≡ run_lines cpu_line_at above 0 cpus (run_lines io_text up 0 ios (end_line ∷ [])) = c ∙ ap (λ (z : List (List ℕ)). run_lines cpu_line_at above 0 cpus z) (i ∙ last) in
    let second : log_tail ≡ tail_lines logs r cpus ios = l ∙ ap (λ (z : List (List ℕ)). run_lines log_line up 0 logs z) (k ∙ ap (λ (z : List (List ℕ)). imcr_line r ∷ z) third) in
    let whole : ls ≡ entry_count_line (length es) ∷ run_lines entry_line up 0 es (tail_lines logs r cpus ios) =
    h ∙ ap (λ (z : List (List ℕ)). entry_count_line n ∷ z) (m ∙ ap (λ (z : List (List ℕ)). run_lines entry_line up 0 es z) second) ∙ ap (λ (j : ℕ). entry_count_line j ∷ run_lines entry_line up 0 es (tail_lines logs r cpus ios)) (sym number) in (
      report,
      has_report report (all_of IsRightEntry n 0 es v) (record { logs_right = w; cpus_right = x; ios_right = y }),
      ap (λ (z : List (List ℕ)). title_line ∷ z) whole ∙ lines_as_runs report,
    )

-- behind the number of entries
pub count_one : (n m : ℕ) → entry_count_line n ≡ entry_count_line m → n ≡ m
count_one n m h =
    let texts : Some (numeral n ++ 10 ∷ []) ≡ Some (numeral m ++ 10 ∷ []) = sym (text_again (codes "entries ") (numeral n ++ 10 ∷ [])) ∙ ap (text_in (codes "entries ")) h ∙ text_again (codes "entries ") (numeral m ++ 10 ∷ []) in
    let same : numeral n ++ 10 ∷ [] ≡ numeral m ++ 10 ∷ [] = some_is (numeral n ++ 10 ∷ []) (numeral m ++ 10 ∷ []) texts in
    let read : Some (n, 10 ∷ []) ≡ Some (m, 10 ∷ []) = sym (numeral_again n (10 ∷ []) [] (omega arith, refl)) ∙ ap numeral_in same ∙ numeral_again m (10 ∷ []) [] (omega arith, refl) in
    ap (λ x. x.0) (some_is (n, 10 ∷ []) (m, 10 ∷ []) read)

count_to : (n : ℕ) (ls : List (List ℕ)) → AreBehindTitle (entry_count_line n ∷ ls) → AreEntryLines n 0 ls
count_to n ls (m, tail, t, h) =
    let same : n ≡ m = count_one n m (head_is (entry_count_line n) (entry_count_line m) ls tail h) in
    subst (λ (k : ℕ). AreEntryLines k 0 ls) (sym same) (subst (λ (x : List (List ℕ)). AreEntryLines m 0 x) (sym (tail_is (entry_count_line n) (entry_count_line m) ls tail h)) t)

count_from : (n : ℕ) (ls : List (List ℕ)) → AreEntryLines n 0 ls → AreBehindTitle (entry_count_line n ∷ ls)
count_from n ls t = (n, ls, t, refl)

no_behind : AreBehindTitle [] → ⊥
no_behind (m, tail, t, h) = absurd (cc (h))

behind_member : (ls : List (List ℕ)) × AreBehindTitle ls
behind_member = (entry_count_line 0 ∷ (entry_member 0 0 (omega arith)).0, (0, (entry_member 0 0 (omega arith)).0, (entry_member 0 0 (omega arith)).1, refl))

pub no_report : IsReport [] → ⊥
no_report (r, h, e) = absurd (cc (e))

-- the first bad line of a report
pub title_stop : (text : List ℕ) (f : ReportFault) → ((rest : List ℕ) → text ≢ title_line ++ rest) → IsUnfinished 0 text f → IsFaultBehind IsReport 0 text f
title_stop text f none h = stop IsReport text 0 f (title_line ∷ behind_member.0, title_from behind_member.0 behind_member.1) no_report here h
  where
    here : (x follow : List ℕ) (ls : List (List ℕ)) → text ≡ x ++ follow → IsReport (x ∷ ls) → ⊥
    here x follow ls e (r, v, k) = none follow (e ∙ ap (λ y. y ++ follow) (head_is x title_line ls (entry_count_line (length r.entries) ∷ run_lines entry_line up 0 r.entries (tail_lines r.logs r.imcr r.cpus r.ios)) (k ∙ sym (lines_as_runs r))))

pub count_stop : (text behind : List ℕ) (f : ReportFault) → text ≡ title_line ++ behind → ((n : ℕ) (rest : List ℕ) → behind ≢ entry_count_line n ++ rest) → IsUnfinished 1 behind f → IsFaultBehind IsReport 0 text f
count_stop text behind f e none h =
    step IsReport AreBehindTitle title_line text behind 0 f title_to title_from e (stop AreBehindTitle behind 1 f behind_member no_behind here h)
  where
    here : (x follow : List ℕ) (ls : List (List ℕ)) → behind ≡ x ++ follow → AreBehindTitle (x ∷ ls) → ⊥
    here x follow ls e (m, tail, t, k) = none m follow (e ∙ ap (λ y. y ++ follow) (head_is x (entry_count_line m) ls tail k))

pub report_fault : (n : ℕ) (text behind rest : List ℕ) (f : ReportFault) → text ≡ title_line ++ behind → behind ≡ entry_count_line n ++ rest → IsFaultBehind (AreEntryLines n 0) 2 rest f → IsFaultBehind IsReport 0 text f
report_fault n text behind rest f e k h =
    step IsReport AreBehindTitle title_line text behind 0 f title_to title_from e
    (step AreBehindTitle (AreEntryLines n 0) (entry_count_line n) behind rest 1 f (count_to n) (count_from n) k h)

-- a whole report
pub report_whole : (r : Report) (n count : ℕ) (text behind rest : List ℕ) → text ≡ title_line ++ behind → behind ≡ entry_count_line n ++ rest → count ≡ min n 18446744073709551615 → length r.entries < 2 ^ 32 → IsRightBehindCount r count → rest ≡ behind_count_text r → IsReportOf r text
report_whole r n count text behind rest e k is few v h =
    let number : n ≡ length r.entries = omega (arith, is, few, v.count_is) in (
      has_report r v.entries v.tail,
      e ∙ ap (λ (x : List ℕ). title_line ++ x) (k ∙ ap (λ (j : ℕ). entry_count_line j ++ rest) number ∙ ap (λ (x : List ℕ). entry_count_line (length r.entries) ++ x) h) ∙ sym (text_as_runs r),
    )

pub behind_short : (n : ℕ) (text behind rest : List ℕ) → text ≡ title_line ++ behind → behind ≡ entry_count_line n ++ rest → length rest + 10 ≤ length text
behind_short n text behind rest e k =
    let nine : length title_line ≡ 9 = refl in
    let some : 1 ≤ length (entry_count_line n) = omega arith in
    omega (arith, nine, some, length-append title_line behind, ap length e, length-append (entry_count_line n) rest, ap length k)

-- the answer of what stands behind the first two lines, seen from the whole text
pub ok_whole : (o : Result Report ReportFault) (n count : ℕ) (text behind rest : List ℕ) → text ≡ title_line ++ behind → (count ≡ min n 18446744073709551615) × (behind ≡ entry_count_line n ++ rest)
    → IfOk o (λ r. IsRightBehindCount r count) → IfOk o (λ r. rest ≡ behind_count_text r) → IfOk o (λ r. length r.entries < 2 ^ 32) → IfOk o (λ r. IsReportOf r text)
ok_whole (Ok r) n count text behind rest e k v h few = report_whole r n count text behind rest e k.1 k.0 few v h
ok_whole (Err f) n count text behind rest e k v h few = tt

pub err_fault : (o : Result Report ReportFault) (n : ℕ) (text behind rest : List ℕ) → text ≡ title_line ++ behind → behind ≡ entry_count_line n ++ rest → IfErr o (IsFaultBehind (AreEntryLines n 0) 2 rest) → IfErr o (IsFaultBehind IsReport 0 text)
err_fault (Ok r) n text behind rest e k h = tt
err_fault (Err f) n text behind rest e k h = report_fault n text behind rest f e k h
