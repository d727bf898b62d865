-- Every text is that of a report or has a first bad line.
use Rattle.std.proofs.Common.{◌≡◌, ℕ, zero, suc, ◌+◌, ◌^◌, ◌<◌, ◌≤◌, min, List, [], ◌∷◌, ◌++◌, length, length-append, sym, refl, ap, ◌∙◌, append_assoc, append-nil, inl, inr, ◌⊎◌, arith}
use Rattle.std.specs.Prelude.{◌≢◌, Option, Some, None}
use Rattle.std.proofs.lemmas.Bool.{cases_lt}
use Rattle.mpb_spec.specs.declared.config.Imcr.{Imcr}
use Rattle.mpb_spec.specs.declared.entry.Entry.{Entry}
use Rattle.mpb_spec.specs.declared.pulse.Pulse.{Pulse}
use Rattle.mpb_spec.specs.declared.pulse.Hit.{Hit}
use Rattle.mpb_report_spec.specs.EntryLines.{entry_line}
use Rattle.mpb_report_spec.specs.LogLines.{log_line}
use Rattle.mpb_report_spec.specs.StateLines.{imcr_line}
use Rattle.mpb_report_spec.specs.Report.{title_line, end_line}
use Rattle.mpt_line.specs.Lines.{BeginsWith}
use Rattle.mpt_line.proofs.Exact.{IsExact, reads_none, some_is}
use Rattle.mpt_line.proofs.CallerLemmas.{HasFirstLine, text-first}
use Rattle.mpb_report_line.specs.declared.report.CpuLine.{CpuLine}
use Rattle.mpb_report_line.specs.declared.report.IoLine.{IoLine}
use Rattle.mpb_report_line.specs.declared.report.Report.{Report}
use Rattle.mpb_report_line.specs.Lines.{entry_count_line, cpu_text, io_text}
use Rattle.mpb_report_line.specs.Values.{IsRightEntry, IsRightLog, IsRightCpu, IsRightIo, IsRightImcr}
use Rattle.mpb_report_line.specs.Forms.{cpu_in, entry_count_in}
use Rattle.mpb_report_line.proofs.NumeralLemmas.{count_some, count_none}
use Rattle.mpb_report_line.proofs.EntryForms.{entry-exact}
use Rattle.mpb_report_line.proofs.LogForms.{log-exact}
use Rattle.mpb_report_line.proofs.StateForms.{imcr-exact, cpu-exact, io-exact}
use Rattle.mpt_parse.specs.declared.fault.LineWhy.{LineWhy}
use Rattle.mpt_parse.specs.declared.fault.LineWhy.TheVariants as why
use Rattle.mpt_parse.specs.Listings.{IsFirstBadLine}
use Rattle.mpb_report_parse.specs.declared.fault.ReportFault.TheVariants as fault
use Rattle.mpb_report_parse.specs.Reports.{IsReport, IsReportOf}
use Rattle.mpb_report_parse.specs.Languages.{run_text, run_end, AreFirstItems, up, IsEntryAt, IsLogAt, IsCpuFrom, cpu_line_at, above, IsIoAt, IsEnd, AreLogLines, IsFaultBehind, IsUnfinished, IsRightTail, tail_text}
use Rattle.mpb_report_parse.proofs.Prefix.{end_stop, late}
use Rattle.mpb_report_parse.proofs.Places.{entry_line_some, log_line_some, cpu_line_some, io_line_some, imcr_stop, tail_fault, tail_whole, tail_right, entries_stop, entries_fault}
use Rattle.mpb_report_parse.proofs.ListLemmas.{first_short}
use Rattle.mpb_report_parse.proofs.ReportLines.{all_of, few_of, title_stop, count_stop, report_fault, report_whole, behind_short}

-- a bad line behind so many valid ones
abbrev HasFault : (List (List ℕ) → Type 0) → ℕ → List ℕ → Type 0
HasFault L before text = (m : ℕ) × (w : LineWhy) × IsFaultBehind L before text (fault.Line m w)

unfinished : (before : ℕ) (text : List ℕ) → (m : ℕ) × (w : LineWhy) × IsUnfinished before text (fault.Line m w)
unfinished before [] = (before + 1, why.Early, (refl, refl))
unfinished before (c ∷ cs) = (before + 1, why.Form, (refl, λ e. absurd (cc (e))))

end_or_fault : (a before : ℕ) (text : List ℕ) → (text ≡ end_line) ⊎ HasFault (IsEnd a) before text
end_or_fault a before text = elim (text-first end_line text) [
  | inl k ↦ at k.0 k.1
  | inr none ↦ (let u = unfinished before text in inr (u.0, u.1, end_stop a text before (fault.Line u.0 u.1) none u.2))
]
  where
    at : (rest : List ℕ) → text ≡ end_line ++ rest → (text ≡ end_line) ⊎ HasFault (IsEnd a) before text
    at [] e = inl (e ∙ append-nil end_line)
    at (c ∷ r) e = inr (before + 2, why.Late, (2, refl, late a text (c ∷ r) e (λ k. absurd (cc (k)))))

-- ---- the first line of a kind

first_line : {A : Type 0} {t : A → List ℕ} {V : A → Type 0} {r : List ℕ → Option (A × List ℕ)} → IsExact t V r → (text : List ℕ) → HasFirstLine t V text
first_line {A} {t} {V} {r} f text = at (r text) refl
  where
    at : (o : Option (A × List ℕ)) → r text ≡ o → HasFirstLine t V text
    at None e = inr (reads_none f text e)
    at (Some x) e = let p = f.takes text x.0 x.1 e in inl (x.0, x.1, record { right = p.0; whole = p.1 })

-- an item at a place below a bound
below : {E : Type 0} (show : E → List ℕ) (R : E → Type 0) (m s : ℕ) (text : List ℕ) → HasFirstLine show R text → HasFirstLine show (λ e. (s < m) × R e) text
below {E} show R m s text first = by (cases_lt s m) first
  where
    by : (s < m) ⊎ (m ≤ s) → HasFirstLine show R text → HasFirstLine show (λ e. (s < m) × R e) text
    by (inl less) (inl x) = inl (x.0, x.1, record { right = (less, x.2.right); whole = x.2.whole })
    by (inl less) (inr none) = inr (λ e rest v h. none e rest v.1 h)
    by (inr past) x = inr (λ e rest v h. absurd (omega (arith, v.0, past)))

entry-first : (n s : ℕ) (text : List ℕ) → HasFirstLine (entry_line s) (IsEntryAt n s) text
entry-first n s text = below (entry_line s) IsRightEntry n s text (first_line (entry-exact s) text)

log-first : (d : ℕ) (text : List ℕ) → HasFirstLine (log_line d) (IsLogAt d) text
log-first d text = below (log_line d) IsRightLog 4 d text (first_line (log-exact d) text)

io-first : (a : ℕ) (text : List ℕ) → HasFirstLine (io_text a) (IsIoAt a) text
io-first a text = below (io_text a) IsRightIo 4 a text (first_line (io-exact a) text)

-- a processor whose id isn't too low
cpu-first : (low : ℕ) (text : List ℕ) → HasFirstLine (cpu_line_at low) (IsCpuFrom low) text
cpu-first low text = by (first_line cpu-exact text)
  where
    other : (p : CpuLine) (after : List ℕ) → p.id < low → BeginsWith cpu_text IsRightCpu text p after → (q : CpuLine) (rest : List ℕ) → IsCpuFrom low q → text ≢ cpu_line_at low q ++ rest
    other p after less b q rest v h =
        let k = some_is (q, rest) (p, after) (sym (cpu-exact.again q rest v.1) ∙ ap cpu_in (sym h ∙ b.whole) ∙ cpu-exact.again p after b.right) in
        let same : q.id ≡ p.id = ap (λ x. x.0.id) k in
        let high = v.0 in
        absurd (omega (arith, same, high, less))

    by_id : (p : CpuLine) (after : List ℕ) → BeginsWith cpu_text IsRightCpu text p after → (p.id < low) ⊎ (low ≤ p.id) → HasFirstLine (cpu_line_at low) (IsCpuFrom low) text
    by_id p after b (inl less) = inr (λ q rest v h. other p after less b q rest v h)
    by_id p after b (inr high) = inl (p, after, record { right = (high, b.right); whole = b.whole })

    by : HasFirstLine cpu_text IsRightCpu text → HasFirstLine (cpu_line_at low) (IsCpuFrom low) text
    by (inl x) = by_id x.0 x.1 x.2 (cases_lt x.0.id low)
    by (inr none) = inr (λ q rest v h. none q rest v.1 h)

-- how many entries there are
count-first : (text : List ℕ) → ((n : ℕ) × (rest : List ℕ) × (text ≡ entry_count_line n ++ rest)) ⊎ ((n : ℕ) (rest : List ℕ) → text ≢ entry_count_line n ++ rest)
count-first text = at (entry_count_in text) refl
  where
    at : (o : Option (ℕ × List ℕ)) → entry_count_in text ≡ o → ((n : ℕ) × (rest : List ℕ) × (text ≡ entry_count_line n ++ rest)) ⊎ ((n : ℕ) (rest : List ℕ) → text ≢ entry_count_line n ++ rest)
    at (Some x) e = let k = count_some text x.0 x.1 e in inl (k.0, x.1, k.2)
    at None e = inr (λ n rest h. count_none text e n rest h)

-- ---- the items of a kind whose lines begin a text

module _ {E : Type 0} (show : ℕ → E → List ℕ) (Right : ℕ → E → Type 0) (next : ℕ → E → ℕ) (first : (s : ℕ) (text : List ℕ) → HasFirstLine (show s) (Right s) text) (some : (s : ℕ) (e : E) → 1 ≤ length (show s e)) where
  abbrev SomeItems : ℕ → List ℕ → Type 0
  SomeItems s text = (es : List E) × (rest : List ℕ) × AreFirstItems show Right next s es text rest

  items_step : (s : ℕ) (text : List ℕ) (n : ℕ) → length text ≤ n → ((t : ℕ) (after : List ℕ) → length after < n → SomeItems t after) → SomeItems s text
  items_step s text n h more = elim (first s text) [
    | inl x ↦ at x.0 x.1 x.2
    | inr none ↦ ([], text, record { whole = refl; right = tt; last = none })
  ]
    where
      at : (e : E) (after : List ℕ) → BeginsWith (show s) (Right s) text e after → SomeItems s text
      at e after b =
          let one : 1 ≤ length (show s e) = some s e in
          let less : length after < length text = omega (arith, one, length-append (show s e) after, ap length b.whole) in
          let k = more (next s e) after (omega (arith, less, h)) in
          (e ∷ k.0, k.1, record { whole = b.whole ∙ ap (λ y. show s e ++ y) k.2.whole ∙ sym (append_assoc (show s e) (run_text show next (next s e) k.0) k.1); right = (b.right, k.2.right); last = k.2.last })

  items_in : (n : ℕ) (s : ℕ) (text : List ℕ) → length text ≤ n → SomeItems s text
  items_in zero s text h = items_step s text zero h (λ t after l. absurd (omega (arith, l)))
  items_in (suc n) s text h = items_step s text (suc n) h (λ t after l. items_in n t after (omega (arith, l)))

entries_in : (n : ℕ) (text : List ℕ) → (es : List Entry) × (rest : List ℕ) × AreFirstItems entry_line (IsEntryAt n) up 0 es text rest
entries_in n text = items_in entry_line (IsEntryAt n) up (entry-first n) entry_line_some (length text) 0 text (omega arith)

logs_in : (text : List ℕ) → (es : List (List (Pulse × Hit))) × (rest : List ℕ) × AreFirstItems log_line IsLogAt up 0 es text rest
logs_in text = items_in log_line IsLogAt up log-first log_line_some (length text) 0 text (omega arith)

cpus_in : (text : List ℕ) → (es : List CpuLine) × (rest : List ℕ) × AreFirstItems cpu_line_at IsCpuFrom above 0 es text rest
cpus_in text = items_in cpu_line_at IsCpuFrom above cpu-first cpu_line_some (length text) 0 text (omega arith)

ios_in : (text : List ℕ) → (es : List IoLine) × (rest : List ℕ) × AreFirstItems io_text IsIoAt up 0 es text rest
ios_in text = items_in io_text IsIoAt up io-first io_line_some (length text) 0 text (omega arith)

-- ---- the whole

-- what stands behind the entries
record IsTail (text : List ℕ) : Type 0 where
  logs : List (List (Pulse × Hit))
  imcr : Imcr
  cpus : List CpuLine
  ios : List IoLine
  right : IsRightTail logs cpus ios
  whole : text ≡ tail_text logs imcr cpus ios

tail_or_fault : (before : ℕ) (text : List ℕ) → IsTail text ⊎ HasFault (AreLogLines 0) before text
tail_or_fault before text = from (logs_in text)
  where
    from : (logs : List (List (Pulse × Hit))) × (rest : List ℕ) × AreFirstItems log_line IsLogAt up 0 logs text rest → IsTail text ⊎ HasFault (AreLogLines 0) before text
    from (logs, rest, p) = elim (first_line imcr-exact rest) [
      | inl x ↦ behind x.0 x.1 x.2
      | inr none ↦ (let u = unfinished (before + length logs) rest in inr (u.0, u.1, imcr_stop logs text rest before (fault.Line u.0 u.1) p none u.2))
    ]
      where
        behind : (r : Imcr) (after : List ℕ) → BeginsWith imcr_line IsRightImcr rest r after → IsTail text ⊎ HasFault (AreLogLines 0) before text
        behind r after b =
            let q = cpus_in after in
            let s = ios_in q.1 in
            elim (end_or_fault (run_end up 0 s.0) (before + length logs + 1 + length q.0 + length s.0) s.1) [
              | inl e ↦ inl (record { logs = logs; imcr = r; cpus = q.0; ios = s.0; right = tail_right logs q.0 s.0 text rest after q.1 s.1 p q.2 s.2; whole = tail_whole logs r q.0 s.0 text rest after q.1 s.1 p b q.2 s.2 e })
              | inr f ↦ inr (f.0, f.1, tail_fault logs r q.0 s.0 text rest after q.1 s.1 before (fault.Line f.0 f.1) p b q.2 s.2 f.2)
            ]

abbrev IsReportText : List ℕ → Type 0
IsReportText text = (r : Report) × IsReportOf r text

-- a text whose first two lines are right
counted : (text behind : List ℕ) → length text < 2 ^ 32 → text ≡ title_line ++ behind → (n : ℕ) (rest : List ℕ) → behind ≡ entry_count_line n ++ rest → IsReportText text ⊎ HasFault IsReport 0 text
counted text behind small title n rest count = from (entries_in n rest)
  where
    from : (es : List Entry) × (end : List ℕ) × AreFirstItems entry_line (IsEntryAt n) up 0 es rest end → IsReportText text ⊎ HasFault IsReport 0 text
    from (es, end, p) = by (cases_lt (length es) n)
      where
        high : length es ≤ n
        high = let k = few_of IsRightEntry n 0 es (omega arith) p.right in omega (arith, k)

        few : length es < 2 ^ 32
        few = let k = first_short entry_line (IsEntryAt n) up entry_line_some 0 es rest end p in let j = behind_short n text behind rest title count in omega (arith, k, j, small)

        whole : length es ≡ n → IsTail end → IsReportText text
        whole all t =
            let report : Report = record { entries = es; logs = t.logs; imcr = t.imcr; cpus = t.cpus; ios = t.ios } in
            let least : n ≡ min n 18446744073709551615 = omega (arith, all, few) in
            (report, report_whole report n n text behind rest title count least few (record { entries = all_of IsRightEntry n 0 es p.right; count_is = all; tail = t.right }) (p.whole ∙ ap (λ x. run_text entry_line up 0 es ++ x) t.whole))

        by_all : length es ≡ n → IsReportText text ⊎ HasFault IsReport 0 text
        by_all all = elim (tail_or_fault (2 + length es) end) [
          | inl t ↦ inl (whole all t)
          | inr f ↦ inr (f.0, f.1, report_fault n text behind rest (fault.Line f.0 f.1) title count (entries_fault n es rest end 2 (fault.Line f.0 f.1) p all f.2))
        ]

        by : (length es < n) ⊎ (n ≤ length es) → IsReportText text ⊎ HasFault IsReport 0 text
        by (inl less) = let u = unfinished (2 + length es) end in inr (u.0, u.1, report_fault n text behind rest (fault.Line u.0 u.1) title count (entries_stop n es rest end 2 (fault.Line u.0 u.1) p less u.2))
        by (inr past) = by_all (omega (arith, past, high))

report_or_fault : (text : List ℕ) → length text < 2 ^ 32 → IsReportText text ⊎ HasFault IsReport 0 text
report_or_fault text small = elim (text-first title_line text) [
  | inl k ↦ behind k.0 k.1
  | inr none ↦ (let u = unfinished 0 text in inr (u.0, u.1, title_stop text (fault.Line u.0 u.1) none u.2))
]
  where
    behind : (b : List ℕ) → text ≡ title_line ++ b → IsReportText text ⊎ HasFault IsReport 0 text
    behind b e = elim (count-first b) [
      | inl x ↦ counted text b small e x.0 x.1 x.2
      | inr none ↦ (let u = unfinished 1 b in inr (u.0, u.1, count_stop text b (fault.Line u.0 u.1) e none u.2))
    ]

pub every_text : (text : List ℕ) → length text < 2 ^ 32 → ((r : Report) × IsReportOf r text) ⊎ ((n : ℕ) × (w : LineWhy) × IsFirstBadLine IsReport text n w)
every_text text small = elim (report_or_fault text small) [
  | inl k ↦ inl k
  | inr f ↦ inr (f.2.0, f.1, f.2.2)
]
