-- The items whose lines begin a text, one more at a time.
use Rattle.std.proofs.Common.{◌≡◌, ℕ, ◌+◌, ◌^◌, ◌<◌, ◌≤◌, List, [], ◌∷◌, ◌++◌, length, sym, ap, ◌∙◌, subst, length-append, arith}
use Rattle.std.specs.List.{AllByRecursion}
use Rattle.mpt_line.specs.Lines.{BeginsWith, BeginsWithNone}
use Rattle.mpt_line.proofs.Exact.{some_is}
use Rattle.mpb_spec.specs.declared.config.Imcr.{Imcr}
use Rattle.mpb_spec.specs.declared.entry.Entry.{Entry}
use Rattle.mpb_report_spec.specs.StateLines.{imcr_line}
use Rattle.mpb_report_spec.specs.EntryLines.{entry_line}
use Rattle.mpb_report_line.specs.declared.report.CpuLine.{CpuLine}
use Rattle.mpb_report_line.specs.Lines.{cpu_text}
use Rattle.mpb_report_line.specs.Values.{IsRightEntry, IsRightCpu, IsRightImcr}
use Rattle.mpb_report_line.specs.Forms.{cpu_in}
use Rattle.mpb_report_line.proofs.StateForms.{cpu-exact}
use Rattle.mpb_report_parse.specs.Languages.{run_text, run_end, AreRightFrom, AreFirstItems, up, above, IsCpuFrom, cpu_line_at}
use Rattle.mpb_report_parse.proofs.Runs.{text_more, end_more, right_more, items_short}
use Rattle.mpb_report_parse.proofs.Places.{up_end, entry_line_some}

-- numbered items
module _ {E : Type 0} (show : ℕ → E → List ℕ) (Right : ℕ → E → Type 0) where
  pub up_more : (es : List E) (e : E) (text rest after : List ℕ) (k : ℕ) → (text ≡ run_text show up 0 es ++ rest) × AreRightFrom Right up 0 es × (length es ≡ k) → BeginsWith (show k) (Right k) rest e after
      → (text ≡ run_text show up 0 (es ++ e ∷ []) ++ after) × AreRightFrom Right up 0 (es ++ e ∷ []) × (length (es ++ e ∷ []) ≡ k + 1)
  up_more es e text rest after k (whole, right, count) b =
      let end : k ≡ run_end up 0 es = sym count ∙ sym (up_end es) in (
        text_more show up 0 es e text rest after whole (b.whole ∙ ap (λ (j : ℕ). show j e ++ after) end),
        right_more show up Right 0 es e right (subst (λ (j : ℕ). Right j e) end b.right),
        omega (arith, length-append es (e ∷ []), count),
      )

  pub up_first : (es : List E) (text rest : List ℕ) (k : ℕ) → (text ≡ run_text show up 0 es ++ rest) × AreRightFrom Right up 0 es × (length es ≡ k) → BeginsWithNone (show k) (Right k) rest → AreFirstItems show Right up 0 es text rest
  up_first es text rest k (whole, right, count) none =
      let end : k ≡ run_end up 0 es = sym count ∙ sym (up_end es) in
      record { whole = whole; right = right; last = subst (λ (j : ℕ). BeginsWithNone (show j) (Right j) rest) end none }

-- an item below four, and none behind
pub below_four : {E : Type 0} (show : E → List ℕ) (R : E → Type 0) (k : ℕ) (rest : List ℕ) (e : E) (after : List ℕ) → k < 4 → BeginsWith show R rest e after → BeginsWith show (λ x. (k < 4) × R x) rest e after
below_four {E} show R k rest e after h b = record { right = (h, b.right); whole = b.whole }

pub none_below_four : {E : Type 0} (show : E → List ℕ) (R : E → Type 0) (k : ℕ) (rest : List ℕ) → BeginsWithNone show R rest → BeginsWithNone show (λ x. (k < 4) × R x) rest
none_below_four {E} show R k rest none = λ e follow v h. none e follow v.1 h

pub none_at_four : {E : Type 0} (show : E → List ℕ) (R : E → Type 0) (k : ℕ) (rest : List ℕ) → 4 ≤ k → BeginsWithNone show (λ x. (k < 4) × R x) rest
none_at_four {E} show R k rest h = λ e follow v w. absurd (omega (arith, v.0, h))

-- entries
all_more : (es : List Entry) (e : Entry) → AllByRecursion IsRightEntry es → IsRightEntry e → AllByRecursion IsRightEntry (es ++ e ∷ [])
all_more [] e v w = (w, tt)
all_more (x ∷ es) e v w = (v.0, all_more es e v.1 w)

abbrev pub AreEntriesTo : List Entry → List ℕ → List ℕ → ℕ → ℕ → Type 0
AreEntriesTo es text rest k count = (text ≡ run_text entry_line up 0 es ++ rest) × AllByRecursion IsRightEntry es × (length es ≡ k) × (k ≤ count)

pub entry_more : (es : List Entry) (e : Entry) (text rest after : List ℕ) (k count : ℕ) → AreEntriesTo es text rest k count → k < count → BeginsWith (entry_line k) IsRightEntry rest e after → AreEntriesTo (es ++ e ∷ []) text after (k + 1) count
entry_more es e text rest after k count (whole, right, number, low) less b =
    let end : k ≡ run_end up 0 es = sym number ∙ sym (up_end es) in (
      text_more entry_line up 0 es e text rest after whole (b.whole ∙ ap (λ (j : ℕ). entry_line j e ++ after) end),
      all_more es e right b.right,
      omega (arith, length-append es (e ∷ []), number),
      omega arith,
    )

pub entry_room : (es : List Entry) (e : Entry) (text rest after : List ℕ) (k count : ℕ) → AreEntriesTo es text rest k count → BeginsWith (entry_line k) IsRightEntry rest e after → length text < 2 ^ 32 → k + 1 < 2 ^ 32
entry_room es e text rest after k count (whole, right, number, low) b small =
    omega (arith, items_short entry_line up entry_line_some 0 es text rest whole, number, length-append (entry_line k e) after, ap length b.whole, entry_line_some k e)

-- processors
pub cpu_more : (es : List CpuLine) (e : CpuLine) (text rest after : List ℕ) (low : ℕ) → (text ≡ run_text cpu_line_at above 0 es ++ rest) × AreRightFrom IsCpuFrom above 0 es × (run_end above 0 es ≡ low) → low ≤ e.id → BeginsWith cpu_text IsRightCpu rest e after
    → (text ≡ run_text cpu_line_at above 0 (es ++ e ∷ []) ++ after) × AreRightFrom IsCpuFrom above 0 (es ++ e ∷ []) × (run_end above 0 (es ++ e ∷ []) ≡ e.id + 1)
cpu_more es e text rest after low (whole, right, end) high b = (
  text_more cpu_line_at above 0 es e text rest after whole b.whole,
  right_more cpu_line_at above IsCpuFrom 0 es e right (omega (arith, end, high), b.right),
  end_more cpu_line_at above 0 es e,
)

pub cpu_first : (es : List CpuLine) (text rest : List ℕ) (low : ℕ) → (text ≡ run_text cpu_line_at above 0 es ++ rest) × AreRightFrom IsCpuFrom above 0 es × (run_end above 0 es ≡ low) → BeginsWithNone cpu_text IsRightCpu rest → AreFirstItems cpu_line_at IsCpuFrom above 0 es text rest
cpu_first es text rest low (whole, right, end) none = record { whole = whole; right = right; last = λ p follow v h. none p follow v.1 h }

-- one whose id is too low: the text begins with the line of no other
pub cpu_low : (es : List CpuLine) (e : CpuLine) (text rest after : List ℕ) (low : ℕ) → (text ≡ run_text cpu_line_at above 0 es ++ rest) × AreRightFrom IsCpuFrom above 0 es × (run_end above 0 es ≡ low) → e.id < low → BeginsWith cpu_text IsRightCpu rest e after
    → AreFirstItems cpu_line_at IsCpuFrom above 0 es text rest
cpu_low es e text rest after low (whole, right, end) less b = record { whole = whole; right = right; last = λ p follow v h. other p follow v.0 v.1 h }
  where
    other : (p : CpuLine) (follow : List ℕ) → run_end above 0 es ≤ p.id → IsRightCpu p → rest ≡ cpu_text p ++ follow → ⊥
    other p follow high v h =
        let k = some_is (p, follow) (e, after) (sym (cpu-exact.again p follow v) ∙ ap cpu_in (sym h ∙ b.whole) ∙ cpu-exact.again e after b.right) in
        let same : p.id ≡ e.id = ap (λ x. x.0.id) k in
        absurd (omega (arith, same, high, end, less))

pub cpu_shorter : (e : CpuLine) (rest after : List ℕ) → BeginsWith cpu_text IsRightCpu rest e after → length after < length rest
cpu_shorter e rest after b =
    let some : 1 ≤ length (cpu_text e) = omega arith in
    omega (arith, length-append (cpu_text e) after, ap length b.whole, some)

-- there are no more lines than bytes
pub first_short : {E : Type 0} (show : ℕ → E → List ℕ) (Right : ℕ → E → Type 0) (next : ℕ → E → ℕ) → ((s : ℕ) (e : E) → 1 ≤ length (show s e)) → (s : ℕ) (es : List E) (text rest : List ℕ) → AreFirstItems show Right next s es text rest → length es + length rest ≤ length text
first_short {E} show Right next some s es text rest p = items_short show next some s es text rest p.whole

pub imcr_short : (r : Imcr) (text rest : List ℕ) → BeginsWith imcr_line IsRightImcr text r rest → length rest + 1 ≤ length text
imcr_short r text rest b =
    let some : 1 ≤ length (imcr_line r) = omega arith in
    omega (arith, length-append (imcr_line r) rest, ap length b.whole, some)
