-- The fault of a report, one line at a time.
use Rattle.std.proofs.Common.{◌≡◌, ℕ, ◌+◌, List, [], ◌∷◌, ◌++◌, refl, arith}
use Rattle.std.specs.Prelude.{◌≢◌}
use Rattle.mpb_report_spec.specs.Report.{end_line}
use Rattle.mpt_parse.specs.declared.fault.LineWhy.TheVariants as why
use Rattle.mpt_parse.specs.Listings.{IsFirstBadLine}
use Rattle.mpt_parse.proofs.BadLines.{step_line, narrow_line, stop_line, no_last, no_other_line, late_line}
use Rattle.mpb_report_parse.specs.declared.fault.ReportFault.{ReportFault}
use Rattle.mpb_report_parse.specs.declared.fault.ReportFault.TheVariants as fault
use Rattle.mpb_report_parse.specs.Languages.{IsEnd, IsFaultBehind, IsUnfinished}

pub step : (L M : List (List ℕ) → Type 0) (x text rest : List ℕ) (before : ℕ) (f : ReportFault) → ((ls : List (List ℕ)) → L (x ∷ ls) → M ls) → ((ls : List (List ℕ)) → M ls → L (x ∷ ls))
    → text ≡ x ++ rest → IsFaultBehind M (before + 1) rest f → IsFaultBehind L before text f
step L M x text rest before (fault.Line m w) to from e (n, k, h) = (n + 1, omega arith, step_line L M x text rest n w to from e h)
step L M x text rest before fault.NoMemory to from e h = tt

-- A smaller set serves where each member of the larger one whose first line begins the text is in the smaller.
module _ (L M : List (List ℕ) → Type 0) (text : List ℕ) (wider : (ls : List (List ℕ)) → L ls → M ls)
    (here : (x follow : List ℕ) (ls : List (List ℕ)) → text ≡ x ++ follow → M (x ∷ ls) → L (x ∷ ls)) (some : M [] → ⊥) where
  pub narrow : (before : ℕ) (f : ReportFault) → IsFaultBehind L before text f → IsFaultBehind M before text f
  narrow before (fault.Line m w) (n, k, h) = (n, k, narrow_line L M text wider here some n w h)
  narrow before fault.NoMemory h = tt

-- no line begins a member: the first line is bad
pub stop : (L : List (List ℕ) → Type 0) (text : List ℕ) (before : ℕ) (f : ReportFault) → (ls : List (List ℕ)) × L ls → (L [] → ⊥)
    → ((x follow : List ℕ) (ls : List (List ℕ)) → text ≡ x ++ follow → L (x ∷ ls) → ⊥) → IsUnfinished before text f → IsFaultBehind L before text f
stop L text before (fault.Line m w) member none here h = (1, h.0, stop_line L text w member none here h.1)
stop L text before fault.NoMemory member none here h = absurd h

-- the end: it is the last line alone, there are bytes behind it, or another line stands there
pub no_end : (a : ℕ) → IsEnd a [] → ⊥
no_end a e = no_last end_line e

pub end_stop : (a : ℕ) (text : List ℕ) (before : ℕ) (f : ReportFault) → ((rest : List ℕ) → text ≢ end_line ++ rest) → IsUnfinished before text f → IsFaultBehind (IsEnd a) before text f
end_stop a text before f none h = stop (IsEnd a) text before f (end_line ∷ [], refl) (no_end a) (no_other_line end_line text none) h

-- bytes behind the last line
pub late : (a : ℕ) (text rest : List ℕ) → text ≡ end_line ++ rest → rest ≢ [] → IsFirstBadLine (IsEnd a) text 2 why.Late
late a text rest e h = late_line end_line text rest e h
