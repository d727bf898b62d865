-- The fault of a listing, one line at a time.
use Rattle.std.proofs.Common.{◌≡◌, ℕ, ◌+◌, List, [], ◌∷◌, ◌++◌, length, sym, refl, ◌∙◌, subst, append_assoc, arith}
use Rattle.std.specs.Prelude.{◌≢◌}
use Rattle.std.specs.List.{flat_map, AllByRecursion}
use Rattle.mpt_parse.specs.declared.fault.LineWhy.TheVariants as why
use Rattle.mpt_parse.specs.declared.fault.ListingFault.{ListingFault}
use Rattle.mpt_parse.specs.declared.fault.ListingFault.TheVariants as fault
use Rattle.mpt_parse.specs.Listings.{IsFirstBadLine, end_line}
use Rattle.mpt_parse.specs.Languages.{IsEnd, IsFaultBehind, IsUnfinished}
use Rattle.mpt_parse.proofs.BadLines.{step_line, narrow_line, stop_line, no_last, no_other_line, late_line}

pub step : (L M : List (List ℕ) → Type 0) (x text rest : List ℕ) (before : ℕ) (f : ListingFault) → ((ls : List (List ℕ)) → L (x ∷ ls) → M ls) → ((ls : List (List ℕ)) → M ls → L (x ∷ ls))
    → text ≡ x ++ rest → IsFaultBehind M (before + 1) rest f → IsFaultBehind L before text f
step L M x text rest before (fault.Line m w) to from e (n, k, h) = (n + 1, omega arith, step_line L M x text rest n w to from e h)
step L M x text rest before (fault.DoesNotFit bytes) to from e h = h
step L M x text rest before fault.NoMemory to from e h = tt

-- several valid lines of one kind
pub steps : {E : Type 0} (L : List (List ℕ) → Type 0) (V : E → Type 0) (show : E → List ℕ) (es : List E) (text rest : List ℕ) (before : ℕ) (f : ListingFault)
    → ((e : E) (ls : List (List ℕ)) → L (show e ∷ ls) → L ls) → ((e : E) (ls : List (List ℕ)) → V e → L ls → L (show e ∷ ls))
    → text ≡ flat_map show es ++ rest → AllByRecursion V es → IsFaultBehind L (before + length es) rest f → IsFaultBehind L before text f
steps {E} L V show [] text rest before f to from e v h = let z : before + 0 ≡ before = omega arith in rw (e, ← z) h
steps {E} L V show (x ∷ es) text rest before f to from e v h =
    let k : before + 1 + length es ≡ before + length (x ∷ es) = omega arith in
    step L L (show x) text (flat_map show es ++ rest) before f (to x) (λ ls m. from x ls v.0 m) (e ∙ append_assoc (show x) (flat_map show es) rest)
    (steps L V show es (flat_map show es ++ rest) rest (before + 1) f to from refl v.1 (subst (λ (j : ℕ). IsFaultBehind L j rest f) (sym k) h))

-- A smaller set serves where each member of the larger one whose first line begins the text is in the smaller.
module _ (L M : List (List ℕ) → Type 0) (text : List ℕ) (wider : (ls : List (List ℕ)) → L ls → M ls)
    (here : (x follow : List ℕ) (ls : List (List ℕ)) → text ≡ x ++ follow → M (x ∷ ls) → L (x ∷ ls)) (some : M [] → ⊥) where
  pub narrow : (before : ℕ) (f : ListingFault) → IsFaultBehind L before text f → IsFaultBehind M before text f
  narrow before (fault.Line m w) (n, k, h) = (n, k, narrow_line L M text wider here some n w h)
  narrow before (fault.DoesNotFit bytes) h = h
  narrow before fault.NoMemory h = tt

-- no line begins a member: the first line is bad
pub stop : (L : List (List ℕ) → Type 0) (text : List ℕ) (before : ℕ) (f : ListingFault) → (ls : List (List ℕ)) × L ls → (L [] → ⊥)
    → ((x follow : List ℕ) (ls : List (List ℕ)) → text ≡ x ++ follow → L (x ∷ ls) → ⊥) → IsUnfinished before text f → IsFaultBehind L before text f
stop L text before (fault.Line m w) member none here h = (1, h.0, stop_line L text w member none here h.1)
stop L text before (fault.DoesNotFit bytes) member none here h = h
stop L text before fault.NoMemory member none here h = tt

-- the end: it is the last line alone, there are bytes behind it, or another line stands there
pub end_stop : (text : List ℕ) (before : ℕ) (f : ListingFault) → ((rest : List ℕ) → text ≢ end_line ++ rest) → IsUnfinished before text f → IsFaultBehind IsEnd before text f
end_stop text before f none h = stop IsEnd text before f (end_line ∷ [], refl) (no_last end_line) (no_other_line end_line text none) h

-- bytes behind the last line
pub late : (text rest : List ℕ) (before : ℕ) → text ≡ end_line ++ rest → rest ≢ [] → IsFirstBadLine IsEnd text 2 why.Late
late text rest before e h = late_line end_line text rest e h
