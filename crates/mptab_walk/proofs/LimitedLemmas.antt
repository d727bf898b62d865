-- What is said of the bytes of a file that was read whole is said of the file.
use Rattle.std.proofs.Common.{◌≡◌, ℕ, ◌+◌, ◌≤◌, ◌<◌, List, length, Option, Some, None, Result, Ok, Err, IfOk, IfErr, refl, sym, subst, ap, ◌∙◌, inl, inr, Vec, Global, arith}
use Rattle.std.specs.Prelude.{nat_lt, if◌then◌else◌, option_map, Bool, true, false}
use Rattle.std.proofs.lemmas.Bool.{ltb-true}
use Rattle.mpt_base.specs.Outside.{Files, IsSizeTold, Rose}
use Rattle.mpt_base.specs.declared.outside.NoMemory.{NoMemory as NoMemoryUnit}
use Rattle.mptab_walk.specs.declared.answer.Answer.{Answer}
use Rattle.mptab_walk.specs.declared.ending.Ending.{Ending}
use Rattle.mptab_walk.specs.declared.ending.Ending.TheVariants.{Absent, TooLarge, Unread, Refused, NoMemory}
use Rattle.mpt_parse.specs.Listings.{IsListing, IsListingOf, IsFirstBadLine}
use Rattle.mpt_table.specs.Windows.{IfTold}
use Rattle.mptab_walk.specs.Forms.{Named, Listing, name_of, limit_of, most_asked, IsRead}
use Rattle.mptab_walk.specs.Commands.{IsRefused}
use Rattle.mptab_walk.specs.Walk.{most_of, most_of_held}
use Rattle.mptab_walk.specs.Ending.{IsEnding, IsUndisturbed, Shelves, shelves}
use Rattle.mptab_walk.specs.Limited.{IsHeldWithin, IsUnreadEnding, most_held, most_within, IsRefusedBy, RefusesListing}
use Rattle.mptab_walk.proofs.AnswerLemmas.{IsRead-bytes, IsRead-there}

module _ (told : Option Files) (file : Named) (bytes : List ℕ) (held : IsHeldWithin told (name_of file) (limit_of file) bytes) where
  -- what holds of the bytes holds of the file
  pub held-read : (P : List ℕ → Type 0) → P bytes → IsRead told file P
  held-read P p = IsRead-bytes told file (length bytes) bytes P held.size held.within held.held p

  -- and what they are refused for it is refused for
  pub held-ends : (s : Shelves) (e : Ending) (refuses : ℕ → List ℕ → Type 0) → IsUndisturbed s → ((status : ℕ) (text : List ℕ) → refuses status text → IsRefused told file status text) → IsRefusedBy refuses e → IsEnding told s file e
  held-ends s (Refused answer) refuses kept refused h = (refused answer.status answer.text.items h, kept)
  held-ends s NoMemory refuses kept refused h = (IsRead-there told file (length bytes) held.size held.within, kept)
  held-ends s Absent refuses kept refused h = absurd h
  held-ends s Unread refuses kept refused h = absurd h
  held-ends s (TooLarge size) refuses kept refused h = absurd h

  -- of a value that is read of the bytes
  pub held-taken : {X : Type 0} (r : Result X Ending) (P : X → List ℕ → Type 0) → IfOk r (λ x. P x bytes) → IfOk r (λ x. IsRead told file (λ file-bytes. P x file-bytes))
  held-taken (Ok x) P h = held-read (P x) h
  held-taken (Err e) P h = tt

  pub held-ended : {X : Type 0} (r : Result X Ending) (s : Shelves) (refuses : ℕ → List ℕ → Type 0) → IsUndisturbed s → ((status : ℕ) (text : List ℕ) → refuses status text → IsRefused told file status text) → IfErr r (IsRefusedBy refuses) → IfErr r (IsEnding told s file)
  held-ended (Ok x) s refuses kept refused h = tt
  held-ended (Err e) s refuses kept refused h = held-ends s e refuses kept refused h

-- the bytes that are read of a file of this size are those of the file
pub held-within : (r : Result (Vec ℕ Global) Ending) (later told : Option Files) (name : List ℕ) (limit size : ℕ) → later ≡ told → IsSizeTold told name (Some size) → size ≤ limit → IfOk r (λ bytes. length bytes.items ≡ size) → IfOk r (λ bytes. IfTold later name (λ file. file ≡ bytes.items))
    → IfOk r (λ bytes. IsHeldWithin told name limit bytes.items)
held-within (Ok bytes) later told name limit size stays is within long held =
    record { within = omega (arith, long, within); size = subst (λ (n : ℕ). IsSizeTold told name (Some n)) (sym long) is; held = subst (λ (t : Option Files). IfTold t name (λ file. file ≡ bytes.items)) stays held }
held-within (Err e) later told name limit size stays is within long held = tt

-- what is met at the file of a name
pub absent-at : (told : Option Files) (s : Shelves) (name : List ℕ) (file : Named) → name_of file ≡ name → IsSizeTold told name None → Rose s.misses s.misses_after → s.faults_after ≡ s.faults → IsEnding told s file Absent
absent-at told s name file e absent missed kept = (subst (λ (n : List ℕ). IsSizeTold told n None) (sym e) absent, missed, kept)

pub large-at : (told : Option Files) (s : Shelves) (name : List ℕ) (limit size : ℕ) (file : Named) → name_of file ≡ name → limit_of file ≡ limit → IsSizeTold told name (Some size) → limit < size → IsUndisturbed s → IsEnding told s file (TooLarge size)
large-at told s name limit size file e l is large kept = ((subst (λ (n : List ℕ). IsSizeTold told n (Some size)) (sym e) is, omega (arith, l, large)), kept)

pub unread-at : {X : Type 0} (r : Result X Ending) (told : Option Files) (misses misses-between misses-after faults faults-between faults-after : ℕ) (name : List ℕ) (limit size : ℕ) (file : Named) → name_of file ≡ name → limit_of file ≡ limit → IsSizeTold told name (Some size) → size ≤ limit
    → faults-between ≡ faults → misses-between ≡ misses → IfErr r (IsUnreadEnding (shelves misses-between misses-after faults-between faults-after)) → IfErr r (IsEnding told (shelves misses misses-after faults faults-after) file)
unread-at (Ok x) told m mb ma f fb fa name limit size file e l is within unfailed found h = tt
unread-at (Err Unread) told m mb ma f fb fa name limit size file e l is within unfailed found h = (subst (λ (n : ℕ). Rose n fa) unfailed h.0, h.1 ∙ found)
unread-at (Err NoMemory) told m mb ma f fb fa name limit size file e l is within unfailed found h =
    (IsRead-there told file size (subst (λ (n : List ℕ). IsSizeTold told n (Some size)) (sym e) is) (omega (arith, l, within)), (h.0 ∙ unfailed, h.1 ∙ found))
unread-at (Err Absent) told m mb ma f fb fa name limit size file e l is within unfailed found h = absurd h
unread-at (Err (TooLarge n)) told m mb ma f fb fa name limit size file e l is within unfailed found h = absurd h
unread-at (Err (Refused answer)) told m mb ma f fb fa name limit size file e l is within unfailed found h = absurd h

-- of a file that is read within its limit no more is asked for than its size
pub asks-within : (told : Option Files) (name : List ℕ) (limit size before after : ℕ) → IsSizeTold told name (Some size) → size ≤ limit → after ≤ before + size → after ≤ before + most_within told name limit
asks-within None name limit size before after is within asks = omega (arith, within, asks)
asks-within (Some files) name limit size before after is within asks = of_held (files name) is
  where
    of_held : (o : Option (List ℕ)) → Some size ≡ option_map length o → after ≤ before + most_held o limit
    of_held None e = absurd cc
    of_held (Some bytes) e = by_test (nat_lt limit (length bytes)) refl
      where
        by_test : (t : Bool) → nat_lt limit (length bytes) ≡ t → after ≤ before + (if t then 0 else length bytes)
        by_test true is-large = let same : size ≡ length bytes = cc in let large : limit < length bytes = ltb-true limit (length bytes) is-large in absurd (omega (arith, same, large, within))
        by_test false is-small = let same : size ≡ length bytes = cc in omega (arith, same, asks)

-- of a file that is asked for once no more is asked for than it has
pub most_within-most : (told : Option Files) (file : Named) → ((n : ℕ) → most_asked file n ≡ n) → most_within told (name_of file) (limit_of file) ≡ most_of told file
most_within-most None file once = sym (once (limit_of file))
most_within-most (Some files) file once = of_held (files (name_of file))
  where
    of_held : (o : Option (List ℕ)) → most_held o (limit_of file) ≡ most_of_held o file
    of_held None = refl
    of_held (Some bytes) = ap (λ n. if nat_lt (limit_of file) (length bytes) then 0 else n) (sym (once (length bytes)))

-- a refusal with this status and text, or want of memory for it
pub refused_by : (answer : Result Answer NoMemoryUnit) (e : Ending) (refuses : ℕ → List ℕ → Type 0) (status : ℕ) (text : List ℕ) → refuses status text → IfOk answer (λ a. (a.status ≡ status) × (a.text.items ≡ text)) → IfOk answer (λ a. e ≡ Refused a) → IfErr answer (λ m. e ≡ NoMemory)
    → IsRefusedBy refuses e
refused_by (Ok a) e refuses status text h is ok err = subst (IsRefusedBy refuses) (sym ok) (subst (λ t. refuses a.status t) (sym is.1) (subst (λ n. refuses n text) (sym is.0) h))
refused_by (Err m) e refuses status text h is ok err = subst (IsRefusedBy refuses) (sym err) tt

pub both-ok : {X E : Type 0} (r : Result X E) (P Q : X → Type 0) → IfOk r P → IfOk r Q → IfOk r (λ x. P x × Q x)
both-ok (Ok x) P Q p q = (p, q)
both-ok (Err e) P Q p q = tt

-- a listing is refused for what its text is refused for
pub listing-refused : (told : Option Files) (name bytes : List ℕ) → IsHeldWithin told name (limit_of (Listing name)) bytes → (status : ℕ) (text : List ℕ) → RefusesListing bytes status text → IsRefused told (Listing name) status text
listing-refused told name bytes held status text (inl h) = inl (h.0, h.1, h.2, held-read told (Listing name) bytes held (λ listing. IsFirstBadLine IsListing listing h.1 h.2) h.3, h.4)
listing-refused told name bytes held status text (inr h) = inr (h.0, h.1, held-read told (Listing name) bytes held (λ listing. IsListingOf h.1 listing) h.2, h.3, h.4)
