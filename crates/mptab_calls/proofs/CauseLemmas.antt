-- What follows from an answer that was given: each status's cause, that it comes whole, and that no failure is hidden.
use Rattle.std.proofs.Common.{◌≡◌, ℕ, ◌⊎◌, List, Option, sym, subst, ◌∙◌, inl, inr}
use Rattle.mpt_base.specs.Outside.{Files}
use Rattle.mptab_walk.specs.Forms.{Form, Boot, IsForm, IsStill, IsAny, form_of_still, form_of_tables}
use Rattle.mptab_walk.specs.declared.words.StillCommand.{StillCommand}
use Rattle.mptab_walk.specs.declared.words.StillCommand.TheVariants as still
use Rattle.mptab_walk.specs.declared.words.TablesCommand.{TablesCommand}
use Rattle.mptab_walk.specs.declared.words.TablesCommand.TheVariants as tables
use Rattle.mptab_walk.specs.Commands.{IsRefused, IsText}
use Rattle.mptab_walk.specs.Walk.{Outside, IsDueOf, Answers, IsComplete, TellsFailures, TellsMisses, IsNoForm}
use Rattle.mptab_walk.proofs.FormReading.{same_form}
use Rattle.mptab_calls.specs.Causes.{Cause, Done, Usage, NoFile, CannotRead, CannotWrite, Refused, NoMemory, TooLarge}

-- what is due to a form, in its row
form_cause : (listed : Form → Type 0) (told : Option Files) (before after : Outside) (words : List (List ℕ)) (result status : ℕ) (text : List ℕ) (form : Form) → result ≡ status → listed form → IsForm form words → IsDueOf told before after form status text → Cause listed told before after words result
form_cause listed told before after words result status text form e l is (inl (inl (file, reached, inl a), counted)) = NoFile (e ∙ a.0) (counted.0 a.0) (form, l, is, (file, reached, a.1))
form_cause listed told before after words result status text form e l is (inl (inl (file, reached, inr (inl a)), counted)) = TooLarge (e ∙ a.0) (form, l, is, (file, reached, (a.1, a.2)))
form_cause listed told before after words result status text form e l is (inl (inl (file, reached, inr (inr a)), counted)) = Refused (form, l, is, (file, reached, (text, subst (λ (k : ℕ). IsRefused told file k text) (sym e) a)))
form_cause listed told before after words result status text form e l is (inl (inr a, counted)) = Done (form, l, is, (a.0, text, subst (λ (k : ℕ). IsText told form k text) (sym e) a.1))
form_cause listed told before after words result status text form e l is (inr (inl a)) = CannotRead (e ∙ a.0) a.1.0 (form, l, is, (a.2, a.3, tt))
form_cause listed told before after words result status text form e l is (inr (inr a)) = NoMemory (e ∙ a.0) (form, l, is, a.2)

-- an answer that was given has its status's cause
pub Answers-cause : (listed : Form → Type 0) (told : Option Files) (before after : Outside) (words : List (List ℕ)) (result : ℕ) → Answers listed told before after words result → Cause listed told before after words result
Answers-cause listed told before after words result (s, t, due, inr d) = CannotWrite d.0 d.1
Answers-cause listed told before after words result (s, t, inl u, inl d) = Usage (d.0 ∙ u.0.1) u.0.0
Answers-cause listed told before after words result (s, t, inr (form, l, is, due), inl d) = form_cause listed told before after words result s t form d.0 l is due

-- without a failed read and a failed write an answer of the walk is given whole, unless memory ran out
pub Answers-whole : (listed : Form → Type 0) (told : Option Files) (before after : Outside) (words : List (List ℕ)) (result : ℕ) → Answers listed told before after words result → IsComplete listed told before after words result
Answers-whole listed told before after words result (s, t, due, inr d) = λ r w. absurd (w d.1)
Answers-whole listed told before after words result (s, t, inl u, inl d) = λ r w. inl (t, inl (u.0.0, d.0 ∙ u.0.1, u.0.2), d.2)
Answers-whole listed told before after words result (s, t, inr (form, l, is, inl x), inl d) = λ r w. inl (t, inr (form, l, is, rw (d.0) x.0), d.2)
Answers-whole listed told before after words result (s, t, inr (form, l, is, inr (inl x)), inl d) = λ r w. absurd (r x.1.0)
Answers-whole listed told before after words result (s, t, inr (form, l, is, inr (inr x)), inl d) = λ r w. inr (d.0 ∙ x.0, rw (← x.3) d.2)

-- no failure is hidden behind an answer
pub Answers-failures : (listed : Form → Type 0) (told : Option Files) (before after : Outside) (words : List (List ℕ)) (result : ℕ) → Answers listed told before after words result → TellsFailures before after result
Answers-failures listed told before after words result (s, t, due, inr d) = record { reads = inr (inl d.0); writes = inl d.0 }
Answers-failures listed told before after words result (s, t, inl u, inl d) = record { reads = inr (inr u.1.0); writes = inr d.1 }
Answers-failures listed told before after words result (s, t, inr (form, l, is, inl x), inl d) = record { reads = inr (inr x.1.1); writes = inr d.1 }
Answers-failures listed told before after words result (s, t, inr (form, l, is, inr (inl x)), inl d) = record { reads = inl (d.0 ∙ x.0); writes = inr d.1 }
Answers-failures listed told before after words result (s, t, inr (form, l, is, inr (inr x)), inl d) = record { reads = inr (inr x.1.0); writes = inr d.1 }

-- nor a file that isn't there
pub Answers-misses : (listed : Form → Type 0) (told : Option Files) (before after : Outside) (words : List (List ℕ)) (result : ℕ) → Answers listed told before after words result → TellsMisses before after result
Answers-misses listed told before after words result (s, t, due, inr d) = inr (inl d.0)
Answers-misses listed told before after words result (s, t, inl u, inl d) = inr (inr u.1.1)
Answers-misses listed told before after words result (s, t, inr (form, l, is, inl x), inl d) = missed x.1.2
  where
    missed : (s ≡ 3) ⊎ (after.misses ≡ before.misses) → TellsMisses before after result
    missed (inl three) = inl (d.0 ∙ three)
    missed (inr same) = inr (inr same)
Answers-misses listed told before after words result (s, t, inr (form, l, is, inr (inl x)), inl d) = inr (inr x.1.1)
Answers-misses listed told before after words result (s, t, inr (form, l, is, inr (inr x)), inl d) = inr (inr x.1.1)

-- ---- forms that need no threads

pub still_form : (c : StillCommand) → IsStill (form_of_still c)
still_form (still.OfTables c) = of_tables c
  where
    of_tables : (d : TablesCommand) → IsStill (form_of_tables d)
    of_tables (tables.Show image) = tt
    of_tables (tables.Audit image) = tt
    of_tables (tables.Canon image) = tt
    of_tables (tables.Raise image) = tt
    of_tables (tables.Madt image elcr) = tt
    of_tables (tables.Pirmake image) = tt
    of_tables (tables.Build listing) = tt
    of_tables (tables.Route image elcr) = tt
still_form (still.Trace files) = tt
still_form (still.Drill n) = tt
still_form (still.Replay files) = tt
still_form (still.Madtcmp files) = tt
still_form (still.Pircmp files) = tt
still_form (still.Pic files) = tt

-- words that are no form are none that needs no threads
pub no_form-still : (words : List (List ℕ)) → IsNoForm IsAny words → IsNoForm IsStill words
no_form-still words none form listed is = none form tt is

-- the words of a boot are none
pub boot-alone : (image script : List ℕ) (words : List (List ℕ)) → IsForm (Boot image script) words → IsNoForm IsStill words
boot-alone image script words boot form listed is = subst IsStill (same_form form (Boot image script) words is boot) listed
