-- What the walk over an image and a second file meets is what is due to the form.
use Rattle.std.proofs.Common.{◌≡◌, ℕ, ◌+◌, ◌≤◌, List, [], ◌∷◌, Option, Result, Ok, Err, IfOk, refl, sym, subst, inl, inr, arith}
use Rattle.std.specs.List.{AllByRecursion}
use Rattle.mpt_base.specs.Outside.{Files}
use Rattle.mpt_spec.specs.declared.tables.Tables.{Tables}
use Rattle.mpt_base.specs.declared.outside.NoMemory.{NoMemory}
use Rattle.mptab_walk.specs.declared.answer.Answer.{Answer}
use Rattle.mptab_walk.specs.declared.ending.Ending.{Ending}
use Rattle.mptab_walk.specs.Texts.{no_memory_line}
use Rattle.mptab_walk.specs.Forms.{Form, Named, Image, files_of, name_of}
use Rattle.mptab_walk.specs.Commands.{ImageGives, IsUnderstood, IsText, status_of}
use Rattle.mptab_walk.specs.Walk.{Outside, IsQuiet, IsDueOf, AsksOf, Reaches, IsFirstRead, most_of}
use Rattle.mptab_walk.specs.Ending.{ending_status, ending_text, answer_status, answer_text, IsEnding, shelves}
use Rattle.mptab_walk.proofs.AnswerLemmas.{ending_at}
use Rattle.mptab_walk.proofs.BoardLemmas.{image-there}

module _ (told : Option Files) (form : Form) (image : List ℕ) (second : Named) (files-are : files_of form ≡ Image image ∷ second ∷ []) where
  -- where the walk ends at the image, that is due
  pub image-ends : (before after : Outside) (e : Ending) → IsEnding told (shelves before.misses after.misses before.faults after.faults) (Image image) e → IsDueOf told before after form (ending_status e) (ending_text image e)
  image-ends before after e h =
      ending_at told before after form (Image image) e (subst (λ fs. Reaches told fs (Image image)) (sym files-are) (inl refl)) (λ there. subst (λ fs. IsFirstRead told fs) (sym files-are) there) h

  -- and that is all that is asked for
  pub asks-image : (before after : ℕ) → after ≤ before + most_of told (Image image) → (n : ℕ) × (after ≤ before + n) × AsksOf told (files_of form) n
  asks-image before after le = (most_of told (Image image), le, subst (λ fs. AsksOf told fs (most_of told (Image image))) (sym files-are) (inl (omega arith)))

  module _ (tables : Tables) (gives : ImageGives told image tables) where
    reaches-second : Reaches told (files_of form) second
    reaches-second = subst (λ fs. Reaches told fs second) (sym files-are) (inr ((tables, gives), inl refl))

    image-first : IsFirstRead told (files_of form)
    image-first = subst (λ fs. IsFirstRead told fs) (sym files-are) (image-there told image tables gives)

    -- where it ends at the second file, that is due
    pub second-ends : (before after : Outside) (e : Ending) → IsEnding told (shelves before.misses after.misses before.faults after.faults) second e → IsDueOf told before after form (ending_status e) (ending_text (name_of second) e)
    second-ends before after e h = ending_at told before after form second e reaches-second (λ there. image-first) h

    -- and where memory is wanting behind it, that
    second-unmade : (before after : Outside) → IsQuiet before after → IsDueOf told before after form 9 no_memory_line
    second-unmade before after kept = inr (inr (refl, kept, image-first, refl))

    -- and its text where both files are understood
    second-due : (before after : Outside) (status : ℕ) (text : List ℕ) → IsQuiet before after → IsUnderstood told second → ¬ (status ≡ 3) → IsText told form status text → IsDueOf told before after form status text
    second-due before after status text kept understood not-absent is =
        inl (inr (subst (λ fs. AllByRecursion (IsUnderstood told) fs) (sym files-are) ((tables, gives), (understood, tt)), is), ((λ three. absurd (not-absent three)), kept.0, inr kept.1))

    -- what it is answered there, or want of memory
    pub second-answer : (before after : Outside) (r : Result Answer NoMemory) (P : ℕ → List ℕ → Type 0) → IsQuiet before after → IsUnderstood told second → ((status : ℕ) (text : List ℕ) → P status text → (¬ (status ≡ 3)) × IsText told form status text) → IfOk r (λ a. P a.status a.text.items)
        → IsDueOf told before after form (answer_status r) (answer_text r)
    second-answer before after (Ok a) P kept understood given h = let both = given a.status a.text.items h in second-due before after a.status a.text.items kept understood both.0 both.1
    second-answer before after (Err e) P kept understood given h = second-unmade before after kept

    -- what is asked for
    pub asks-second : (before between after : ℕ) → between ≤ before + most_of told (Image image) → after ≤ between + most_of told second → (n : ℕ) × (after ≤ before + n) × AsksOf told (files_of form) n
    asks-second before between after first last = (
      most_of told (Image image) + most_of told second,
      omega (arith, first, last),
      subst (λ fs. AsksOf told fs (most_of told (Image image) + most_of told second)) (sym files-are)
          (inr ((tables, gives), most_of told (Image image), most_of told second, refl, omega arith, inl (omega arith))),
    )

-- where something is found the status is 1, else 0
pub found-there : {A : Type 0} (xs : List A) (status : ℕ) → status ≡ status_of xs → ¬ (status ≡ 3)
found-there [] status e three = omega (arith, three, e)
found-there (x ∷ xs) status e three = omega (arith, three, e)
