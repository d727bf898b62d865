-- The walk has an answer, and one alone. Nothing here names a command.
use Rattle.std.proofs.Common.{◌≡◌, ℕ, ◌≤◌, ◌<◌, ◌⊎◌, List, [], ◌∷◌, length, Option, Some, None, refl, sym, subst, ◌∙◌, ap, inl, inr, arith}
use Rattle.std.specs.Prelude.{option_map, ⊤}
use Rattle.std.specs.List.{AllByRecursion}
use Rattle.std.proofs.lemmas.Bool.{cases_lt}
use Rattle.mpt_base.specs.Outside.{Files}
use Rattle.mpt_laws.proofs.EntryJudgment.{Decided}
use Rattle.mptab_walk.specs.Texts.{usage_line, no_file_line, too_large_line}
use Rattle.mptab_walk.specs.Forms.{Form, Named, IsForm, files_of, name_of, limit_of}
use Rattle.mptab_walk.specs.Commands.{IsUnderstood, IsRefused, IsText}
use Rattle.mptab_walk.specs.Walk.{IsAnswer, IsAnswerOf, EndsAt, Reaches}
use Rattle.mptab_walk.proofs.FormReading.{same_form, form_judged}
use Rattle.mptab_laws.specs.Laws.{AreBytesTold, HasOneText, AreAlike}
use Rattle.mptab_laws.proofs.Rows.{refused_read, understood_read, refused_not_understood, refused_one, file_judged, text_one, texts_alike, text_given, IsRead-bytes, IsReady, AreReady, form_ready}

-- ---- one

-- a file that is read isn't absent, and not too large
not_absent : (held : Option (List ℕ)) (b : List ℕ) → held ≡ Some b → None ≡ option_map length held → ⊥
not_absent None b e n = cc
not_absent (Some x) b e n = cc

not_large : (held : Option (List ℕ)) (b : List ℕ) (size limit : ℕ) → held ≡ Some b → length b ≤ limit → Some size ≡ option_map length held → limit < size → ⊥
not_large None b size limit e w n l = cc
not_large (Some x) b size limit e w n l = let same : x ≡ b = cc in let len : size ≡ length x = cc in let lens = ap length same in omega (arith, len, lens, w, l)

-- the end at a file comes with no understood file
ends_not_understood : (files : Files) (file : Named) (s : ℕ) (t : List ℕ) → EndsAt (Some files) file s t → IsUnderstood (Some files) file → ⊥
ends_not_understood files file s t (inl a) u = let r = IsRead-bytes files file (λ b. ⊤) (understood_read files file u) in not_absent (files (name_of file)) r.0 r.1 a.1
ends_not_understood files file s t (inr (inl a)) u = let r = IsRead-bytes files file (λ b. ⊤) (understood_read files file u) in not_large (files (name_of file)) r.0 a.1 (limit_of file) r.1 r.2 (a.2).0 (a.2).1
ends_not_understood files file s t (inr (inr a)) u = refused_not_understood files file s t a u

large_not_refused : (files : Files) (file : Named) (size s : ℕ) (t : List ℕ) → Some size ≡ option_map length (files (name_of file)) → limit_of file < size → IsRefused (Some files) file s t → ⊥
large_not_refused files file size s t e l a = let r = IsRead-bytes files file (λ b. ⊤) (refused_read files file s t a) in not_large (files (name_of file)) r.0 size (limit_of file) r.1 r.2 e l

absent_not_refused : (files : Files) (file : Named) (s : ℕ) (t : List ℕ) → None ≡ option_map length (files (name_of file)) → IsRefused (Some files) file s t → ⊥
absent_not_refused files file s t e a = let r = IsRead-bytes files file (λ b. ⊤) (refused_read files file s t a) in not_absent (files (name_of file)) r.0 r.1 e

ends_one : (files : Files) (file : Named) (s u : ℕ) (t v : List ℕ) → EndsAt (Some files) file s t → EndsAt (Some files) file u v → (s ≡ u) × (t ≡ v)
ends_one files file s u t v (inl a) (inl b) = (a.0 ∙ sym b.0, a.2 ∙ sym b.2)
ends_one files file s u t v (inl a) (inr (inl b)) = let e : None ≡ Some b.1 = a.1 ∙ sym (b.2).0 in absurd cc
ends_one files file s u t v (inl a) (inr (inr b)) = absurd (absent_not_refused files file u v a.1 b)
ends_one files file s u t v (inr (inl a)) (inl b) = let e : None ≡ Some a.1 = b.1 ∙ sym (a.2).0 in absurd cc
ends_one files file s u t v (inr (inl a)) (inr (inl b)) =
    let both : Some a.1 ≡ Some b.1 = (a.2).0 ∙ sym (b.2).0 in
    let same : a.1 ≡ b.1 = cc in
    (a.0 ∙ sym b.0, a.3 ∙ ap (too_large_line (name_of file)) same ∙ sym b.3)
ends_one files file s u t v (inr (inl a)) (inr (inr b)) = absurd (large_not_refused files file a.1 u v (a.2).0 (a.2).1 b)
ends_one files file s u t v (inr (inr a)) (inl b) = absurd (absent_not_refused files file s t b.1 a)
ends_one files file s u t v (inr (inr a)) (inr (inl b)) = absurd (large_not_refused files file b.1 s t (b.2).0 (b.2).1 a)
ends_one files file s u t v (inr (inr a)) (inr (inr b)) = refused_one files file s u t v a b

-- the walk ends at one file
end_is_one : (files : Files) (fs : List Named) (f g : Named) (s u : ℕ) (t v : List ℕ) → Reaches (Some files) fs f → EndsAt (Some files) f s t → Reaches (Some files) fs g → EndsAt (Some files) g u v → (s ≡ u) × (t ≡ v)
end_is_one files [] f g s u t v rf ef rg eg = absurd rf
end_is_one files (h ∷ hs) f g s u t v (inl a) ef (inl b) ed = ends_one files h s u t v (subst (λ (x : Named). EndsAt (Some files) x s t) (sym a) ef) (subst (λ (x : Named). EndsAt (Some files) x u v) (sym b) ed)
end_is_one files (h ∷ hs) f g s u t v (inl a) ef (inr b) eg = absurd (ends_not_understood files h s t (subst (λ (x : Named). EndsAt (Some files) x s t) (sym a) ef) b.0)
end_is_one files (h ∷ hs) f g s u t v (inr a) ef (inl b) eg = absurd (ends_not_understood files h u v (subst (λ (x : Named). EndsAt (Some files) x u v) (sym b) eg) a.0)
end_is_one files (h ∷ hs) f g s u t v (inr a) ef (inr b) eg = end_is_one files hs f g s u t v a.1 ef b.1 eg

-- where it ends at a file, not each is understood
pub end_not_all : (files : Files) (fs : List Named) (f : Named) (s : ℕ) (t : List ℕ) → Reaches (Some files) fs f → EndsAt (Some files) f s t → AllByRecursion (IsUnderstood (Some files)) fs → ⊥
end_not_all files [] f s t r e all = absurd r
end_not_all files (h ∷ hs) f s t (inl a) e all = ends_not_understood files h s t (subst (λ (x : Named). EndsAt (Some files) x s t) (sym a) e) all.0
end_not_all files (h ∷ hs) f s t (inr a) e all = end_not_all files hs f s t a.1 e all.1

-- what two ends at one file, and two texts of one form, have in common, two answers have
module _ (R : Type 0) (s u : ℕ) (t v : List ℕ) (same : (s ≡ u) × (t ≡ v) → R) where
  form_by : (files : Files) (form : Form) → (IsText (Some files) form s t → IsText (Some files) form u v → R) → IsAnswerOf (Some files) form s t → IsAnswerOf (Some files) form u v → R
  form_by files form texts (inl a) (inl b) = same (end_is_one files (files_of form) a.0 b.0 s u t v a.1 a.2 b.1 b.2)
  form_by files form texts (inl a) (inr b) = absurd (end_not_all files (files_of form) a.0 s t a.1 a.2 b.0)
  form_by files form texts (inr a) (inl b) = absurd (end_not_all files (files_of form) b.0 u v b.1 b.2 a.0)
  form_by files form texts (inr a) (inr b) = texts a.1 b.1

  answer_by : (listed : Form → Type 0) (files : Files) (words : List (List ℕ)) → ((form : Form) → listed form → IsForm form words → IsText (Some files) form s t → IsText (Some files) form u v → R) → IsAnswer listed (Some files) words s t → IsAnswer listed (Some files) words u v → R
  answer_by listed files words texts (inl a) (inl b) = same (a.1 ∙ sym b.1, a.2 ∙ sym b.2)
  answer_by listed files words texts (inl a) (inr (form, l, is, b)) = absurd (a.0 form l is)
  answer_by listed files words texts (inr (form, l, is, a)) (inl b) = absurd (b.0 form l is)
  answer_by listed files words texts (inr (form, l, is, a)) (inr (other, l', is', b)) =
      let one : form ≡ other = same_form form other words is is' in
      form_by files form (texts form l is) a (subst (λ (x : Form). IsAnswerOf (Some files) x u v) (sym one) b)

pub answer_one : (listed : Form → Type 0) (files : Files) (words : List (List ℕ)) (s u : ℕ) (t v : List ℕ) → ((form : Form) → listed form → IsForm form words → HasOneText form) → IsAnswer listed (Some files) words s t → IsAnswer listed (Some files) words u v → (s ≡ u) × (t ≡ v)
answer_one listed files words s u t v one a b = answer_by ((s ≡ u) × (t ≡ v)) s u t v (λ same. same) listed files words (λ form l is. text_one files form s u t v (one form l is)) a b

pub answers_alike : (listed : Form → Type 0) (files : Files) (words : List (List ℕ)) (s u : ℕ) (t v : List ℕ) → IsAnswer listed (Some files) words s t → IsAnswer listed (Some files) words u v → AreAlike s u t v
answers_alike listed files words s u t v a b = answer_by (AreAlike s u t v) s u t v (λ same. (same.0, λ n. same.1)) listed files words (λ form l is. texts_alike files form s u t v) a b

-- ---- some

held_ends : (files : Files) (file : Named) (held : Option (List ℕ)) → IsReady files file → files (name_of file) ≡ held → IsUnderstood (Some files) file ⊎ ((s : ℕ) × (t : List ℕ) × EndsAt (Some files) file s t)
held_ends files file None ready e = inr (3, no_file_line (name_of file), inl (refl, ap (option_map length) (sym e), refl))
held_ends files file (Some b) ready e = by_size (cases_lt (limit_of file) (length b))
  where
    by_kind : IsUnderstood (Some files) file ⊎ ((s : ℕ) × (t : List ℕ) × IsRefused (Some files) file s t) → IsUnderstood (Some files) file ⊎ ((s : ℕ) × (t : List ℕ) × EndsAt (Some files) file s t)
    by_kind (inl u) = inl u
    by_kind (inr (s, t, r)) = inr (s, t, inr (inr r))

    by_size : (limit_of file < length b) ⊎ (length b ≤ limit_of file) → IsUnderstood (Some files) file ⊎ ((s : ℕ) × (t : List ℕ) × EndsAt (Some files) file s t)
    by_size (inl past) = inr (10, too_large_line (name_of file) (length b), inr (inl (refl, length b, (ap (option_map length) (sym e), past), refl)))
    by_size (inr within) = by_kind (file_judged files file b ready e within)

walk_judged : (files : Files) (fs : List Named) → AreReady files fs → AllByRecursion (IsUnderstood (Some files)) fs ⊎ ((s : ℕ) × (t : List ℕ) × (file : Named) × Reaches (Some files) fs file × EndsAt (Some files) file s t)
walk_judged files [] ready = inl tt
walk_judged files (f ∷ fs) ready = by_file (held_ends files f (files (name_of f)) ready.0 refl) (λ u. walk_judged files fs (ready.1 u))
  where
    by_rest : IsUnderstood (Some files) f → AllByRecursion (IsUnderstood (Some files)) fs ⊎ ((s : ℕ) × (t : List ℕ) × (file : Named) × Reaches (Some files) fs file × EndsAt (Some files) file s t)
        → AllByRecursion (IsUnderstood (Some files)) (f ∷ fs) ⊎ ((s : ℕ) × (t : List ℕ) × (file : Named) × Reaches (Some files) (f ∷ fs) file × EndsAt (Some files) file s t)
    by_rest u (inl all) = inl (u, all)
    by_rest u (inr (s, t, file, r, e)) = inr (s, t, file, inr (u, r), e)

    by_file : IsUnderstood (Some files) f ⊎ ((s : ℕ) × (t : List ℕ) × EndsAt (Some files) f s t) → (IsUnderstood (Some files) f → AllByRecursion (IsUnderstood (Some files)) fs ⊎ ((s : ℕ) × (t : List ℕ) × (file : Named) × Reaches (Some files) fs file × EndsAt (Some files) file s t))
        → AllByRecursion (IsUnderstood (Some files)) (f ∷ fs) ⊎ ((s : ℕ) × (t : List ℕ) × (file : Named) × Reaches (Some files) (f ∷ fs) file × EndsAt (Some files) file s t)
    by_file (inr (s, t, e)) rest = inr (s, t, f, inl refl, e)
    by_file (inl u) rest = by_rest u (rest u)

form_some : (files : Files) (form : Form) → AreBytesTold files → (s : ℕ) × (t : List ℕ) × IsAnswerOf (Some files) form s t
form_some files form bytes = by_walk (walk_judged files (files_of form) (form_ready files form bytes))
  where
    by_walk : AllByRecursion (IsUnderstood (Some files)) (files_of form) ⊎ ((s : ℕ) × (t : List ℕ) × (file : Named) × Reaches (Some files) (files_of form) file × EndsAt (Some files) file s t) → (s : ℕ) × (t : List ℕ) × IsAnswerOf (Some files) form s t
    by_walk (inl all) = let g = text_given files form bytes all in (g.0, g.1, inr (all, g.2))
    by_walk (inr (s, t, file, r, e)) = (s, t, inl (file, r, e))

pub answer_some : (listed : Form → Type 0) (files : Files) (words : List (List ℕ)) → ((form : Form) → Decided (listed form)) → AreBytesTold files → (s : ℕ) × (t : List ℕ) × IsAnswer listed (Some files) words s t
answer_some listed files words judged bytes = by_form (form_judged words)
  where
    by_listed : (form : Form) → IsForm form words → Decided (listed form) → (s : ℕ) × (t : List ℕ) × IsAnswer listed (Some files) words s t
    by_listed form is (inl l) = let a = form_some files form bytes in (a.0, a.1, inr (form, l, is, a.2))
    by_listed form is (inr n) = (2, usage_line, inl (λ other l is'. n (subst listed (same_form other form words is' is) l), refl, refl))

    by_form : ((form : Form) × IsForm form words) ⊎ ((form : Form) → ¬ IsForm form words) → (s : ℕ) × (t : List ℕ) × IsAnswer listed (Some files) words s t
    by_form (inl (form, is)) = by_listed form is (judged form)
    by_form (inr none) = (2, usage_line, inl (λ form l is. none form is, refl, refl))
