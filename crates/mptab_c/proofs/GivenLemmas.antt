-- A whole answer with lent files is what a call gives.
use Rattle.std.proofs.Common.{◌≡◌, ℕ, List, [], ◌++◌, length, Some, sym, ap, subst, ◌∙◌, inl, inr, ◌⊎◌, arith}
use Rattle.mpt_base.specs.Outside.{Files, Rose}
use Rattle.mptab_walk.specs.Forms.{IsStill}
use Rattle.mptab_walk.specs.Texts.{no_memory_line}
use Rattle.mptab_walk.specs.Walk.{outside, IsAnswer, IsComplete, AnswersWhole, TellsFailures}
use Rattle.mptab_c.specs.Lent.{LentState, lent_files}
use Rattle.mptab_c.specs.Given.{IsGiven, IsHanded, Gives}

no_rise : Rose 0 0 → ⊥
no_rise rose = omega arith

no_put : (f f' result : ℕ) → f ≡ 0 → (result ≡ 5 → ⊥) → (result ≡ 5) ⊎ (f' ≡ f) → Rose f f' → ⊥
no_put f f' result zero ne (inl e) rose = ne e
no_put f f' result zero ne (inr e) rose = omega arith

text_of : (w w' text : List ℕ) → w ≡ [] → Some w' ≡ Some (w ++ text) → w' ≡ text
text_of w w' text empty put =
    let same : w' ≡ w ++ text = cc in
    same ∙ ap (λ (l : List ℕ). l ++ text) empty

from_whole : (files : Files) (m a m' a' f f' : ℕ) (w w' : List ℕ) (words : List (List ℕ)) (result : ℕ) → w ≡ [] → AnswersWhole IsStill (Some files) (outside m 0 a f (Some w)) (outside m' 0 a' f' (Some w')) words result → IsGiven files words result w'
from_whole files m a m' a' f f' w w' words result empty (inl (text, is, put)) = inl (subst (λ (t : List ℕ). IsAnswer IsStill (Some files) words result t) (sym (text_of w w' text empty put)) is)
from_whole files m a m' a' f f' w w' words result empty (inr (nine, put)) = inr (nine, text_of w w' no_memory_line empty put)

IsGiven-whole : (files : Files) (m a m' a' f f' : ℕ) (w w' : List ℕ) (words : List (List ℕ)) (result : ℕ) → f ≡ 0 → w ≡ [] → (result ≡ 5 → ⊥) → TellsFailures (outside m 0 a f (Some w)) (outside m' 0 a' f' (Some w')) result → IsComplete IsStill (Some files) (outside m 0 a f (Some w)) (outside m' 0 a' f' (Some w')) words result → IsGiven files words result w'
IsGiven-whole files m a m' a' f f' w w' words result zero empty ne tells complete = from_whole files m a m' a' f f' w w' words result empty (complete no_rise (no_put f f' result zero ne tells.writes))

-- what the walk over a shelf of lent files answers is handed to the caller
pub Gives-whole : (shelf begun : LentState) (m a m' a' f f' : ℕ) (w w' text : List ℕ) (words : List (List ℕ)) (before after : List ℕ) (needed status result : ℕ) → shelf ≡ begun → f ≡ 0 → w ≡ [] → (status ≡ 5 → ⊥) → TellsFailures (outside m 0 a f (Some w)) (outside m' 0 a' f' (Some w')) status → IsComplete IsStill (Some (lent_files shelf.files)) (outside m 0 a f (Some w)) (outside m' 0 a' f' (Some w')) words status → text ≡ w' → needed ≡ length text → IsHanded status text before after result → Gives (lent_files begun.files) words before after needed result
Gives-whole shelf begun m a m' a' f f' w w' text words before after needed status result same zero empty ne tells complete e n handed =
    let given = IsGiven-whole (lent_files shelf.files) m a m' a' f f' w w' words status zero empty ne tells complete in
    let told : IsGiven (lent_files shelf.files) words status text = subst (λ (t : List ℕ). IsGiven (lent_files shelf.files) words status t) (sym e) given in
    (status, text, subst (λ (s : LentState). IsGiven (lent_files s.files) words status text) same told, n, handed)

-- the same words under another name
pub Gives-words : (files : Files) (words words' : List (List ℕ)) (before after : List ℕ) (needed result : ℕ) → words ≡ words' → Gives files words before after needed result → Gives files words' before after needed result
Gives-words files words words' before after needed result e gives = subst (λ (x : List (List ℕ)). Gives files x before after needed result) e gives
