-- What a loop has put together of members that were changed one by one.
use Rattle.std.proofs.Common.{◌≡◌, ℕ, ◌+◌, ◌<◌, List, [], ◌∷◌, ◌++◌, map, take, length, get_or, sym, ap, ◌∙◌}
use Rattle.std.proofs.lemmas.List.{map-append, take_more}

pub mapped_more : {A B : Type 0} (f : A → B) (members : List A) (i : ℕ) (default : A) (changed : B) (old new : List B) → i < length members
    → old ≡ map f (take i members) → changed ≡ f (get_or members i default) → new ≡ old ++ changed ∷ [] → new ≡ map f (take (i + 1) members)
mapped_more f members i default changed old new inside was is now =
    now
    ∙ ap (λ ys. ys ++ changed ∷ []) was
    ∙ ap (λ y. map f (take i members) ++ y ∷ []) is
    ∙ sym (map-append f (take i members) (get_or members i default ∷ []))
    ∙ ap (λ xs. map f xs) (sym (take_more members i default inside))
