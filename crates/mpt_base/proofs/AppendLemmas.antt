-- What a loop has appended: the pieces of the members so far, end to end.
use Rattle.std.proofs.Common.{◌≡◌, ℕ, ◌+◌, ◌≤◌, ◌<◌, List, ◌++◌, take, length, get_or, sym, ap, ◌∙◌}
use Rattle.std.specs.List.{flat_map}
use Rattle.std.proofs.lemmas.List.{flat_map_more, take_more, take_all}

-- the piece of one more member
pub appended_more : {T : Type 0} (piece : T → List ℕ) (members : List T) (i : ℕ) (default : T) (before old new : List ℕ) → i < length members
    → old ≡ before ++ flat_map piece (take i members) → new ≡ old ++ piece (get_or members i default) → new ≡ before ++ flat_map piece (take (i + 1) members)
appended_more piece members i default before old new inside was now =
    now
    ∙ ap (λ xs. xs ++ piece (get_or members i default)) was
    ∙ flat_map_more piece before (take i members) (get_or members i default)
    ∙ ap (λ xs. before ++ flat_map piece xs) (sym (take_more members i default inside))

-- the pieces of all members
pub appended_all : {T : Type 0} (piece : T → List ℕ) (members : List T) (i : ℕ) (before new : List ℕ) → length members ≤ i → new ≡ before ++ flat_map piece (take i members)
    → new ≡ before ++ flat_map piece members
appended_all piece members i before new all is = is ∙ ap (λ xs. before ++ flat_map piece xs) (take_all i members all)
