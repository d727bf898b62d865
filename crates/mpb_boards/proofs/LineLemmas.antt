-- An agent in a line, by one part or by two.
use Rattle.std.proofs.Common.{◌≡◌, ℕ, List, [], ◌∷◌, ◌++◌, sym, ap, ◌∙◌}
use Rattle.std.specs.List.{concat}
use Rattle.std.proofs.lemmas.List.{append_assoc, append-nil}
use Rattle.mpt_listing.specs.Listing.{line}

pub word_line_is : (before kind number agent : List ℕ) (rest : List (List ℕ)) → agent ≡ concat (kind ∷ number ∷ []) → line (before ∷ kind ∷ number ∷ rest) ≡ line (before ∷ agent ∷ rest)
word_line_is before kind number agent rest e =
    let whole : kind ++ number ≡ agent = ap (λ xs. kind ++ xs) (sym (append-nil number)) ∙ sym e in
    ap (λ xs. before ++ xs) (sym (append_assoc kind number (line rest)) ∙ ap (λ xs. xs ++ line rest) whole)
