-- A text's parts: the first one, and those behind its space.
use Rattle.std.proofs.Common.{◌≡◌, ◌==◌, ℕ, ◌≤◌, List, [], ◌∷◌, length, get_or, Option, Some, None, Bor, option_copied, lit<, sym, ap, ◌∙◌, arith}
use Rattle.std.proofs.lemmas.Bool.{ne_eqb}
use Rattle.std.proofs.lemmas.List.{get_or_default}
use Rattle.std.proofs.lemmas.Str.Pattern.{IsSplitOnceResult, split_once_first, split_parts}
use Rattle.std.proofs.lemmas.List.Splits.{slice_split_first, slice_split_none, length-slice_split}
use Rattle.std.specs.List.{after_first}
use Rattle.mpb_words.specs.Words.{parts_of}
use Rattle.mpb_words.specs.Steps.{parts_behind}

-- there is at least one part
pub some_parts : (text : List ℕ) → 1 ≤ length (parts_of text)
some_parts text =
    let e = length-slice_split (λ b. b == 32) text in
    omega arith

-- a cut at the first space
pub cut_at : (text : List ℕ) (part rest : Bor (List ℕ)) → IsSplitOnceResult 32 text (Some (part, rest)) → parts_of text ≡ part.now ∷ parts_of rest.now
cut_at text part rest is =
    let found = split_once_first 32 text (Some (part, rest)) is (lit< tt) in
    slice_split_first (λ b. b == 32) text 0 found.0
    ∙ ap (λ (t : List ℕ). t ∷ parts_of (after_first (λ b. b == 32) text)) (sym found.1)
    ∙ ap (λ (t : List ℕ). part.now ∷ parts_of t) (sym found.2)

-- a text without a space is one part
pub cut_nowhere : (text : List ℕ) → IsSplitOnceResult 32 text None → parts_of text ≡ text ∷ []
cut_nowhere text is =
    let other = split_parts 32 text None is (lit< tt) in
    slice_split_none (λ b. b == 32) text (λ i d lt. ne_eqb (get_or text i d) 32 (λ e. other i lt (get_or_default text i 0 d lt ∙ e)))

-- a part before a space has another one behind it
pub parts_more : (text : List ℕ) (part : List ℕ) (rest : Option (Bor (List ℕ))) (x : Bor (List ℕ)) → parts_of text ≡ part ∷ parts_behind (option_copied rest) → rest ≡ Some x → parts_of text ≡ part ∷ parts_of x.now
parts_more text part rest x cut is = cut ∙ ap (λ (o : Option (Bor (List ℕ))). part ∷ parts_behind (option_copied o)) is

-- and a part before none is all of them
pub parts_end : (text : List ℕ) (part : List ℕ) (rest : Option (Bor (List ℕ))) → parts_of text ≡ part ∷ parts_behind (option_copied rest) → rest ≡ None → parts_of text ≡ part ∷ []
parts_end text part rest cut is = cut ∙ ap (λ (o : Option (Bor (List ℕ))). part ∷ parts_behind (option_copied o)) is

-- so there are more than the first
pub several_parts : (text part rest : List ℕ) → parts_of text ≡ part ∷ parts_of rest → 2 ≤ length (parts_of text)
several_parts text part rest is =
    let e = ap length is in
    let some = some_parts rest in
    omega arith
