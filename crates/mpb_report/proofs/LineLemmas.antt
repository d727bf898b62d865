-- Lines end to end, and numbered lines, one more at a time.
use Rattle.std.proofs.Common.{◌≡◌, ℕ, zero, suc, ◌+◌, ◌<◌, List, [], ◌∷◌, ◌++◌, length, get_or, take, map, refl, sym, ap, ◌∙◌, append_assoc, add-one, arith}
use Rattle.std.proofs.lemmas.List.{append-nil}
use Rattle.std.specs.List.{concat}
use Rattle.mpb_report_spec.specs.Numbered.{numbered}

pub concat-append : (xs ys : List (List ℕ)) → concat (xs ++ ys) ≡ concat xs ++ concat ys
concat-append [] ys = refl
concat-append (x ∷ xs) ys = ap (λ (t : List ℕ). x ++ t) (concat-append xs ys) ∙ sym (append_assoc x (concat xs) (concat ys))

numbered-more : {X : Type 0} (f : ℕ → X → List ℕ) (n : ℕ) (xs : List X) (i : ℕ) (d : X) → i < length xs
    → concat (numbered f n (take (suc i) xs)) ≡ concat (numbered f n (take i xs)) ++ f (n + i) (get_or xs i d)
numbered-more f n [] i d lt = absurd (omega arith)
numbered-more f n (x ∷ xs) zero d lt = let e : n + 0 ≡ n = omega arith in rw e (append-nil (f n x))
numbered-more f n (x ∷ xs) (suc i) d lt =
    let e : n + 1 + i ≡ n + suc i = omega arith in
    ap (λ (t : List ℕ). f n x ++ t) (numbered-more f (n + 1) xs i d (omega arith))
    ∙ sym (append_assoc (f n x) (concat (numbered f (n + 1) (take i xs))) (f (n + 1 + i) (get_or xs i d)))
    ∙ ap (λ (k : ℕ). (f n x ++ concat (numbered f (n + 1) (take i xs))) ++ f k (get_or xs i d)) e

-- one more numbered line at the end of a text
pub numbered_more : {X : Type 0} (bs : List ℕ) (f : ℕ → X → List ℕ) (xs : List X) (i : ℕ) (d : X) → i < length xs
    → (bs ++ concat (numbered f 0 (take i xs))) ++ f i (get_or xs i d) ≡ bs ++ concat (numbered f 0 (take (i + 1) xs))
numbered_more bs f xs i d lt =
    let e : 0 + i ≡ i = omega arith in
    append_assoc bs (concat (numbered f 0 (take i xs))) (f i (get_or xs i d))
    ∙ ap (λ (k : ℕ). bs ++ (concat (numbered f 0 (take i xs)) ++ f k (get_or xs i d))) (sym e)
    ∙ ap (λ (t : List ℕ). bs ++ t) (sym (numbered-more f 0 xs i d lt))
    ∙ ap (λ (k : ℕ). bs ++ concat (numbered f 0 (take k xs))) (sym (add-one i))

-- the lines of what the items show
pub numbered_map : {X Y : Type 0} (f : ℕ → Y → List ℕ) (g : X → Y) (n : ℕ) (xs : List X) → numbered f n (map g xs) ≡ numbered (λ k x. f k (g x)) n xs
numbered_map f g n [] = refl
numbered_map f g n (x ∷ xs) = ap (λ (t : List (List ℕ)). f n (g x) ∷ t) (numbered_map f g (n + 1) xs)
