-- Lines that are written part by part.
use Rattle.std.proofs.Common.{◌≡◌, ℕ, List, ◌++◌, sym, ap, ◌∙◌, append_assoc}
use Rattle.std.specs.List.{concat}
use Rattle.mpb_report.proofs.LineLemmas.{concat-append}

-- a part, and what is written behind it
pub written_behind : (o x y p q : List ℕ) → p ≡ o ++ x → q ≡ p ++ y → q ≡ o ++ (x ++ y)
written_behind o x y p q first then = then ∙ ap (λ (t : List ℕ). t ++ y) first ∙ append_assoc o x y

-- the same of lines
pub lines_behind : (o p q : List ℕ) (xs ys : List (List ℕ)) → p ≡ o ++ concat xs → q ≡ p ++ concat ys → q ≡ o ++ concat (xs ++ ys)
lines_behind o p q xs ys first then = written_behind o (concat xs) (concat ys) p q first then ∙ ap (λ (t : List ℕ). o ++ t) (sym (concat-append xs ys))
