-- Pieces put one after another into an image.
use Rattle.std.proofs.Common.{◌≡◌, ℕ, ◌+◌, List, [], ◌++◌, take, drop, sym, ap, ◌∙◌, append-nil, add-zero}
use Rattle.std.proofs.lemmas.List.{take-append-drop}
use Rattle.mpt_base.specs.Writing.{overlay}

pub pieces : (i0 i1 i2 i3 w p q b : List ℕ) (at address : ℕ) → i1 ≡ overlay i0 0x40E w → q ≡ p → i2 ≡ overlay i1 at q → i3 ≡ overlay i2 address b
    → i3 ≡ overlay (overlay (overlay i0 0x40E w) at p) address b
pieces i0 i1 i2 i3 w p q b at address h1 hq h2 h3 =
    h3 ∙ ap (λ x. overlay x address b) (h2 ∙ ap (λ x. overlay x at q) h1 ∙ ap (λ y. overlay (overlay i0 0x40E w) at y) hq)

pub nothing : (image : List ℕ) (at : ℕ) → image ≡ overlay image at []
nothing image at = sym (ap (λ xs. xs ++ drop (at + 0) image) (append-nil (take at image)) ∙ ap (λ n. take at image ++ drop n image) (add-zero at) ∙ take-append-drop at image)
