-- What those who cite the readers need of lines: two right values with one line are one, and a text begins with the line of a
-- right value or with that of none.
use Rattle.std.proofs.Common.{◌≡◌, ℕ, List, ◌++◌, inl, inr, ◌⊎◌, refl, sym, ap, ◌∙◌}
use Rattle.std.specs.Prelude.{◌≢◌, Option, Some, None}
use Rattle.mpt_spec.specs.declared.entry.Base.{Base}
use Rattle.mpt_spec.specs.declared.entry.Ext.{Ext}
use Rattle.mpt_spec.specs.Values.{IsBaseValue}
use Rattle.mpt_listing.specs.Listing.{base_line, ext_line}
use Rattle.mpt_line.specs.declared.heads.PointerLine.{PointerLine}
use Rattle.mpt_line.specs.declared.heads.HeaderLine.{HeaderLine}
use Rattle.mpt_line.specs.Lines.{IsRightPointer, pointer_text, IsRightHeader, header_text, IsRightExt, BeginsWith, BeginsWithNone}
use Rattle.mpt_line.specs.Reading.{text_in}
use Rattle.mpt_line.proofs.Exact.{IsExact, text_is_one, reads_none, text_again, text_takes}
use Rattle.mpt_line.proofs.BaseForms.{base-exact}
use Rattle.mpt_line.proofs.ExtForms.{ext-exact}
use Rattle.mpt_line.proofs.TableForms.{pointer-exact, header-exact}

-- two right values with one line are one
pub base_line-one : (a b : Base) → IsBaseValue a → IsBaseValue b → base_line a ≡ base_line b → a ≡ b
base_line-one = text_is_one base-exact

pub ext_line-one : (a b : Ext) → IsRightExt a → IsRightExt b → ext_line a ≡ ext_line b → a ≡ b
ext_line-one = text_is_one ext-exact

pub pointer_text-one : (a b : PointerLine) → IsRightPointer a → IsRightPointer b → pointer_text a ≡ pointer_text b → a ≡ b
pointer_text-one = text_is_one pointer-exact

pub header_text-one : (a b : HeaderLine) → IsRightHeader a → IsRightHeader b → header_text a ≡ header_text b → a ≡ b
header_text-one = text_is_one header-exact

-- the text begins with the line of a right value, or with that of none
abbrev pub HasFirstLine : {A : Type 0} → (A → List ℕ) → (A → Type 0) → List ℕ → Type 0
HasFirstLine {A} line Right text = ((a : A) × (rest : List ℕ) × BeginsWith line Right text a rest) ⊎ BeginsWithNone line Right text

first_line : {A : Type 0} {t : A → List ℕ} {V : A → Type 0} {r : List ℕ → Option (A × List ℕ)} → IsExact t V r → (text : List ℕ) → HasFirstLine t V text
first_line {A} {t} {V} {r} f text = at (r text) refl
  where
    at : (o : Option (A × List ℕ)) → r text ≡ o → HasFirstLine t V text
    at None e = inr (reads_none f text e)
    at (Some x) e = let p = f.takes text x.0 x.1 e in inl (x.0, x.1, record { right = p.0; whole = p.1 })

pub base_line-first : (text : List ℕ) → HasFirstLine base_line IsBaseValue text
base_line-first = first_line base-exact

pub ext_line-first : (text : List ℕ) → HasFirstLine ext_line IsRightExt text
ext_line-first = first_line ext-exact

pub pointer_text-first : (text : List ℕ) → HasFirstLine pointer_text IsRightPointer text
pointer_text-first = first_line pointer-exact

pub header_text-first : (text : List ℕ) → HasFirstLine header_text IsRightHeader text
header_text-first = first_line header-exact

-- a text begins with another, or doesn't
pub text-first : (front text : List ℕ) → ((rest : List ℕ) × (text ≡ front ++ rest)) ⊎ ((rest : List ℕ) → text ≢ front ++ rest)
text-first front text = at (text_in front text) refl
  where
    at : (o : Option (List ℕ)) → text_in front text ≡ o → ((rest : List ℕ) × (text ≡ front ++ rest)) ⊎ ((rest : List ℕ) → text ≢ front ++ rest)
    at (Some rest) e = inl (rest, text_takes front text rest e)
    at None e = inr (λ rest h. (let k : None ≡ Some rest = sym e ∙ ap (text_in front) h ∙ text_again front rest in absurd (cc (k))))
