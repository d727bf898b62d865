-- A text that is written piece by piece.
use Rattle.std.proofs.Common.{◌≡◌, ℕ, ◌≤◌, List, [], ◌∷◌, ◌++◌, Option, Some, None, refl, sym, ap, ◌∙◌, append_assoc, ◌+◌, ◌<◌, length, get_or, drop, map, Result, Ok, Err, OnErr}
use Rattle.std.proofs.lemmas.List.{append-nil, drop_more, drop_all}
use Rattle.mpt_listing.specs.Listing.{line}
use Rattle.mpt_base.specs.Outside.{Appends, AppendsPrefix}

pub Appends-none : (a : Option (List ℕ)) → Appends a a []
Appends-none None = tt
Appends-none (Some x) = ap Some (sym (append-nil x))

pub Appends-then : (a b c : Option (List ℕ)) (x y : List ℕ) → Appends a b x → Appends b c y → Appends a c (x ++ y)
Appends-then None b c x y p q = tt
Appends-then (Some a) None c x y p q = absurd cc
Appends-then (Some a) (Some b) c x y p q =
    let same : b ≡ a ++ x = cc in
    q ∙ ap (λ (l : List ℕ). Some (l ++ y)) same ∙ ap Some (append_assoc a x y)

-- a first part of the text was written, and this is the rest of it
pub record WritesFront (before after : Option (List ℕ)) (text rest : List ℕ) : Type 0 where
  pub front : List ℕ
  pub split : text ≡ front ++ rest
  pub written : Appends before after front

pub WritesFront-start : (a : Option (List ℕ)) (text : List ℕ) → WritesFront a a text text
WritesFront-start a text = record { front = []; split = refl; written = Appends-none a }

pub WritesFront-piece : (a b c : Option (List ℕ)) (text piece rest rest' : List ℕ) → rest ≡ piece ++ rest' → WritesFront a b text rest → Appends b c piece → WritesFront a c text rest'
WritesFront-piece a b c text piece rest rest' e w p = record {
  front = w.front ++ piece;
  split = w.split ∙ ap (λ (l : List ℕ). w.front ++ l) e ∙ sym (append_assoc w.front piece rest');
  written = Appends-then a b c w.front piece w.written p;
}

pub WritesFront-end : (a b : Option (List ℕ)) (text rest : List ℕ) → rest ≡ [] → WritesFront a b text rest → Appends a b text
WritesFront-end a b text rest e w =
    let whole : w.front ≡ text = sym (append-nil w.front) ∙ ap (λ (l : List ℕ). w.front ++ l) (sym e) ∙ sym w.split in
    rw (← whole) w.written

pub WritesFront-fails : (a b c : Option (List ℕ)) (text piece rest rest' : List ℕ) → rest ≡ piece ++ rest' → WritesFront a b text rest → AppendsPrefix b c piece → AppendsPrefix a c text
WritesFront-fails a b c text piece rest rest' e w (front, back, split, written) =
    (w.front ++ front, back ++ rest', w.split ∙ ap (λ (l : List ℕ). w.front ++ l) (e ∙ ap (λ (l : List ℕ). l ++ rest') split ∙ append_assoc front back rest') ∙ sym (append_assoc w.front front (back ++ rest')), Appends-then a b c w.front front w.written written)

-- the parts of a line that are left, one by one
pub line-drop : {X : Type 0} (f : X → List ℕ) (parts : List X) (i : ℕ) (d : X) → i < length parts → line (map f (drop i parts)) ≡ f (get_or parts i d) ++ line (map f (drop (i + 1) parts))
line-drop {X} f parts i d lt = ap (λ (l : List X). line (map f l)) (drop_more parts i d lt)

-- what is left after the last part is the line feed
pub line-end : {X : Type 0} (f : X → List ℕ) (parts : List X) (i : ℕ) → length parts ≤ i → line (map f (drop i parts)) ≡ 10 ∷ []
line-end {X} f parts i le = ap (λ (l : List X). line (map f l)) (drop_all i parts le)

-- where the last piece fails, a first part of the text was written
pub WritesFront-last_fails : {E : Type 0} (r : Result (Unit {0}) E) (a b c : Option (List ℕ)) (text rest piece : List ℕ) → rest ≡ piece → WritesFront a b text rest → OnErr r (AppendsPrefix b c piece) → OnErr r (AppendsPrefix a c text)
WritesFront-last_fails (Ok x) a b c text rest piece e w err = tt
WritesFront-last_fails (Err x) a b c text rest piece e w err = WritesFront-fails a b c text piece rest [] (e ∙ sym (append-nil piece)) w err
