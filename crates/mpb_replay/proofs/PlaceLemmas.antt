-- What stands at a place of two lists that are compared.
use Rattle.std.proofs.Common.{◌≡◌, ◌≢◌, ℕ, zero, suc, ◌<◌, Bool, true, false, List, [], ◌∷◌, length, map, get_or, refl, sym, ap, ◌∙◌, Option, Some, None, slice_get, MatchBool, nat_lt}
use Rattle.std.proofs.lemmas.Bool.{ltb-false}
use Rattle.mpb_spec.proofs.StateLemmas.{got_at, got_beyond}
use Rattle.std.specs.Option.{option_map}

pub got_map : {X Y : Type 0} (f : X → Y) (n : ℕ) (xs : List X) → slice_get (map f xs) n ≡ option_map f (slice_get xs n)
got_map f n [] = refl
got_map f zero (x ∷ xs) = refl
got_map f (suc n) (x ∷ xs) = got_map f n xs

-- an item that is read there
pub got_one : {X Y : Type 0} (f : X → Y) (n : ℕ) (xs : List X) (x : X) → n < length xs → x ≡ get_or xs n x → slice_get (map f xs) n ≡ Some (f x)
got_one {X = X} f n xs x lt is = got_map f n xs ∙ ap (option_map f) (got_at n xs x lt ∙ ap Some (sym is))

pub got_two : {X Y Z : Type 0} (f : Y → Z) (g : X → Y) (n : ℕ) (xs : List X) (x : X) → n < length xs → x ≡ get_or xs n x → slice_get (map f (map g xs)) n ≡ Some (f (g x))
got_two f g n xs x lt is = got_map f n (map g xs) ∙ ap (option_map f) (got_one g n xs x lt is)

-- none
pub got_none : {X Y : Type 0} (f : X → Y) (n : ℕ) (xs : List X) → false ≡ nat_lt n (length xs) → slice_get (map f xs) n ≡ None
got_none f n xs e = got_map f n xs ∙ ap (option_map f) (got_beyond n xs (ltb-false n (length xs) (sym e)))

pub got_none_two : {X Y Z : Type 0} (f : Y → Z) (g : X → Y) (n : ℕ) (xs : List X) → false ≡ nat_lt n (length xs) → slice_get (map f (map g xs)) n ≡ None
got_none_two f g n xs e = got_map f n (map g xs) ∙ ap (option_map f) (got_none g n xs e)

-- whether they are the same
pub both : {X : Type 0} (b : Bool) (x y : X) (r s : Option X) → r ≡ Some x → s ≡ Some y → MatchBool b (x ≡ y) (x ≢ y) → MatchBool b (r ≡ s) (r ≢ s)
both true x y r s e f m = e ∙ ap Some m ∙ sym f
both false x y r s e f m = λ same. m (let t : Some x ≡ Some y = sym e ∙ same ∙ f in cc)

pub left : {X : Type 0} (x : X) (r s : Option X) → r ≡ Some x → s ≡ None → r ≢ s
left x r s e f same = (let t : Some x ≡ None = sym e ∙ same ∙ f in cc)

pub right : {X : Type 0} (y : X) (r s : Option X) → r ≡ None → s ≡ Some y → r ≢ s
right y r s e f same = (let t : None ≡ Some y = sym e ∙ same ∙ f in cc)

pub neither : {X : Type 0} (r s : Option X) → r ≡ None → s ≡ None → r ≡ s
neither r s e f = e ∙ sym f
