-- Tables by number, one entry of a list more at a time.
use Rattle.std.proofs.Common.{◌≡◌, ℕ, ◌+◌, ◌<◌, Bool, true, false, cond, List, [], ◌∷◌, ◌++◌, length, take, get_or, set, replicate, sym, refl, ap, ◌∙◌, arith, append-nil}
use Rattle.std.specs.Prelude.{Option, Some, None, ◌==◌, if◌then◌else◌, find, option_map, filter}
use Rattle.std.specs.Option.{option_or}
use Rattle.std.proofs.lemmas.List.{take_more, get_or-replicate}
use Rattle.std.proofs.Math.ListN.{length-set, length-replicate}
use Rattle.std.proofs.lemmas.List.Elements.{filter-append}
use Rattle.std.proofs.lemmas.List.Folds.{find-append}
use Rattle.mpt_route.specs.Index.{IsTableOf}
use Rattle.mpt_route.proofs.ListLemmas.{set_first, keep_first}

module _ {X Y : Type 0} (key : X → ℕ) (g : X → Y) where
  -- what the first member with a number gives
  abbrev pub found_at : List X → ℕ → Option Y
  found_at xs n = option_map g (find (λ x. key x == n) xs)

  found_more : (xs : List X) (i n : ℕ) (d : X) → i < length xs → found_at (take (i + 1) xs) n ≡ option_or (found_at (take i xs) n) (if key (get_or xs i d) == n then Some (g (get_or xs i d)) else None)
  found_more xs i n d l =
      ap (λ ys. found_at ys n) (take_more xs i d l)
      ∙ ap (option_map g) (find-append (λ x. key x == n) (take i xs) (get_or xs i d ∷ []))
      ∙ cases (find (λ x. key x == n) (take i xs)) (key (get_or xs i d) == n) (get_or xs i d)
    where
      cases : (o : Option X) (t : Bool) (x : X) → option_map g (option_or o (cond t (Some x) None)) ≡ option_or (option_map g o) (cond t (Some (g x)) None)
      cases None true x = refl
      cases None false x = refl
      cases (Some y) t x = refl

  -- the first with a number is noted
  pub notes_found : (count : ℕ) (t new : List (Option Y)) (xs : List X) (i k : ℕ) (d : X) (y : Y) → i < length xs → k ≡ key (get_or xs i d) → y ≡ g (get_or xs i d) → k < count → get_or t k None ≡ None
      → new ≡ set t k (Some y) → IsTableOf count t (found_at (take i xs)) → IsTableOf count new (found_at (take (i + 1) xs))
  notes_found count t new xs i k d y l ke ye small none ne h = record {
    whole = ap length ne ∙ length-set t k (Some y) ∙ h.whole;
    members = λ n s. ap (λ (ys : List (Option Y)). get_or ys n None) ne ∙ set_first t k n y (let w : length t ≡ count = h.whole in omega arith) none
        ∙ ap (λ (o : Option Y). option_or o (if k == n then Some y else None)) (h.members n s)
        ∙ ap (λ (j : ℕ). option_or (found_at (take i xs) n) (if j == n then Some y else None)) ke
        ∙ ap (λ (z : Y). option_or (found_at (take i xs) n) (if key (get_or xs i d) == n then Some z else None)) ye
        ∙ sym (found_more xs i n d l);
  }

  -- a later one changes nothing
  pub keeps_found : (count : ℕ) (t new : List (Option Y)) (xs : List X) (i k : ℕ) (d : X) (z : Y) → i < length xs → k ≡ key (get_or xs i d) → get_or t k None ≡ Some z
      → new ≡ t → IsTableOf count t (found_at (take i xs)) → IsTableOf count new (found_at (take (i + 1) xs))
  keeps_found count t new xs i k d z l ke there ne h = record {
    whole = ap length ne ∙ h.whole;
    members = λ n s. ap (λ (ys : List (Option Y)). get_or ys n None) ne ∙ keep_first t k n (g (get_or xs i d)) z there
        ∙ ap (λ (o : Option Y). option_or o (if k == n then Some (g (get_or xs i d)) else None)) (h.members n s)
        ∙ ap (λ (j : ℕ). option_or (found_at (take i xs) n) (if j == n then Some (g (get_or xs i d)) else None)) ke
        ∙ sym (found_more xs i n d l);
  }

-- an empty table
pub empty_table : {Y : Type 0} (count : ℕ) (t : List (Option Y)) (f : ℕ → Option Y) → t ≡ replicate count None → ((n : ℕ) → f n ≡ None) → IsTableOf count t f
empty_table {Y} count t f e none = record {
  whole = ap length e ∙ length-replicate {A = Option Y} count None;
  members = λ n s. ap (λ (xs : List (Option Y)). get_or xs n None) e ∙ get_or-replicate count n None None s ∙ sym (none n);
}

-- one entry more among those that pass
pub passes_more : {X : Type 0} (test : X → Bool) (xs old new : List X) (i : ℕ) (d : X) → i < length xs → test (get_or xs i d) ≡ true → old ≡ filter test (take i xs) → new ≡ old ++ get_or xs i d ∷ [] → new ≡ filter test (take (i + 1) xs)
passes_more test xs old new i d l t was now =
    now ∙ ap (λ ys. ys ++ get_or xs i d ∷ []) was ∙ ap (λ b. filter test (take i xs) ++ cond b (get_or xs i d ∷ []) []) (sym t) ∙ sym (filter-append test (take i xs) (get_or xs i d ∷ [])) ∙ ap (filter test) (sym (take_more xs i d l))

pub fails_more : {X : Type 0} (test : X → Bool) (xs old new : List X) (i : ℕ) (d : X) → i < length xs → test (get_or xs i d) ≡ false → old ≡ filter test (take i xs) → new ≡ old → new ≡ filter test (take (i + 1) xs)
fails_more test xs old new i d l t was now =
    now ∙ was ∙ sym (append-nil (filter test (take i xs))) ∙ ap (λ b. filter test (take i xs) ++ cond b (get_or xs i d ∷ []) []) (sym t) ∙ sym (filter-append test (take i xs) (get_or xs i d ∷ [])) ∙ ap (filter test) (sym (take_more xs i d l))
