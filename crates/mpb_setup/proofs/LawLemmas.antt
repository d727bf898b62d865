-- What the least ones are: an id that two share, a place that isn't there; and who is on a board.
use Rattle.std.proofs.Common.{◌≡◌, ◌==◌, ℕ, zero, suc, ◌+◌, ◌<◌, ◌≤◌, Bool, true, false, cond, ◌&&◌, ◌||◌, List, [], ◌∷◌, filter, count_by, None, Some, nat_lt, nat_le, refl, sym, ap, ◌∙◌, arith, inl, inr}
use Rattle.std.specs.List.{range_with_len, find}
use Rattle.std.proofs.lemmas.Bool.{eqb-true, ltb-true, ltb-false, leb-true, le-leb, cases_eq}
use Rattle.mpt_route.specs.declared.platform.Platform.{Platform}
use Rattle.mpb_spec.specs.Numbers.{has}
use Rattle.mpb_script.specs.declared.script.Script.{Script}
use Rattle.mpb_setup.specs.Board.{enabled_ids, is_present, all_ids, board_ids}
use Rattle.mpb_setup.specs.Faults.{least_double, names_place, least_absent_place}
use Rattle.mpb_setup.proofs.ListLemmas.{all_is, find-none, has-id}

-- the first number of a range that passes
pub record IsFirst (f : ℕ → Bool) (a n k : ℕ) : Type 0 where
  pub from : a ≤ k
  pub below : k < a + n
  pub passes : f k ≡ true
  pub first : (j : ℕ) → a ≤ j → j < k → f j ≡ false

find_some : (f : ℕ → Bool) (a n k : ℕ) → find f (range_with_len a n) ≡ Some k → IsFirst f a n k
find_some f a zero k e = absurd (cc)
find_some f a (suc n) k e = go (f a) refl e (λ q. find_some f (a + 1) n k q)
  where
    go : (b : Bool) → f a ≡ b → cond b (Some a) (find f (range_with_len (a + 1) n)) ≡ Some k → (find f (range_with_len (a + 1) n) ≡ Some k → IsFirst f (a + 1) n k) → IsFirst f a (suc n) k
    go true b e rest =
        let same : a ≡ k = cc in
        record { from = omega (arith, same); below = omega (arith, same); passes = ap f (sym same) ∙ b; first = λ j l m. absurd (omega (arith, same, l, m)) }
    go false b e rest =
        let r = rest e in
        record {
          from = omega (arith, r.from);
          below = omega (arith, r.below);
          passes = r.passes;
          first = λ j l m. elim (cases_eq j a) [ inl same ↦ ap f same ∙ b | inr ne ↦ r.first j (omega (arith, ne, l)) m ];
        }

-- ids
first_of_ids : (n : ℕ) → n ≡ 256 → (f : ℕ → Bool) (k : ℕ) → find f all_ids ≡ Some k → IsFirst f 0 n k
first_of_ids n q f k e = find_some f 0 n k (sym (ap (find f) (all_is n q)) ∙ e)

none_of_ids : (n : ℕ) → n ≡ 256 → (f : ℕ → Bool) → find f all_ids ≡ None → (k : ℕ) → k < n → f k ≡ false
none_of_ids n q f e k l = find-none f 0 n (sym (ap (find f) (all_is n q)) ∙ e) k (omega arith) (omega (arith, l))

pub double_is_least : (ids : List ℕ) (d : ℕ) → least_double ids ≡ Some d → (1 < count_by (λ x. x == d) ids) × ((k : ℕ) → k < d → count_by (λ x. x == k) ids ≤ 1)
double_is_least ids d e =
    let r = first_of_ids 256 refl (λ k. nat_lt 1 (count_by (λ x. x == k) ids)) d e in
    (ltb-true 1 (count_by (λ x. x == d) ids) r.passes, λ k l. ltb-false 1 (count_by (λ x. x == k) ids) (r.first k (omega arith) l))

pub no_double : (ids : List ℕ) → least_double ids ≡ None → (k : ℕ) → k < 256 → count_by (λ x. x == k) ids ≤ 1
no_double ids e k l = ltb-false 1 (count_by (λ x. x == k) ids) (none_of_ids 256 refl (λ j. nat_lt 1 (count_by (λ x. x == j) ids)) e k l)

-- places
and_left : (b c : Bool) → (b && c) ≡ true → b ≡ true
and_left true c e = refl
and_left false c e = cc

and_right : (b c : Bool) → (b && c) ≡ true → c ≡ true
and_right true c e = e
and_right false c e = cc

then : (b c : Bool) → b ≡ true → (b && c) ≡ false → c ≡ false
then true c t e = e
then false c t e = cc

pub place_is_least : (n : ℕ) (ids : List ℕ) (s : Script) (a : ℕ) → least_absent_place n ids s ≡ Some a → (n ≤ a) × (names_place ids s a ≡ true) × ((b : ℕ) → n ≤ b → b < a → names_place ids s b ≡ false)
place_is_least n ids s a e =
    let r = find_some (λ b. nat_le n b && names_place ids s b) 0 4 a e in (
      leb-true n a (and_left (nat_le n a) (names_place ids s a) r.passes),
      and_right (nat_le n a) (names_place ids s a) r.passes,
      λ b l m. then (nat_le n b) (names_place ids s b) (le-leb n b l) (r.first b (omega arith) m),
    )

-- a member of a filter is a member that passes
has_kept : (f : ℕ → Bool) (id : ℕ) (xs : List ℕ) → has id (filter f xs) ≡ (has id xs && f id)
has_kept f id [] = refl
has_kept f id (x ∷ xs) = go (x == id) refl (f x) refl (has_kept f id xs)
  where
    both : (h g : Bool) → g ≡ true → (h && g) ≡ h
    both true g e = e
    both false g e = refl

    none : (h g : Bool) → g ≡ false → (h && g) ≡ false
    none true g e = e
    none false g e = refl

    go : (b : Bool) → (x == id) ≡ b → (c : Bool) → f x ≡ c → has id (filter f xs) ≡ (has id xs && f id) → has id (cond c (x ∷ filter f xs) (filter f xs)) ≡ ((b || has id xs) && f id)
    go true b true c rest = let on : f id ≡ true = ap f (sym (eqb-true x id b)) ∙ c in rw (b, on) refl
    go true b false c rest = let off : f id ≡ false = ap f (sym (eqb-true x id b)) ∙ c in rest ∙ none (has id xs) (f id) off ∙ sym off
    go false b true c rest = rw b rest
    go false b false c rest = rest

pub on_board : (p : Platform) (s : Script) (id : ℕ) → id < 256 → has id (board_ids p s) ≡ (has id (enabled_ids p) && is_present s.present id)
on_board p s id l =
    has_kept (λ k. has k (enabled_ids p) && is_present s.present k) id all_ids
    ∙ ap (λ (b : Bool). b && (has id (enabled_ids p) && is_present s.present id)) (has-id id l)
