-- Lists of bytes, joined, and what holds of all members of a list.
use Rattle.std.proofs.Common.{◌≡◌, ◌≢◌, ℕ, zero, suc, ◌+◌, ◌/◌, ◌%◌, ◌^◌, ◌<◌, ◌≤◌, ◌⊎◌, Bool, true, false, cond, List, [], ◌∷◌, ◌++◌, length, set, get_or, ap, ◌∙◌, subst, sym, refl, arith, inl, inr}
use Rattle.std.specs.Prelude.{Option, Some, None, slice_index, filter, filter_map, ⊤}
use Rattle.std.specs.Int.{to_le_bytes, w16, w32}
use Rattle.std.specs.List.{AllByRecursion, flat_map, cons_option}
use Rattle.std.proofs.lemmas.Bool.Decides.{eqb_tells, nat_tests}
use Rattle.std.proofs.lemmas.List.{get_or-set_same, get_or-set_other}
use Rattle.std.specs.Prelude.{◌==◌, ◌&&◌, nat_lt}
use Rattle.mpt_base.specs.Bytes.{IsByteList}

pub no_bytes : IsByteList []
no_bytes i = omega arith

pub bytes-cons : (x : ℕ) (xs : List ℕ) → x < 256 → IsByteList xs → IsByteList (x ∷ xs)
bytes-cons x xs h t zero = h
bytes-cons x xs h t (suc i) = t i

pub bytes-append : (xs ys : List ℕ) → IsByteList xs → IsByteList ys → IsByteList (xs ++ ys)
bytes-append [] ys h g = g
bytes-append (x ∷ xs) ys h g = bytes-cons x (xs ++ ys) (h 0) (bytes-append xs ys (λ i. h (suc i)) g)

pub bytes-set : (xs : List ℕ) (at x : ℕ) → at < length xs → x < 256 → IsByteList xs → IsByteList (set xs at x)
bytes-set xs at x inside h t i = go (eqb_tells i at)
  where
    go : (((i == at) ≡ true) × (i ≡ at)) ⊎ (((i == at) ≡ false) × (i ≢ at)) → get_or (set xs at x) i 0 < 256
    go (inl e) = subst (λ k. get_or (set xs at x) k 0 < 256) (sym e.1) (omega (arith, get_or-set_same xs at x 0 inside))
    go (inr n) = omega (arith, get_or-set_other xs at i x 0 n.1, t i)

-- whether all are bytes: of a list of numerals a computation
abbrev pub all_low : List ℕ → Bool
all_low [] = true
all_low (x ∷ xs) = nat_lt x 256 && all_low xs

pub bytes-test : (xs : List ℕ) → all_low xs ≡ true → IsByteList xs
bytes-test [] h = no_bytes
bytes-test (x ∷ xs) h = go (nat_lt x 256) (all_low xs) refl refl h (λ f. bytes-test xs f)
  where
    go : (a b : Bool) → nat_lt x 256 ≡ a → all_low xs ≡ b → (a && b) ≡ true → (all_low xs ≡ true → IsByteList xs) → IsByteList (x ∷ xs)
    go true true e f g rest = bytes-cons x xs (let small : x < 256 = grind (arith, nat_tests) in small) (rest f)
    go true false e f g rest = absurd (cc)
    go false b e f g rest = absurd (cc)

low : (n : ℕ) → n % 256 < 256
low n = omega arith

pub bytes-2 : (n : ℕ) → IsByteList (to_le_bytes w16 n)
bytes-2 n = bytes-cons (n % 256) (n / 256 % 256 ∷ []) (low n) (bytes-cons (n / 256 % 256) [] (low (n / 256)) no_bytes)

pub bytes-4 : (n : ℕ) → IsByteList (to_le_bytes w32 n)
bytes-4 n =
    bytes-cons (n % 256) (n / 256 % 256 ∷ n / 65536 % 256 ∷ n / 16777216 % 256 ∷ []) (low n)
    (bytes-cons (n / 256 % 256) (n / 65536 % 256 ∷ n / 16777216 % 256 ∷ []) (low (n / 256))
    (bytes-cons (n / 65536 % 256) (n / 16777216 % 256 ∷ []) (low (n / 65536)) (bytes-cons (n / 16777216 % 256) [] (low (n / 16777216)) no_bytes)))

-- of each member a list of bytes, one behind the other
pub bytes-flat_map : {E : Type 0} (P : E → Type 0) (f : E → List ℕ) → ((e : E) → P e → IsByteList (f e)) → (es : List E) → AllByRecursion P es → IsByteList (flat_map f es)
bytes-flat_map P f h [] a = no_bytes
bytes-flat_map P f h (e ∷ es) a = bytes-append (f e) (flat_map f es) (h e a.0) (bytes-flat_map P f h es a.1)

-- what holds of all members of both lists, and of those that are chosen
pub all-append : {E : Type 0} (P : E → Type 0) (xs ys : List E) → AllByRecursion P xs → AllByRecursion P ys → AllByRecursion P (xs ++ ys)
all-append P [] ys h g = g
all-append P (x ∷ xs) ys h g = (h.0, all-append P xs ys h.1 g)

pub all-filter : {E : Type 0} (P : E → Type 0) (t : E → Bool) (xs : List E) → AllByRecursion P xs → AllByRecursion P (filter t xs)
all-filter P t [] h = tt
all-filter {E} P t (x ∷ xs) h = go (t x) (all-filter P t xs h.1)
  where
    go : (b : Bool) → AllByRecursion P (filter t xs) → AllByRecursion P (cond b (x ∷ filter t xs) (filter t xs))
    go true r = (h.0, r)
    go false r = r

-- it holds of what there is
abbrev pub IfThere : {E : Type 0} → (E → Type 0) → Option E → Type 0
IfThere P None = ⊤
IfThere P (Some x) = P x

pub all-filter_map : {X Y : Type 0} (Q : X → Type 0) (P : Y → Type 0) (f : X → Option Y) → ((x : X) → Q x → IfThere P (f x)) → (xs : List X) → AllByRecursion Q xs → AllByRecursion P (filter_map f xs)
all-filter_map Q P f h [] a = tt
all-filter_map {X} {Y} Q P f h (x ∷ xs) a = go (f x) (h x a.0) (all-filter_map Q P f h xs a.1)
  where
    go : (o : Option Y) → IfThere P o → AllByRecursion P (filter_map f xs) → AllByRecursion P (cons_option o (filter_map f xs))
    go None p r = r
    go (Some y) p r = (p, r)
