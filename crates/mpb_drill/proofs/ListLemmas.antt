-- Lists that grow by one member.
use Rattle.std.proofs.Common.{◌≡◌, ℕ, zero, suc, ◌+◌, ◌≤◌, Bool, true, false, cond, List, [], ◌∷◌, ◌++◌, map, filter, replicate, refl, sym, ap, ◌∙◌, append_assoc, arith}
use Rattle.std.specs.List.{range_with_len, flat_map}
use Rattle.std.proofs.lemmas.List.{append-nil, map-append}
use Rattle.std.proofs.lemmas.List.Elements.{filter-append}
use Rattle.std.proofs.lemmas.Grind.{flat_map-append}

range_more : (a n : ℕ) → range_with_len a (suc n) ≡ range_with_len a n ++ (a + n) ∷ []
range_more a zero = ap (λ k. k ∷ []) (omega arith)
range_more a (suc n) = ap (λ l. a ∷ l) (range_more (a + 1) n ∙ ap (λ k. range_with_len (a + 1) n ++ k ∷ []) (omega arith))

-- one number more
pub range_next : (n : ℕ) → range_with_len 0 (n + 1) ≡ range_with_len 0 n ++ n ∷ []
range_next n =
    let next : n + 1 ≡ suc n = omega arith in
    let same : 0 + n ≡ n = omega arith in
    ap (λ k. range_with_len 0 k) next ∙ range_more 0 n ∙ ap (λ k. range_with_len 0 n ++ k ∷ []) same

-- one member more of those behind a list
pub grows : {A : Type 0} (f : ℕ → A) (n : ℕ) (before now new : List A) → now ≡ before ++ map f (range_with_len 0 n) → new ≡ now ++ f n ∷ [] → new ≡ before ++ map f (range_with_len 0 (n + 1))
grows f n before now new is pushed =
    pushed ∙ ap (λ l. l ++ f n ∷ []) is ∙ append_assoc before (map f (range_with_len 0 n)) (f n ∷ [])
    ∙ ap (λ l. before ++ l) (sym (map-append f (range_with_len 0 n) (n ∷ [])) ∙ ap (map f) (sym (range_next n)))

-- what is so far is all at the end
pub at_end : {A : Type 0} (f : ℕ → A) (n i : ℕ) (before now : List A) → i ≤ n → n ≤ i → now ≡ before ++ map f (range_with_len 0 i) → now ≡ before ++ map f (range_with_len 0 n)
at_end f n i before now le ge is = is ∙ ap (λ k. before ++ map f (range_with_len 0 k)) (omega arith)

-- one list more
pub grows_by : {A : Type 0} (f : ℕ → List A) (n : ℕ) (before now new : List A) → now ≡ before ++ flat_map f (range_with_len 0 n) → new ≡ now ++ f n → new ≡ before ++ flat_map f (range_with_len 0 (n + 1))
grows_by f n before now new is pushed =
    pushed ∙ ap (λ l. l ++ f n) is ∙ append_assoc before (flat_map f (range_with_len 0 n)) (f n)
    ∙ ap (λ l. before ++ l) (ap (λ l. flat_map f (range_with_len 0 n) ++ l) (sym (append-nil (f n))) ∙ sym (flat_map-append f (range_with_len 0 n) (n ∷ [])) ∙ ap (flat_map f) (sym (range_next n)))

-- the same member once more
replicate_more : {A : Type 0} (n : ℕ) (x : A) → replicate (suc n) x ≡ replicate n x ++ x ∷ []
replicate_more zero x = refl
replicate_more (suc n) x = ap (λ l. x ∷ l) (replicate_more n x)

pub repeats_behind : {A : Type 0} (n : ℕ) (first x : A) (now new : List A) → now ≡ first ∷ replicate n x → new ≡ now ++ x ∷ [] → new ≡ first ∷ replicate (n + 1) x
repeats_behind n first x now new is pushed =
    let next : n + 1 ≡ suc n = omega arith in
    pushed ∙ ap (λ l. l ++ x ∷ []) is ∙ ap (λ l. first ∷ l) (sym (replicate_more n x)) ∙ ap (λ k. first ∷ replicate k x) (sym next)

-- one number more is tested
tested : (f : ℕ → Bool) (n : ℕ) → filter f (range_with_len 0 (n + 1)) ≡ filter f (range_with_len 0 n) ++ cond (f n) (n ∷ []) []
tested f n = ap (filter f) (range_next n) ∙ filter-append f (range_with_len 0 n) (n ∷ [])

pub passes : {A : Type 0} (f : ℕ → Bool) (g : ℕ → A) (n : ℕ) (now new : List A) → f n ≡ true → now ≡ map g (filter f (range_with_len 0 n)) → new ≡ now ++ g n ∷ [] → new ≡ map g (filter f (range_with_len 0 (n + 1)))
passes f g n now new pass is pushed =
    pushed ∙ ap (λ l. l ++ g n ∷ []) is ∙ sym (map-append g (filter f (range_with_len 0 n)) (n ∷ []))
    ∙ ap (map g) (sym (tested f n ∙ ap (λ b. filter f (range_with_len 0 n) ++ cond b (n ∷ []) []) pass))

pub is_left : {A : Type 0} (f : ℕ → Bool) (g : ℕ → A) (n : ℕ) (now new : List A) → f n ≡ false → now ≡ map g (filter f (range_with_len 0 n)) → new ≡ now → new ≡ map g (filter f (range_with_len 0 (n + 1)))
is_left f g n now new fails is same =
    same ∙ is ∙ ap (map g) (sym (tested f n ∙ ap (λ b. filter f (range_with_len 0 n) ++ cond b (n ∷ []) []) fails ∙ append-nil (filter f (range_with_len 0 n))))
