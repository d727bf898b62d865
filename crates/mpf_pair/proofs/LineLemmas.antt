-- The lines whose bits are set: their members, and what a bit that is set or cleared changes.
use Rattle.std.proofs.Common.{◌≡◌, ◌≢◌, ◌==◌, ℕ, zero, suc, ◌+◌, ◌-◌, ◌*◌, ◌%◌, ◌^◌, ◌<◌, ◌≤◌, Bool, true, false, cond, not, ◌&&◌, ◌||◌, List, [], ◌∷◌, Option, None, Some, option_map, find, refl, sym, ap, ◌∙◌, arith, filter, inl, inr, subst}
use Rattle.std.specs.Prelude.{bit_and, bit_or, is_some}
use Rattle.std.specs.Int.{bit_at, bit_not, w8}
use Rattle.std.specs.List.{list_any, range_with_len}
use Rattle.std.proofs.lemmas.Bool.{ne_eqb, eq-eqb, eqb-true, lt-ltb, le-ltb, cases_lt, cases_eq}
use Rattle.std.proofs.lemmas.Nat.Bits.{bit_at_set_same, bit_at_set_other, bit_at_clear_same, bit_at_clear_other}
use Rattle.mpb_spec.specs.Numbers.{has, with_number, without, IsAscending}
use Rattle.mpb_spec.proofs.NumberLemmas.{AllAbove, AllBelow, IsAscending-filter, IsAscending-with, IsAscending-without, has-with_itself, has-with_other, has-without_itself, has-without_other}
use Rattle.mpb_bits.proofs.SetLemmas.{same_sets}
use Rattle.mpf_pair.specs.Pair.{is_bit, is_line, is_of, others}
use Rattle.mpf_pair.specs.declared.settings.Side.{Side}
use Rattle.mpf_pair.specs.declared.settings.Side.TheVariants.{Master, Slave}
use Rattle.mpf_pair.specs.Registers.{lines_of, lowest}

-- a row of numbers
AllAbove-row : (v m k : ℕ) → v < m → AllAbove v (range_with_len m k)
AllAbove-row v m zero lt = tt
AllAbove-row v m (suc k) lt = (lt, AllAbove-row v (m + 1) k (omega arith))

IsAscending-row : (m k : ℕ) → IsAscending (range_with_len m k)
IsAscending-row m zero = tt
IsAscending-row m (suc k) = (AllAbove-row m (m + 1) k (omega arith), IsAscending-row (m + 1) k)

has-row_inside : (v m k : ℕ) → m ≤ v → v < m + k → has v (range_with_len m k) ≡ true
has-row_inside v m zero le lt = absurd (omega arith)
has-row_inside v m (suc k) le lt = elim (cases_eq m v) [
  | inl e ↦ rw (eq-eqb m v e) refl
  | inr ne ↦ rw (ne_eqb m v ne) (has-row_inside v (m + 1) k (omega arith) (omega arith))
]

has-row_past : (v m k : ℕ) → m + k ≤ v → has v (range_with_len m k) ≡ false
has-row_past v m zero le = refl
has-row_past v m (suc k) le = rw (ne_eqb m v (λ e. omega arith)) (has-row_past v (m + 1) k (omega arith))

-- what a filter keeps
has-filter : (v : ℕ) (p : ℕ → Bool) (xs : List ℕ) → has v (filter p xs) ≡ (p v && has v xs)
has-filter v p [] = elim (p v) as (λ b. false ≡ (b && false)) [ true ↦ refl | false ↦ refl ]
has-filter v p (x ∷ xs) = go (p x) refl (x == v) refl (has-filter v p xs) where
  go : (a : Bool) → p x ≡ a → (b : Bool) → (x == v) ≡ b → has v (filter p xs) ≡ (p v && has v xs) → has v (cond a (x ∷ filter p xs) (filter p xs)) ≡ (p v && (b || has v xs))
  go true pa true e h = let same : x ≡ v = eqb-true x v e in let pv : p v ≡ true = ap p (sym same) ∙ pa in rw pv (rw e refl)
  go true pa false e h = rw e h
  go false pa true e h = let same : x ≡ v = eqb-true x v e in let pv : p v ≡ false = ap p (sym same) ∙ pa in rw pv (h ∙ ap (λ b. b && has v xs) pv)
  go false pa false e h = h

-- what is found among what a filter keeps
pub find-filter : (p q : ℕ → Bool) (xs : List ℕ) → find p (filter q xs) ≡ find (λ x. p x && q x) xs
find-filter p q [] = refl
find-filter p q (x ∷ xs) = go (p x) refl (q x) (find-filter p q xs) where
  go : (a : Bool) → p x ≡ a → (b : Bool) → find p (filter q xs) ≡ find (λ y. p y && q y) xs → find p (cond b (x ∷ filter q xs) (filter q xs)) ≡ cond (a && b) (Some x) (find (λ y. p y && q y) xs)
  go true e true h = rw e refl
  go true e false h = h
  go false e true h = rw e h
  go false e false h = h

pub any-filter : (p q : ℕ → Bool) (xs : List ℕ) → list_any p (filter q xs) ≡ list_any (λ x. p x && q x) xs
any-filter p q [] = refl
any-filter p q (x ∷ xs) = go (p x) refl (q x) (any-filter p q xs) where
  go : (a : Bool) → p x ≡ a → (b : Bool) → list_any p (filter q xs) ≡ list_any (λ y. p y && q y) xs → list_any p (cond b (x ∷ filter q xs) (filter q xs)) ≡ ((a && b) || list_any (λ y. p y && q y) xs)
  go true e true h = rw e refl
  go true e false h = h
  go false e true h = rw e h
  go false e false h = h

and_true : (b : Bool) → (b && true) ≡ b
and_true true = refl
and_true false = refl

and_false : (b : Bool) → (b && false) ≡ false
and_false true = refl
and_false false = refl

-- a line's bit is in the byte of its controller
pub is_line-master : (m s v : ℕ) → v < 8 → is_line m s v ≡ is_bit v m
is_line-master m s v lt = rw (lt-ltb v 8 lt) refl

pub is_line-slave : (m s v : ℕ) → 8 ≤ v → is_line m s v ≡ is_bit (v - 8) s
is_line-slave m s v le = rw (le-ltb v 8 le) refl

-- a line below 16 is a member where its bit is set
pub has-line : (m s v : ℕ) → v < 16 → has v (lines_of m s) ≡ is_line m s v
unfolding lines_of
has-line m s v lt = has-filter v (is_line m s) (range_with_len 0 16) ∙ ap (λ b. is_line m s v && b) (has-row_inside v 0 16 (omega arith) (omega arith)) ∙ and_true (is_line m s v)

pub has-past : (m s v : ℕ) → 16 ≤ v → has v (lines_of m s) ≡ false
unfolding lines_of
has-past m s v le = has-filter v (is_line m s) (range_with_len 0 16) ∙ ap (λ b. is_line m s v && b) (has-row_past v 0 16 (omega arith)) ∙ and_false (is_line m s v)

pub IsAscending-lines : (m s : ℕ) → IsAscending (lines_of m s)
unfolding lines_of
IsAscending-lines m s = IsAscending-filter (is_line m s) (range_with_len 0 16) (IsAscending-row 0 16)

-- one bit is set
lines-with : (m s p t n : ℕ) → n < 16 → is_line p t n ≡ true → ((v : ℕ) → v < 16 → v ≢ n → is_line p t v ≡ is_line m s v) → lines_of p t ≡ with_number n (lines_of m s)
lines-with m s p t n within on rest =
    same_sets (lines_of p t) (with_number n (lines_of m s)) (IsAscending-lines p t) (IsAscending-with n (lines_of m s) (IsAscending-lines m s)) (λ v.
    elim (cases_lt v 16) [
      | inl lt ↦ has-line p t v lt ∙ elim (cases_eq v n) [
        | inl e ↦ subst (λ (u : ℕ). is_line p t u ≡ has u (with_number n (lines_of m s))) (sym e) (on ∙ sym (has-with_itself n (lines_of m s)))
        | inr ne ↦ rest v lt ne ∙ sym (has-line m s v lt) ∙ sym (has-with_other v n (lines_of m s) ne)
      ]
      | inr ge ↦ has-past p t v ge ∙ sym (has-past m s v ge) ∙ sym (has-with_other v n (lines_of m s) (λ e. omega arith))
    ])

-- one bit is cleared
lines-without : (m s p t n : ℕ) → n < 16 → is_line p t n ≡ false → ((v : ℕ) → v < 16 → v ≢ n → is_line p t v ≡ is_line m s v) → lines_of p t ≡ without n (lines_of m s)
lines-without m s p t n within off rest =
    same_sets (lines_of p t) (without n (lines_of m s)) (IsAscending-lines p t) (IsAscending-without n (lines_of m s) (IsAscending-lines m s)) (λ v.
    elim (cases_lt v 16) [
      | inl lt ↦ has-line p t v lt ∙ elim (cases_eq v n) [
        | inl e ↦ subst (λ (u : ℕ). is_line p t u ≡ has u (without n (lines_of m s))) (sym e) (off ∙ sym (has-without_itself n (lines_of m s)))
        | inr ne ↦ rest v lt ne ∙ sym (has-line m s v lt) ∙ sym (has-without_other v n (lines_of m s) ne)
      ]
      | inr ge ↦ has-past p t v ge ∙ sym (has-past m s v ge) ∙ sym (has-without_other v n (lines_of m s) (λ e. omega arith))
    ])

-- a bit of a byte
shifted : (n : ℕ) → n < 8 → 1 * 2 ^ n % 2 ^ 8 ≡ 2 ^ n
shifted zero lt = refl
shifted (suc zero) lt = refl
shifted (suc (suc zero)) lt = refl
shifted (suc (suc (suc zero))) lt = refl
shifted (suc (suc (suc (suc zero)))) lt = refl
shifted (suc (suc (suc (suc (suc zero))))) lt = refl
shifted (suc (suc (suc (suc (suc (suc zero)))))) lt = refl
shifted (suc (suc (suc (suc (suc (suc (suc zero))))))) lt = refl
shifted (suc (suc (suc (suc (suc (suc (suc (suc n)))))))) lt = absurd (omega arith)

set_itself : (x n : ℕ) → n < 8 → is_bit n (bit_or x (2 ^ n)) ≡ true
set_itself x n lt = eq-eqb (bit_at (bit_or x (2 ^ n)) n) 1 (subst (λ (k : ℕ). bit_at (bit_or x k) n ≡ 1) (shifted n lt) (bit_at_set_same w8 x n lt))

set_other : (x n v : ℕ) → n < 8 → v ≢ n → is_bit v (bit_or x (2 ^ n)) ≡ is_bit v x
set_other x n v lt ne = ap (λ (b : ℕ). b == 1) (subst (λ (k : ℕ). bit_at (bit_or x k) v ≡ bit_at x v) (shifted n lt) (bit_at_set_other w8 x n lt v ne))

clear_itself : (x n : ℕ) → n < 8 → is_bit n (bit_and x (bit_not w8 (2 ^ n))) ≡ false
clear_itself x n lt = ap (λ (b : ℕ). b == 1) (subst (λ (k : ℕ). bit_at (bit_and x (bit_not w8 k)) n ≡ 0) (shifted n lt) (bit_at_clear_same w8 x n lt))

clear_other : (x n v : ℕ) → n < 8 → v < 8 → v ≢ n → is_bit v (bit_and x (bit_not w8 (2 ^ n))) ≡ is_bit v x
clear_other x n v lt below ne = ap (λ (b : ℕ). b == 1) (subst (λ (k : ℕ). bit_at (bit_and x (bit_not w8 k)) v ≡ bit_at x v) (shifted n lt) (bit_at_clear_other w8 x n lt v below ne))

-- another byte of the master, or of the slave
master_other : (m s p n v : ℕ) → n < 8 → ((u : ℕ) → u < 8 → u ≢ n → is_bit u p ≡ is_bit u m) → v ≢ n → is_line p s v ≡ is_line m s v
master_other m s p n v within rest ne = elim (cases_lt v 8) [
  | inl lt ↦ is_line-master p s v lt ∙ rest v lt ne ∙ sym (is_line-master m s v lt)
  | inr ge ↦ is_line-slave p s v ge ∙ sym (is_line-slave m s v ge)
]

slave_other : (m s t n v : ℕ) → 8 ≤ n → n < 16 → v < 16 → ((u : ℕ) → u < 8 → u ≢ n - 8 → is_bit u t ≡ is_bit u s) → v ≢ n → is_line m t v ≡ is_line m s v
slave_other m s t n v low within below rest ne = elim (cases_lt v 8) [
  | inl lt ↦ is_line-master m t v lt ∙ sym (is_line-master m s v lt)
  | inr ge ↦ is_line-slave m t v ge ∙ rest (v - 8) (omega arith) (λ e. ne (omega arith)) ∙ sym (is_line-slave m s v ge)
]

pub lines-put_master : (m s n : ℕ) → n < 8 → lines_of (bit_or m (2 ^ n)) s ≡ with_number n (lines_of m s)
lines-put_master m s n lt =
    let p = bit_or m (2 ^ n) in
    lines-with m s p s n (omega arith) (is_line-master p s n lt ∙ set_itself m n lt) (λ v below ne. master_other m s p n v lt (λ u b other. set_other m n u lt other) ne)

pub lines-put_slave : (m s n : ℕ) → 8 ≤ n → n < 16 → lines_of m (bit_or s (2 ^ (n - 8))) ≡ with_number n (lines_of m s)
lines-put_slave m s n low within =
    let t = bit_or s (2 ^ (n - 8)) in
    let place : n - 8 < 8 = omega arith in
    lines-with m s m t n within (is_line-slave m t n low ∙ set_itself s (n - 8) place) (λ v below ne. slave_other m s t n v low within below (λ u b other. set_other s (n - 8) u place other) ne)

pub lines-take_master : (m s n : ℕ) → n < 8 → lines_of (bit_and m (bit_not w8 (2 ^ n))) s ≡ without n (lines_of m s)
lines-take_master m s n lt =
    let p = bit_and m (bit_not w8 (2 ^ n)) in
    lines-without m s p s n (omega arith) (is_line-master p s n lt ∙ clear_itself m n lt) (λ v below ne. master_other m s p n v lt (λ u b other. clear_other m n u lt b other) ne)

pub lines-take_slave : (m s n : ℕ) → 8 ≤ n → n < 16 → lines_of m (bit_and s (bit_not w8 (2 ^ (n - 8)))) ≡ without n (lines_of m s)
lines-take_slave m s n low within =
    let t = bit_and s (bit_not w8 (2 ^ (n - 8))) in
    let place : n - 8 < 8 = omega arith in
    lines-without m s m t n within (is_line-slave m t n low ∙ clear_itself s (n - 8) place) (λ v below ne. slave_other m s t n v low within below (λ u b other. clear_other s (n - 8) u place b other) ne)

-- bit 2 stays clear where another bit is set, and where a bit is cleared
pub stays-set : (x n : ℕ) → n < 8 → n ≢ 2 → is_bit 2 x ≡ false → is_bit 2 (bit_or x (2 ^ n)) ≡ false
stays-set x n lt ne h = set_other x n 2 lt (λ e. ne (sym e)) ∙ h

pub stays-cleared : (x n : ℕ) → n < 8 → is_bit 2 x ≡ false → is_bit 2 (bit_and x (bit_not w8 (2 ^ n))) ≡ false
stays-cleared x n lt h = elim (cases_eq n 2) [
  | inl e ↦ subst (λ (k : ℕ). is_bit k (bit_and x (bit_not w8 (2 ^ n))) ≡ false) e (clear_itself x n lt)
  | inr ne ↦ clear_other x n 2 lt (omega arith) (λ e. ne (sym e)) ∙ h
]

-- all lines are below 16
AllBelow-row : (n m k : ℕ) → m + k ≤ n → AllBelow n (range_with_len m k)
AllBelow-row n m zero le = tt
AllBelow-row n m (suc k) le = (omega arith, AllBelow-row n (m + 1) k (omega arith))

AllBelow-filter : (n : ℕ) (p : ℕ → Bool) (xs : List ℕ) → AllBelow n xs → AllBelow n (filter p xs)
AllBelow-filter n p [] all = tt
AllBelow-filter n p (x ∷ xs) all =
    elim (p x) as (λ b. AllBelow n (cond b (x ∷ filter p xs) (filter p xs))) [ true ↦ (all.0, AllBelow-filter n p xs all.1) | false ↦ AllBelow-filter n p xs all.1 ]

pub AllBelow-lines : (m s : ℕ) → AllBelow 16 (lines_of m s)
unfolding lines_of
AllBelow-lines m s = AllBelow-filter 16 (is_line m s) (range_with_len 0 16) (AllBelow-row 16 0 16 (omega arith))

-- line 2 isn't a member where its bit is clear
pub no_two : (m s : ℕ) → is_bit 2 m ≡ false → has 2 (lines_of m s) ≡ false
no_two m s clear = has-line m s 2 (omega arith) ∙ clear

-- what is found is there
pub some-find : (p : ℕ → Bool) (xs : List ℕ) → is_some (find p xs) ≡ list_any p xs
some-find p [] = refl
some-find p (x ∷ xs) = elim (p x) as (λ b. is_some (cond b (Some x) (find p xs)) ≡ (b || list_any p xs)) [ true ↦ refl | false ↦ some-find p xs ]

-- no bit is set
is_bit-none : (n : ℕ) → is_bit n 0 ≡ false
is_bit-none n = rw (Rattle.std.proofs.lemmas.Nat.Bits.bit_at-zero n) refl

pub lines-none : lines_of 0 0 ≡ []
unfolding lines_of
lines-none = refl

-- the other controller's lines
has-others : (side : Side) (v m s : ℕ) → has v (others side (lines_of m s)) ≡ (not (is_of side v) && has v (lines_of m s))
has-others side v m s = has-filter v (λ n. not (is_of side n)) (lines_of m s)

pub others-master : (m s : ℕ) → lines_of 0 s ≡ others Master (lines_of m s)
others-master m s =
    same_sets (lines_of 0 s) (others Master (lines_of m s)) (IsAscending-lines 0 s) (IsAscending-filter (λ n. not (is_of Master n)) (lines_of m s) (IsAscending-lines m s)) (λ v.
    elim (cases_lt v 8) [
      | inl lt ↦ has-line 0 s v (omega arith) ∙ is_line-master 0 s v lt ∙ is_bit-none v ∙ sym (has-others Master v m s ∙ rw (lt-ltb v 8 lt) refl)
      | inr ge ↦ elim (cases_lt v 16) [
        | inl lt ↦ has-line 0 s v lt ∙ is_line-slave 0 s v ge ∙ sym (has-others Master v m s ∙ rw (le-ltb v 8 ge) (has-line m s v lt ∙ is_line-slave m s v ge))
        | inr past ↦ has-past 0 s v past ∙ sym (has-others Master v m s ∙ rw (le-ltb v 8 ge) (has-past m s v past))
      ]
    ])

pub others-slave : (m s : ℕ) → lines_of m 0 ≡ others Slave (lines_of m s)
others-slave m s =
    same_sets (lines_of m 0) (others Slave (lines_of m s)) (IsAscending-lines m 0) (IsAscending-filter (λ n. not (is_of Slave n)) (lines_of m s) (IsAscending-lines m s)) (λ v.
    elim (cases_lt v 8) [
      | inl lt ↦ has-line m 0 v (omega arith) ∙ is_line-master m 0 v lt ∙ sym (has-others Slave v m s ∙ rw (Rattle.std.proofs.lemmas.Bool.lt-leb 8 v lt) (has-line m s v (omega arith) ∙ is_line-master m s v lt))
      | inr ge ↦ elim (cases_lt v 16) [
        | inl lt ↦ has-line m 0 v lt ∙ is_line-slave m 0 v ge ∙ is_bit-none (v - 8) ∙ sym (has-others Slave v m s ∙ rw (Rattle.std.proofs.lemmas.Bool.le-leb 8 v ge) refl)
        | inr past ↦ has-past m 0 v past ∙ sym (has-others Slave v m s ∙ rw (Rattle.std.proofs.lemmas.Bool.le-leb 8 v ge) refl)
      ]
    ])

-- the least line of a controller
pub least-master : (m s : ℕ) → find (is_of Master) (lines_of m s) ≡ lowest m
unfolding lines_of
least-master m s = find-filter (is_of Master) (is_line m s) (range_with_len 0 16) ∙ refl

-- what is found, under a function
abbrev cond_find : (ℕ → Bool) → (ℕ → ℕ) → List ℕ → Option ℕ
cond_find p f [] = None
cond_find p f (x ∷ xs) = cond (p x) (Some (f x)) (cond_find p f xs)

option_map-find : (p : ℕ → Bool) (f : ℕ → ℕ) (xs : List ℕ) → option_map f (find p xs) ≡ cond_find p f xs
option_map-find p f [] = refl
option_map-find p f (x ∷ xs) = elim (p x) as (λ b. option_map f (cond b (Some x) (find p xs)) ≡ cond b (Some (f x)) (cond_find p f xs)) [ true ↦ refl | false ↦ option_map-find p f xs ]

pub least-slave : (m s : ℕ) → find (is_of Slave) (lines_of m s) ≡ option_map (λ n. 8 + n) (lowest s)
unfolding lines_of
least-slave m s = find-filter (is_of Slave) (is_line m s) (range_with_len 0 16) ∙ sym (option_map-find (λ n. is_bit n s) (λ n. 8 + n) (range_with_len 0 8))
