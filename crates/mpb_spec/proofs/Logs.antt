-- One more hit in a log, and one more bit in a word.
use Rattle.std.proofs.Common.{◌≡◌, ◌≢◌, ℕ, zero, suc, ◌+◌, ◌*◌, ◌^◌, ◌%◌, ◌<◌, ◌≤◌, Bool, true, false, ◌&&◌, eqb, List, [], ◌∷◌, ◌++◌, length, get_or, set, drop, take, true≢false, map, bit_or, refl, sym, ap, ◌∙◌, arith, eq-eqb, ne_eqb, cond}
use Rattle.std.specs.Int.{bit_at}
use Rattle.std.proofs.lemmas.Nat.Bits.{bit_at-lt, bit_at_set_same, bit_at_set_other}
use Rattle.std.proofs.lemmas.List.Sums.{sum_by-cons, sum_by-le-sum_by}
use Rattle.std.specs.Option.{option_map}
use Rattle.std.specs.Prelude.{Some, IsSome, find}
use mathlib.Core.Logic.{dite}
use Rattle.std.proofs.lemmas.List.{map-append, take_more, length-append}
use native.Mathlib.Decide.{ℕ_discrete}
use mir.Syntax.{w64}
use Rattle.mpb_spec.specs.declared.pulse.Pulse.{Pulse}
use Rattle.mpb_spec.specs.declared.pulse.Hit.{Hit}
use Rattle.mpb_spec.specs.declared.pulse.Hit.TheVariants.{New, Merged}
use Rattle.mpb_spec.specs.Pulses.{FollowsPlan, first_hit, is_on, is_new, planned_in, new_hits_in, hit_of, with_pins_from, hits, starts}
use Rattle.mpb_spec.specs.Lists.{one_if}
use Rattle.mpb_spec.proofs.Lists.{ones_le}

abbrev pub mark : ℕ → ℕ → Pulse × Hit → ℕ
mark io pin x = one_if (is_on io pin x.0 && is_new x.1)

pub ones_and : (a b : Bool) → one_if (a && b) ≤ one_if a
ones_and true true = omega arith
ones_and true false = omega arith
ones_and false b = omega arith

pub news-le-hits : (io pin : ℕ) (log : List (Pulse × Hit)) → new_hits_in io pin log ≤ hits io pin log
news-le-hits io pin log = sum_by-le-sum_by (λ (x : Pulse × Hit). one_if (is_on io pin x.0 && is_new x.1)) (λ (x : Pulse × Hit). one_if (is_on io pin x.0)) log (λ x. ones_and (is_on io pin x.0) (is_new x.1))

pub starts-le-push : (io pin : ℕ) (log : List (Pulse × Hit)) (x : Pulse × Hit) → starts io pin log ≤ starts io pin (log ++ x ∷ [])
starts-le-push io pin [] x = omega arith
starts-le-push io pin (y ∷ ys) x = by_test (is_on io pin y.0) (starts-le-push io pin ys x)
  where
    by_test : (b : Bool) → starts io pin ys ≤ starts io pin (ys ++ x ∷ []) → cond b (one_if (is_new y.1)) (starts io pin ys) ≤ cond b (one_if (is_new y.1)) (starts io pin (ys ++ x ∷ []))
    by_test true h = omega arith
    by_test false h = h

-- where the log has no hit on the pin yet, a New one is the first
pub starts-push_first : (io pin : ℕ) (log : List (Pulse × Hit)) (x : Pulse × Hit) → hits io pin log ≡ 0 → is_on io pin x.0 ≡ true → is_new x.1 ≡ true → starts io pin (log ++ x ∷ []) ≡ 1
starts-push_first io pin [] x none on new = ap (λ b. cond b (one_if (is_new x.1)) 0) on ∙ ap one_if new
starts-push_first io pin (y ∷ ys) x none on new = by_test (is_on io pin y.0) refl (λ h. starts-push_first io pin ys x h on new)
  where
    sums : hits io pin (y ∷ ys) ≡ one_if (is_on io pin y.0) + hits io pin ys
    sums = sum_by-cons (λ (z : Pulse × Hit). one_if (is_on io pin z.0)) y ys

    by_test : (b : Bool) → is_on io pin y.0 ≡ b → (hits io pin ys ≡ 0 → starts io pin (ys ++ x ∷ []) ≡ 1) → cond b (one_if (is_new y.1)) (starts io pin (ys ++ x ∷ [])) ≡ 1
    by_test true e h = let t = ap one_if e in absurd (omega (arith, sums))
    by_test false e h = let t = ap one_if e in h (omega (arith, sums))

pub on_same : (p : Pulse) (io pin : ℕ) → io ≡ p.io → pin ≡ p.pin → is_on io pin p ≡ true
on_same p io pin e f = ap (λ b. b && eqb p.pin pin) (eq-eqb p.io io (sym e)) ∙ eq-eqb p.pin pin (sym f)

pub off_io : (p : Pulse) (io pin : ℕ) → io ≢ p.io → is_on io pin p ≡ false
off_io p io pin ne = ap (λ b. b && eqb p.pin pin) (ne_eqb p.io io (λ e. ne (sym e)))

and_false : (b : Bool) → (b && false) ≡ false
and_false true = refl
and_false false = refl

pub off_pin : (p : Pulse) (io pin : ℕ) → pin ≢ p.pin → is_on io pin p ≡ false
off_pin p io pin ne = ap (λ b. eqb p.io io && b) (ne_eqb p.pin pin (λ e. ne (sym e))) ∙ and_false (eqb p.io io)

-- what is set by the bit: 1 where it was 0
fresh : (b : ℕ) → b < 2 → one_if (is_new (hit_of b)) + b ≡ 1
fresh zero l = refl
fresh (suc zero) l = refl
fresh (suc (suc b)) l = absurd (omega arith)

pub new_at_zero : (b : ℕ) → b ≡ 0 → is_new (hit_of b) ≡ true
new_at_zero b e = ap (λ k. is_new (hit_of k)) e

-- the bits after the step, on the pulse's own I/O APIC
pub bit_step : (n pin : ℕ) (p : Pulse) → p.pin < 24 → bit_at (bit_or n (1 * 2 ^ p.pin % 2 ^ 64)) pin ≡ bit_at n pin + one_if (is_on p.io pin p && is_new (hit_of (bit_at n p.pin)))
bit_step n pin p small = dite (ℕ_discrete pin p.pin) same other
  where
    same : pin ≡ p.pin → bit_at (bit_or n (1 * 2 ^ p.pin % 2 ^ 64)) pin ≡ bit_at n pin + one_if (is_on p.io pin p && is_new (hit_of (bit_at n p.pin)))
    same e =
        let on = ap (λ b. one_if (b && is_new (hit_of (bit_at n p.pin)))) (on_same p p.io pin refl e) in
        let set = bit_at_set_same w64 n p.pin (omega arith) in
        let f = fresh (bit_at n p.pin) (bit_at-lt n p.pin) in
        let here = ap (bit_at n) e in
        let there = ap (bit_at (bit_or n (1 * 2 ^ p.pin % 2 ^ 64))) e in
        there ∙ set ∙ sym (ap (λ k. bit_at n pin + k) on ∙ (ap (λ k. k + one_if (is_new (hit_of (bit_at n p.pin)))) here ∙ omega arith))

    other : pin ≢ p.pin → bit_at (bit_or n (1 * 2 ^ p.pin % 2 ^ 64)) pin ≡ bit_at n pin + one_if (is_on p.io pin p && is_new (hit_of (bit_at n p.pin)))
    other ne =
        let off = ap (λ b. one_if (b && is_new (hit_of (bit_at n p.pin)))) (off_pin p p.io pin ne) in
        bit_at_set_other w64 n p.pin (omega arith) pin ne ∙ sym (ap (λ k. bit_at n pin + k) off ∙ omega arith)

pub on_gives : (p : Pulse) (io pin : ℕ) → is_on io pin p ≡ true → (io ≡ p.io) × (pin ≡ p.pin)
on_gives p io pin e = (
  dite (ℕ_discrete io p.io) (λ h. h) (λ ne. absurd (true≢false (sym e ∙ off_io p io pin ne))),
  dite (ℕ_discrete pin p.pin) (λ h. h) (λ ne. absurd (true≢false (sym e ∙ off_pin p io pin ne))),
)

-- the next pulse of the plan goes to the log
pub follows_next : (log : List (Pulse × Hit)) (plan : List Pulse) (x : Pulse × Hit) (d : Pulse) → FollowsPlan log plan → length log < length plan → x.0 ≡ get_or plan (length log) d → FollowsPlan (log ++ x ∷ []) plan
follows_next log plan x d was more next =
    map-append (λ (y : Pulse × Hit). y.0) log (x ∷ [])
    ∙ ap (λ (l : List Pulse). l ++ x.0 ∷ []) was
    ∙ ap (λ (p : Pulse). take (length log) plan ++ p ∷ []) next
    ∙ sym (take_more plan (length log) d more)
    ∙ ap (λ (n : ℕ). take n plan) (sym (length-append log (x ∷ [])))

pub merged_of : (b : ℕ) → b ≢ 0 → Merged ≡ hit_of b
merged_of zero ne = absurd (ne refl)
merged_of (suc b) ne = refl

-- the counts after a collection
pub add_at : (n i : ℕ) (cs : List ℕ) (k : ℕ) → k < length cs → get_or (with_pins_from n i cs) k 0 ≡ get_or cs k 0 + bit_at n (i + k)
add_at n i [] k l = absurd (omega arith)
add_at n i (c ∷ cs) zero l = ap (λ (j : ℕ). c + bit_at n j) (omega arith)
add_at n i (c ∷ cs) (suc k) l = add_at n (suc i) cs k (omega arith) ∙ ap (λ (j : ℕ). get_or cs k 0 + bit_at n j) (omega arith)

pub length-add : (n i : ℕ) (cs : List ℕ) → length (with_pins_from n i cs) ≡ length cs
length-add n i [] = refl
length-add n i (c ∷ cs) = ap suc (length-add n (suc i) cs)

-- what a log has on a pin is planned
pub hits-le-planned : (io pin : ℕ) (log : List (Pulse × Hit)) (plan : List Pulse) → FollowsPlan log plan → hits io pin log ≤ planned_in io pin plan
hits-le-planned io pin [] plan pre = omega arith
hits-le-planned io pin (x ∷ xs) [] pre = absurd (let e : suc (length (map (λ (y : Pulse × Hit). y.0) xs)) ≡ 0 = ap (λ (l : List Pulse). length l) pre in omega arith)
hits-le-planned io pin (x ∷ xs) (p ∷ ps) pre =
    let le = hits-le-planned io pin xs ps (ap (drop 1) pre) in
    let head : x.0 ≡ p = ap (λ (l : List Pulse). get_or l 0 p) pre in
    let same = ap (λ q. one_if (is_on io pin q)) head in
    omega (arith, sum_by-cons (λ (y : Pulse × Hit). one_if (is_on io pin y.0)) x xs, sum_by-cons (λ q. one_if (is_on io pin q)) p ps)

-- one more of the counts has its bit
pub add_step : (n i k : ℕ) (cs : List ℕ) → k < length cs → set (with_pins_from n i (take k cs) ++ drop k cs) k (get_or (with_pins_from n i (take k cs) ++ drop k cs) k 0 + bit_at n (i + k)) ≡ with_pins_from n i (take (suc k) cs) ++ drop (suc k) cs
add_step n i k [] l = absurd (omega arith)
add_step n i zero (c ∷ cs) l = ap (λ (j : ℕ). (c + bit_at n j) ∷ cs) (omega arith)
add_step n i (suc k) (c ∷ cs) l =
    ap (λ (j : ℕ). (c + bit_at n i) ∷ set (with_pins_from n (suc i) (take k cs) ++ drop k cs) k (get_or (with_pins_from n (suc i) (take k cs) ++ drop k cs) k 0 + bit_at n j)) (omega arith)
    ∙ ap (λ (l : List ℕ). (c + bit_at n i) ∷ l) (add_step n (suc i) k cs (omega arith))

new_is : (h : Hit) → one_if (is_new h) ≡ 1 → h ≡ New
new_is New e = refl
new_is Merged e = absurd (omega arith)

-- a log that starts on the pin has New as its first hit there
pub first_new : (io pin : ℕ) (log : List (Pulse × Hit)) → starts io pin log ≡ 1 → first_hit io pin log ≡ Some New
first_new io pin [] e = absurd (omega arith)
first_new io pin (x ∷ xs) e = by_test (is_on io pin x.0) e (first_new io pin xs)
  where
    by_test : (b : Bool) → cond b (one_if (is_new x.1)) (starts io pin xs) ≡ 1 → (starts io pin xs ≡ 1 → first_hit io pin xs ≡ Some New) → option_map (λ (y : Pulse × Hit). y.1) (cond b (Some x) (find (λ (y : Pulse × Hit). is_on io pin y.0) xs)) ≡ Some New
    by_test true e h = ap Some (new_is x.1 e)
    by_test false e h = h e

-- a log with a first hit on the pin has a hit there
pub first_hits : (io pin : ℕ) (log : List (Pulse × Hit)) → IsSome (first_hit io pin log) → 0 < hits io pin log
first_hits io pin [] s = absurd (true≢false (sym s))
first_hits io pin (x ∷ xs) s = by_test (is_on io pin x.0) refl s (first_hits io pin xs)
  where
    by_test : (b : Bool) → is_on io pin x.0 ≡ b → IsSome (option_map (λ (y : Pulse × Hit). y.1) (cond b (Some x) (find (λ (y : Pulse × Hit). is_on io pin y.0) xs))) → (IsSome (first_hit io pin xs) → 0 < hits io pin xs) → 0 < hits io pin (x ∷ xs)
    by_test true e s h = (let o = ap one_if e in omega (arith, sum_by-cons (λ (y : Pulse × Hit). one_if (is_on io pin y.0)) x xs))
    by_test false e s h = (let r = h s in omega (arith, sum_by-cons (λ (y : Pulse × Hit). one_if (is_on io pin y.0)) x xs))

pub starts_le : (io pin : ℕ) (log : List (Pulse × Hit)) → starts io pin log ≤ 1
starts_le io pin [] = omega arith
starts_le io pin (x ∷ xs) = by_test (is_on io pin x.0) (ones_le (is_new x.1)) (starts_le io pin xs)
  where
    by_test : (b : Bool) → one_if (is_new x.1) ≤ 1 → starts io pin xs ≤ 1 → cond b (one_if (is_new x.1)) (starts io pin xs) ≤ 1
    by_test true h r = h
    by_test false h r = r
