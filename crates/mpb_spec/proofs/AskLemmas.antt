-- An I/O APIC may step with the offer that is found, and with none where none is found.
use Rattle.std.proofs.Common.{◌≡◌, ◌==◌, ℕ, zero, suc, ◌*◌, ◌/◌, ◌%◌, ◌^◌, ◌<◌, ◌≤◌, Bool, true, false, cond, List, [], ◌∷◌, length, refl, arith, Option, None, Some, option_map, nat_lt, pow-suc}
use Rattle.std.proofs.lemmas.Bool.{and_parts, eqb-true, eqb-false}
use Rattle.mpb_spec.specs.Steps.{all_left}
use Rattle.mpb_spec.specs.Asks.{least_left}

none_named : (ns : List ℕ) → all_left 0 ns ≡ true
none_named [] = refl
none_named (n ∷ ns) = none_named ns

-- the mask that is found names one pin, and it has a collection left
pub record IsLeast (m : ℕ) (ns : List ℕ) : Type 0 where
  pub some : 0 < m
  pub fits : m < 2 ^ length ns
  pub left : all_left m ns ≡ true

doubled : (m n : ℕ) (ns : List ℕ) → IsLeast m ns → IsLeast (2 * m) (n ∷ ns)
doubled m n ns h =
    let even : (2 * m) % 2 ≡ 0 = omega arith in
    let half : (2 * m) / 2 ≡ m = omega arith in
    record {
      some = omega (arith, h.some);
      fits = rw pow-suc (omega (arith, h.fits));
      left = rw (even, half) h.left;
    }

pub least_some : (ns : List ℕ) (m : ℕ) → least_left ns ≡ Some m → IsLeast m ns
least_some [] m e = cc
least_some (n ∷ ns) m e = go (nat_lt 0 n) refl (least_left ns) refl e (λ k h. least_some ns k h) where
  go : (b : Bool) → nat_lt 0 n ≡ b → (o : Option ℕ) → least_left ns ≡ o → cond b (Some 1) (option_map (λ m. 2 * m) o) ≡ Some m → ((k : ℕ) → least_left ns ≡ Some k → IsLeast k ns) → IsLeast m (n ∷ ns)
  go true b o w e rest =
      let one : m ≡ 1 = cc in
      rw one (record { some = omega arith; fits = rw pow-suc (omega (arith, one_le (length ns))); left = rw b (none_named ns) }) where
        one_le : (k : ℕ) → 1 ≤ 2 ^ k
        one_le zero = omega arith
        one_le (suc k) = rw pow-suc (omega (arith, one_le k))
  go false b None w e rest = cc
  go false b (Some k) w e rest =
      let twice : m ≡ 2 * k = cc in
      rw twice (doubled k n ns (rest k w))

pub least_none : (ns : List ℕ) (m : ℕ) → least_left ns ≡ None → all_left m ns ≡ true → m ≡ 0
least_none [] m e all = eqb-true m 0 all
least_none (n ∷ ns) m e all =
    let parts = and_parts (cond (m % 2 == 1) (nat_lt 0 n) true) (all_left (m / 2) ns) all in
    go (nat_lt 0 n) refl (least_left ns) refl e (m % 2 == 1) refl parts.0 (λ h. least_none ns (m / 2) h parts.1) where
      go : (b : Bool) → nat_lt 0 n ≡ b → (o : Option ℕ) → least_left ns ≡ o → cond b (Some 1) (option_map (λ m. 2 * m) o) ≡ None → (c : Bool) → (m % 2 == 1) ≡ c → cond c (nat_lt 0 n) true ≡ true → (least_left ns ≡ None → m / 2 ≡ 0) → m ≡ 0
      go true b o w e c d t rest = cc
      go false b (Some k) w e c d t rest = cc
      go false b None w e true d t rest = cc
      go false b None w e false d t rest = omega (arith, rest w, eqb-false (m % 2) 1 d)

pub least_is_least : (ns : List ℕ) (k m : ℕ) → least_left ns ≡ Some k → all_left m ns ≡ true → 0 < m → k ≤ m
least_is_least [] k m e all lt = cc
least_is_least (n ∷ ns) k m e all lt =
    let parts = and_parts (cond (m % 2 == 1) (nat_lt 0 n) true) (all_left (m / 2) ns) all in
    go (nat_lt 0 n) refl (least_left ns) refl e (m % 2 == 1) refl parts.0 (λ j h p. least_is_least ns j (m / 2) h parts.1 p) where
      go : (b : Bool) → nat_lt 0 n ≡ b → (o : Option ℕ) → least_left ns ≡ o → cond b (Some 1) (option_map (λ m. 2 * m) o) ≡ Some k → (c : Bool) → (m % 2 == 1) ≡ c → cond c (nat_lt 0 n) true ≡ true → ((j : ℕ) → least_left ns ≡ Some j → 0 < m / 2 → j ≤ m / 2) → k ≤ m
      go true b o w e c d t rest = let one : k ≡ 1 = cc in omega arith
      go false b None w e c d t rest = cc
      go false b (Some j) w e true d t rest = cc
      go false b (Some j) w e false d t rest =
          let twice : k ≡ 2 * j = cc in
          let odd = eqb-false (m % 2) 1 d in
          let half : 0 < m / 2 = omega (arith, odd) in
          omega (arith, twice, rest j w half)
