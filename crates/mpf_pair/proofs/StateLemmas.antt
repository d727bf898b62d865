-- The mark that an operation word removes, in the registers and in the lists; and which line is found below what.
use Rattle.std.proofs.Common.{◌≡◌, ◌==◌, ℕ, zero, suc, ◌+◌, ◌-◌, ◌/◌, ◌%◌, ◌^◌, ◌<◌, ◌≤◌, Bool, true, false, cond, List, [], ◌∷◌, ◌++◌, Option, None, Some, option_map, find, refl, sym, ap, ◌∙◌, arith, subst}
use Rattle.std.specs.Prelude.{bit_and, IfSome}
use Rattle.std.specs.Int.{bit_not, w8}
use Rattle.std.specs.List.{range_with_len}
use Rattle.mpb_spec.specs.Numbers.{without}
use Rattle.mpf_pair.specs.Pair.{is_bit, ended_line, without_line}
use Rattle.mpf_pair.specs.declared.settings.Side.TheVariants.{Master, Slave}
use Rattle.mpf_pair.specs.Registers.{lines_of, lowest, ended_place, without_place}
use Rattle.mpf_pair.proofs.LineLemmas.{least-master, least-slave, lines-take_master, lines-take_slave}

-- what is found in a row lies in it
pub find-below : (p : ℕ → Bool) (m k n : ℕ) → find p (range_with_len m k) ≡ Some n → n < m + k
find-below p m zero n e = cc
find-below p m (suc k) n e = go (p m) e (λ h. find-below p (m + 1) k n h) where
  go : (b : Bool) → cond b (Some m) (find p (range_with_len (m + 1) k)) ≡ Some n → (find p (range_with_len (m + 1) k) ≡ Some n → n < m + 1 + k) → n < m + suc k
  go true h rest = let same : m ≡ n = cc in omega arith
  go false h rest = let below = rest h in omega arith

pub found-below : (p : ℕ → Bool) (m k : ℕ) (o : Option ℕ) → m + k ≤ 16 → o ≡ find p (range_with_len m k) → IfSome o (λ n. n < 16)
found-below p m k None le e = tt
found-below p m k (Some n) le e = let below = find-below p m k n (sym e) in omega arith

-- the place whose mark an operation word removes is one of the controller's
ended-below : (v w n : ℕ) → ended_place v w ≡ Some n → n < 8
ended-below v w n e = go (v / 32 == 1) (v / 32 == 3) e where
  go : (a b : Bool) → cond a (lowest w) (cond b (Some (v % 8)) None) ≡ Some n → n < 8
  go true b h = find-below (λ k. is_bit k w) 0 8 n h
  go false true h = let same : v % 8 ≡ n = cc in omega arith
  go false false h = cc

-- without the mark of a place
taken-master : (o : Option ℕ) (m s : ℕ) → ((n : ℕ) → o ≡ Some n → n < 8) → lines_of (without_place o m) s ≡ without_line o (lines_of m s)
taken-master None m s below = refl
taken-master (Some n) m s below = lines-take_master m s n (below n refl)

taken-slave : (o : Option ℕ) (m s : ℕ) → ((n : ℕ) → o ≡ Some n → n < 8) → lines_of m (without_place o s) ≡ without_line (option_map (λ n. 8 + n) o) (lines_of m s)
taken-slave None m s below = refl
taken-slave (Some n) m s below =
    let lt = below n refl in
    let same : 8 + n - 8 ≡ n = omega arith in
    subst (λ (k : ℕ). lines_of m (bit_and s (bit_not w8 (2 ^ k))) ≡ without (8 + n) (lines_of m s)) same (lines-take_slave m s (8 + n) (omega arith) (omega arith))

ended_line-master : (v m s : ℕ) → ended_place v m ≡ ended_line Master v (lines_of m s)
ended_line-master v m s = rw (least-master m s) refl

ended_line-slave : (v m s : ℕ) → option_map (λ n. 8 + n) (ended_place v s) ≡ ended_line Slave v (lines_of m s)
ended_line-slave v m s = rw (least-slave m s) (go (v / 32 == 1) (v / 32 == 3)) where
  go : (a b : Bool) → option_map (λ n. 8 + n) (cond a (lowest s) (cond b (Some (v % 8)) None)) ≡ cond a (option_map (λ n. 8 + n) (lowest s)) (cond b (Some (8 + v % 8)) None)
  go true b = refl
  go false true = refl
  go false false = refl

pub ended-master : (v m s : ℕ) → lines_of (without_place (ended_place v m) m) s ≡ without_line (ended_line Master v (lines_of m s)) (lines_of m s)
ended-master v m s =
    taken-master (ended_place v m) m s (ended-below v m) ∙ ap (λ (o : Option ℕ). without_line o (lines_of m s)) (ended_line-master v m s)

pub ended-slave : (v m s : ℕ) → lines_of m (without_place (ended_place v s) s) ≡ without_line (ended_line Slave v (lines_of m s)) (lines_of m s)
ended-slave v m s =
    taken-slave (ended_place v s) m s (ended-below v s) ∙ ap (λ (o : Option ℕ). without_line o (lines_of m s)) (ended_line-slave v m s)

-- what is found in rows one after another
pub find-first : (p : ℕ → Bool) (xs ys : List ℕ) (n : ℕ) → Some n ≡ find p xs → Some n ≡ find p (xs ++ ys)
find-first p [] ys n e = cc
find-first p (x ∷ xs) ys n e = go (p x) e (λ h. find-first p xs ys n h) where
  go : (b : Bool) → Some n ≡ cond b (Some x) (find p xs) → (Some n ≡ find p xs → Some n ≡ find p (xs ++ ys)) → Some n ≡ cond b (Some x) (find p (xs ++ ys))
  go true h rest = h
  go false h rest = rest h

pub find-later : (p : ℕ → Bool) (xs ys : List ℕ) → None ≡ find p xs → find p (xs ++ ys) ≡ find p ys
find-later p [] ys e = refl
find-later p (x ∷ xs) ys e = go (p x) e (λ h. find-later p xs ys h) where
  go : (b : Bool) → None ≡ cond b (Some x) (find p xs) → (None ≡ find p xs → find p (xs ++ ys) ≡ find p ys) → cond b (Some x) (find p (xs ++ ys)) ≡ find p ys
  go true h rest = cc
  go false h rest = rest h
