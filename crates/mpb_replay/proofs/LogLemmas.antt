-- A log beside the words of its device; and lists that are compared place by place.
use Rattle.std.proofs.Common.{◌≡◌, ◌≢◌, ◌==◌, ℕ, zero, suc, ◌+◌, ◌<◌, ◌≤◌, Bool, true, false, List, [], ◌∷◌, ◌++◌, length, take, drop, get_or, refl, sym, ap, ap₂, ◌∙◌, subst, arith, Option, Some, None, slice_get, MatchBool}
use Rattle.std.specs.List.{cons_option}
use Rattle.std.proofs.lemmas.Bool.{eqb-true, eqb-false}
use Rattle.std.proofs.lemmas.List.{length-take, take_all}
use Rattle.mpb_spec.specs.declared.config.DevWord.{DevWord}
use Rattle.mpb_spec.specs.declared.pulse.Pulse.{Pulse}
use Rattle.mpb_spec.specs.Pulses.{pulse_of, pulses_in}

-- ---- lists place by place

pub more_same : {X : Type 0} (xs ys : List X) (n : ℕ) → take n xs ≡ take n ys → slice_get xs n ≡ slice_get ys n → take (n + 1) xs ≡ take (n + 1) ys
more_same {X = X} xs ys n same here = subst (λ (k : ℕ). take k xs ≡ take k ys) (next n) (go xs ys n same here) where
  next : (k : ℕ) → suc k ≡ k + 1
  next k = omega arith

  go : (xs ys : List X) (n : ℕ) → take n xs ≡ take n ys → slice_get xs n ≡ slice_get ys n → take (suc n) xs ≡ take (suc n) ys
  go [] [] n same here = refl
  go [] (y ∷ ys) zero same here = cc
  go [] (y ∷ ys) (suc n) same here = cc
  go (x ∷ xs) [] zero same here = cc
  go (x ∷ xs) [] (suc n) same here = cc
  go (x ∷ xs) (y ∷ ys) zero same here = (let e : x ≡ y = cc in ap (λ (z : X). z ∷ []) e)
  go (x ∷ xs) (y ∷ ys) (suc n) same here =
      let head : x ≡ y = cc in
      let tail : take n xs ≡ take n ys = cc in
      ap₂ (λ (z : X) (l : List X). z ∷ l) head (go xs ys n tail here)

-- past the end of one there are no more
pub all_same : {X : Type 0} (xs ys : List X) (n : ℕ) → take n xs ≡ take n ys → length ys < n → xs ≡ ys
all_same {X = X} xs ys n same lt =
    let whole : take n ys ≡ ys = take_all n ys (omega (arith, lt)) in
    let short : length xs ≤ n = omega (arith, length-take n xs, ap (λ (l : List X). length l) same, length-take n ys, lt) in
    sym (take_all n xs short) ∙ same ∙ whole

-- ---- a log

pulses-split : (ws : List DevWord) (i : ℕ) → pulses_in ws ≡ pulses_in (take i ws) ++ pulses_in (drop i ws)
pulses-split ws zero = refl
pulses-split [] (suc i) = refl
pulses-split (w ∷ ws) (suc i) = go (pulse_of w) (pulses-split ws i) where
  go : (o : Option Pulse) → pulses_in ws ≡ pulses_in (take i ws) ++ pulses_in (drop i ws) → cons_option o (pulses_in ws) ≡ cons_option o (pulses_in (take i ws)) ++ pulses_in (drop i ws)
  go None h = h
  go (Some p) h = ap (λ (l : List Pulse). p ∷ l) h

word-at : (ws : List DevWord) (i : ℕ) (d : DevWord) → i < length ws → pulses_in (drop i ws) ≡ cons_option (pulse_of (get_or ws i d)) (pulses_in (drop (suc i) ws))
word-at [] i d lt = absurd (omega (arith, lt))
word-at (w ∷ ws) zero d lt = refl
word-at (w ∷ ws) (suc i) d lt = word-at ws i d (omega (arith, lt))

next-take : (ws : List DevWord) (i : ℕ) (d : DevWord) → i < length ws → pulses_in (take (i + 1) ws) ≡ pulses_in (take i ws) ++ cons_option (pulse_of (get_or ws i d)) []
next-take ws i d lt = ap (λ (k : ℕ). pulses_in (take k ws)) (next i) ∙ go ws i lt where
  next : (k : ℕ) → k + 1 ≡ suc k
  next k = omega arith

  one : (o : Option Pulse) (xs ys : List Pulse) → xs ≡ ys → cons_option o xs ≡ cons_option o ys
  one o xs ys e = ap (cons_option o) e

  join : (o : Option Pulse) (xs ys : List Pulse) → cons_option o (xs ++ ys) ≡ cons_option o xs ++ ys
  join None xs ys = refl
  join (Some p) xs ys = refl

  go : (ws : List DevWord) (i : ℕ) → i < length ws → pulses_in (take (suc i) ws) ≡ pulses_in (take i ws) ++ cons_option (pulse_of (get_or ws i d)) []
  go [] i lt = absurd (omega (arith, lt))
  go (w ∷ ws) zero lt = refl
  go (w ∷ ws) (suc i) lt = ap (cons_option (pulse_of w)) (go ws i (omega (arith, lt))) ∙ join (pulse_of w) (pulses_in (take i ws)) (cons_option (pulse_of (get_or ws i d)) [])

read-at : (xs : List Pulse) (p : Pulse) (ys : List Pulse) (n : ℕ) → length xs ≡ n → slice_get (xs ++ p ∷ ys) n ≡ Some p
read-at [] p ys zero e = refl
read-at [] p ys (suc n) e = absurd (omega (arith, e))
read-at (x ∷ xs) p ys zero e = absurd (omega (arith, e))
read-at (x ∷ xs) p ys (suc n) e = read-at xs p ys n (omega (arith, e))

-- the first pulses of the log are those of the first words
pub record IsAlong (ps : List Pulse) (ws : List DevWord) (n i : ℕ) : Type 0 where
  pub seen : take n ps ≡ pulses_in (take i ws)
  pub within : n ≤ length ps

-- at a pulse that the log hasn't there
pub off : (ps : List Pulse) (ws : List DevWord) (n i : ℕ) (d : DevWord) (p : Pulse) → IsAlong ps ws n i → i < length ws → Some p ≡ pulse_of (get_or ws i d) → slice_get ps n ≢ Some p → ps ≢ pulses_in ws
off ps ws n i d p along lt is not e =
    let parts : pulses_in ws ≡ pulses_in (take i ws) ++ p ∷ pulses_in (drop (suc i) ws) =
    pulses-split ws i ∙ ap (λ (l : List Pulse). pulses_in (take i ws) ++ l) (word-at ws i d lt ∙ ap (λ (o : Option Pulse). cons_option o (pulses_in (drop (suc i) ws))) (sym is)) in
    let long : length (pulses_in (take i ws)) ≡ n = omega (arith, ap (λ (l : List Pulse). length l) along.seen, length-take n ps, along.within) in
    not (ap (λ (l : List Pulse). slice_get l n) (e ∙ parts) ∙ read-at (pulses_in (take i ws)) p (pulses_in (drop (suc i) ws)) n long)

taken-more : (ps : List Pulse) (n : ℕ) (p : Pulse) → slice_get ps n ≡ Some p → (take (n + 1) ps ≡ take n ps ++ p ∷ []) × (n + 1 ≤ length ps)
taken-more ps n p e = (ap (λ (k : ℕ). take k ps) (next n) ∙ (go ps n e).0, omega (arith, (go ps n e).1)) where
  next : (k : ℕ) → k + 1 ≡ suc k
  next k = omega arith

  go : (ps : List Pulse) (n : ℕ) → slice_get ps n ≡ Some p → (take (suc n) ps ≡ take n ps ++ p ∷ []) × (suc n ≤ length ps)
  go [] n e = cc
  go (q ∷ ps) zero e = (let same : q ≡ p = cc in ap (λ (x : Pulse). x ∷ []) same, omega arith)
  go (q ∷ ps) (suc n) e = (ap (λ (l : List Pulse). q ∷ l) (go ps n e).0, omega (arith, (go ps n e).1))

-- at one that it has
pub on : (ps : List Pulse) (ws : List DevWord) (n i : ℕ) (d : DevWord) (p : Pulse) → IsAlong ps ws n i → i < length ws → Some p ≡ pulse_of (get_or ws i d) → slice_get ps n ≡ Some p → IsAlong ps ws (n + 1) (i + 1)
on ps ws n i d p along lt is here =
    let more = taken-more ps n p here in
    record {
      seen = more.0 ∙ ap (λ (l : List Pulse). l ++ p ∷ []) along.seen ∙ ap (λ (o : Option Pulse). pulses_in (take i ws) ++ cons_option o []) is ∙ sym (next-take ws i d lt);
      within = more.1;
    }

append-none : (xs : List Pulse) → xs ++ [] ≡ xs
append-none [] = refl
append-none (x ∷ xs) = ap (λ (l : List Pulse). x ∷ l) (append-none xs)

-- at a word that is no pulse
pub past : (ps : List Pulse) (ws : List DevWord) (n i : ℕ) (d : DevWord) → IsAlong ps ws n i → i < length ws → None ≡ pulse_of (get_or ws i d) → IsAlong ps ws n (i + 1)
past ps ws n i d along lt is = record {
  seen = along.seen ∙ sym (append-none (pulses_in (take i ws))) ∙ ap (λ (o : Option Pulse). pulses_in (take i ws) ++ cons_option o []) is ∙ sym (next-take ws i d lt);
  within = along.within;
}

-- at the end
pub at_end : (ps : List Pulse) (ws : List DevWord) (n i m : ℕ) (b : Bool) → IsAlong ps ws n i → length ws ≤ i → m ≡ length ps → b ≡ (n == m) → MatchBool b (ps ≡ pulses_in ws) (ps ≢ pulses_in ws)
at_end ps ws n i m b along le count e = go b e where
  whole : take n ps ≡ pulses_in ws
  whole = along.seen ∙ ap (λ (l : List DevWord). pulses_in l) (take_all i ws le)

  go : (b : Bool) → b ≡ (n == m) → MatchBool b (ps ≡ pulses_in ws) (ps ≢ pulses_in ws)
  go true e = (let all : n ≡ m = eqb-true n m (sym e) in sym (take_all n ps (omega (arith, all, count))) ∙ whole)
  go false e = λ same. (let not : n ≡ m → ⊥ = eqb-false n m (sym e) in not (omega (arith, ap (λ (l : List Pulse). length l) (sym same ∙ refl), ap (λ (l : List Pulse). length l) whole, length-take n ps, along.within, count)))
