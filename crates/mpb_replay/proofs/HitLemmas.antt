-- The first hit of a log, the test of a pin, and the least pin of all.
use Rattle.std.proofs.Common.{◌≡◌, ◌==◌, ℕ, zero, suc, ◌+◌, ◌<◌, Bool, true, false, not, ◌&&◌, ◌||◌, cond, List, [], ◌∷◌, length, take, get_or, sym, ap, ◌∙◌, subst, arith, Some, None, find, MatchBool, inl, inr, ◌≢◌, ◌^◌, ◌≤◌, refl, count_by}
use Rattle.std.specs.Int.{bit_at}
use Rattle.std.proofs.lemmas.Bool.{eq-eqb, ne_eqb}
use Rattle.std.proofs.lemmas.List.{length-take, take_all}
use Rattle.std.proofs.lemmas.List.Sums.{count_by-le-length, count_by_more_yes, count_by_more_no}
use Rattle.std.proofs.lemmas.Nat.Bits.{bit_at-lt, bit_at-zero}
use Rattle.mpb_spec.specs.declared.agent.Agent.TheVariants.{Io}
use Rattle.mpb_spec.specs.declared.agent.Op.TheVariants as op
use Rattle.mpb_spec.specs.declared.entry.Entry.{Entry}
use Rattle.mpb_spec.specs.Plan.{Plan}
use Rattle.mpb_spec.specs.declared.pulse.Pulse.{Pulse}
use Rattle.mpb_spec.specs.declared.pulse.Hit.{Hit}
use Rattle.mpb_spec.specs.Pulses.{new_hits, with_pins}
use Rattle.mpb_spec.proofs.Logs.{add_at, length-add}
use Rattle.mpb_robin.specs.Account.{collected_count, collects}
use Rattle.mpb_replay_laws.specs.Asked.{AllAccounted, has_hit, has_new_start, is_accounted}
use Rattle.mpb_replay_laws.specs.Differences.{IsAccountedAt, IsFirstUnaccounted}
use Rattle.mpb_replay_laws.proofs.Accounted.{accounted_or_not}
use Rattle.mpb_replay.specs.declared.accounts.PinAt.{PinAt}
use Rattle.mpb_replay.specs.Compared.{AreAccounted, IsFirstPinOf}

next : (k : ℕ) → k + 1 ≡ suc k
next k = omega arith

-- none among the first, nor at this place
pub none_more : {X : Type 0} (f : X → Bool) (xs : List X) (i : ℕ) (d : X) → find f (take i xs) ≡ None → i < length xs → f (get_or xs i d) ≡ false → find f (take (i + 1) xs) ≡ None
none_more {X = X} f xs i d none lt no' = ap (λ (k : ℕ). find f (take k xs)) (next i) ∙ go xs i none lt no' where
  go : (xs : List X) (i : ℕ) → find f (take i xs) ≡ None → i < length xs → f (get_or xs i d) ≡ false → find f (take (suc i) xs) ≡ None
  go [] i none lt no' = absurd (omega (arith, lt))
  go (x ∷ xs) zero none lt no' = ap (λ (b : Bool). cond b (Some x) None) no'
  go (x ∷ xs) (suc i) none lt no' = by_test (f x) none (λ h. go xs i h (omega (arith, lt)) no') where
    by_test : (b : Bool) → cond b (Some x) (find f (take i xs)) ≡ None → (find f (take i xs) ≡ None → find f (take (suc i) xs) ≡ None) → cond b (Some x) (find f (take (suc i) xs)) ≡ None
    by_test true e h = cc
    by_test false e h = h e

-- the first that passes
pub some_here : {X : Type 0} (f : X → Bool) (xs : List X) (i : ℕ) (d : X) → find f (take i xs) ≡ None → i < length xs → f (get_or xs i d) ≡ true → find f xs ≡ Some (get_or xs i d)
some_here f [] i d none lt yes' = absurd (omega (arith, lt))
some_here f (x ∷ xs) zero d none lt yes' = ap (λ (b : Bool). cond b (Some x) (find f xs)) yes'
some_here f (x ∷ xs) (suc i) d none lt yes' = by_test (f x) none (λ h. some_here f xs i d h (omega (arith, lt)) yes') where
  by_test : (b : Bool) → cond b (Some x) (find f (take i xs)) ≡ None → (find f (take i xs) ≡ None → find f xs ≡ Some (get_or xs i d)) → cond b (Some x) (find f xs) ≡ Some (get_or xs i d)
  by_test true e h = cc
  by_test false e h = h e

-- the test of a pin
pub test_is : (a pin n hits : ℕ) (logs : List (List (Pulse × Hit))) (hit start : Bool) → hits ≡ new_hits a pin logs → hit ≡ has_hit a pin logs → start ≡ has_new_start a pin logs → ((hits == n) && (not hit || start)) ≡ is_accounted a pin n logs
test_is a pin n hits logs hit start p q r =
    ap (λ (k : ℕ). (k == n) && (not hit || start)) p ∙ ap (λ (t : Bool). (new_hits a pin logs == n) && (not t || start)) q ∙ ap (λ (t : Bool). (new_hits a pin logs == n) && (not (has_hit a pin logs) || t)) r

-- and what it tells
pub told_by : (a pin n : ℕ) (journal : List Entry) (logs : List (List (Pulse × Hit))) (b t : Bool) → n ≡ collected_count a pin journal → b ≡ is_accounted a pin n logs → b ≡ t → MatchBool t (IsAccountedAt a pin journal logs) (¬ IsAccountedAt a pin journal logs)
told_by a pin n journal logs b t count e f =
    subst (λ (x : Bool). MatchBool x (IsAccountedAt a pin journal logs) (¬ IsAccountedAt a pin journal logs)) (sym e ∙ f) (accounted_or_not a pin n journal logs count)

-- the least pin of all
pub first_of : (c : Plan) (ios : ℕ) (at : PinAt) (journal : List Entry) (logs : List (List (Pulse × Hit))) → ios ≡ length c.ios → IsFirstPinOf ios at journal logs → IsFirstUnaccounted c at.io at.pin journal logs
first_of c ios at journal logs e h = record {
  place = omega (arith, h.place, e);
  low = h.pin.low;
  wrong = h.pin.wrong;
  first = λ b p lt low before. elim before [ inl less ↦ h.first b less p low | inr same ↦ subst (λ (k : ℕ). IsAccountedAt k p journal logs) (sym same.0) (h.pin.first p same.1) ];
}

pub all_of : (c : Plan) (ios : ℕ) (journal : List Entry) (logs : List (List (Pulse × Hit))) → ios ≡ length c.ios → ((io : ℕ) → io < ios → AreAccounted io 24 journal logs) → AllAccounted c journal logs
all_of c ios journal logs e h a pin lt low = h a (omega (arith, lt, e)) pin low

-- ---- how often each pin is collected

bit_is : (n k : ℕ) → bit_at n k ≡ cond (bit_at n k == 1) 1 0
bit_is n k = go (bit_at n k) (bit_at-lt n k) where
  go : (b : ℕ) → b < 2 → b ≡ cond (b == 1) 1 0
  go zero lt = refl
  go (suc zero) lt = refl
  go (suc (suc b)) lt = absurd (omega (arith, lt))

pub bits_of : (io a pins : ℕ) → a ≡ io → (pin : ℕ) → bit_at pins pin ≡ cond (collects io pin (Io a) (op.Collect pins)) 1 0
bits_of io a pins e pin = bit_is pins pin ∙ ap (λ (b : Bool). cond {A = ℕ} (b && (bit_at pins pin == 1)) 1 0) (sym (eq-eqb a io e))

pub no_bits : (io a pins pin : ℕ) → a ≢ io → bit_at 0 pin ≡ cond (collects io pin (Io a) (op.Collect pins)) 1 0
no_bits io a pins pin ne = bit_at-zero pin ∙ ap (λ (b : Bool). cond {A = ℕ} (b && (bit_at pins pin == 1)) 1 0) (sym (ne_eqb a io ne))

-- the counts of the first entries
pub record AreCounts (io : ℕ) (entries : List Entry) (counts : List ℕ) (i : ℕ) : Type 0 where
  pub wide : length counts ≡ 24
  pub each : (pin : ℕ) → pin < 24 → get_or counts pin 0 ≡ collected_count io pin (take i entries)

pub low_counts : (io : ℕ) (entries : List Entry) (counts : List ℕ) (i pins : ℕ) → AreCounts io entries counts i → i < length entries → length entries < 2 ^ 32 → (pin : ℕ) → pin < 24 → get_or counts pin 0 + bit_at pins pin < 2 ^ 32
low_counts io entries counts i pins h lt short pin low =
    omega (arith, h.each pin low, count_by-le-length (λ (x : Entry). collects io pin x.agent x.op) (take i entries), length-take i entries, bit_at-lt pins pin, lt, short)

one-more : (f : Entry → Bool) (entries : List Entry) (i : ℕ) (d : Entry) → i < length entries → count_by f (take (i + 1) entries) ≡ count_by f (take i entries) + cond (f (get_or entries i d)) 1 0
one-more f entries i d lt = go (f (get_or entries i d)) refl where
  go : (b : Bool) → f (get_or entries i d) ≡ b → count_by f (take (i + 1) entries) ≡ count_by f (take i entries) + cond b 1 0
  go true e = count_by_more_yes f entries i d lt e
  go false e = omega (arith, count_by_more_no f entries i d lt e)

pub more_counts : (io : ℕ) (entries : List Entry) (counts after : List ℕ) (i pins : ℕ) (x : Entry) → AreCounts io entries counts i → i < length entries → x ≡ get_or entries i x
    → ((pin : ℕ) → bit_at pins pin ≡ cond (collects io pin x.agent x.op) 1 0) → after ≡ with_pins pins counts → AreCounts io entries after (i + 1)
more_counts io entries counts after i pins x h lt is bits e = record { wide = ap (λ (l : List ℕ). length l) e ∙ length-add pins 0 counts ∙ h.wide; each = each } where
  each : (pin : ℕ) → pin < 24 → get_or after pin 0 ≡ collected_count io pin (take (i + 1) entries)
  each pin low =
      let zero-more : 0 + pin ≡ pin = omega arith in
      let added : get_or after pin 0 ≡ get_or counts pin 0 + bit_at pins pin = ap (λ (l : List ℕ). get_or l pin 0) e ∙ add_at pins 0 counts pin (omega (arith, low, h.wide)) ∙ ap (λ (k : ℕ). get_or counts pin 0 + bit_at pins k) zero-more in
      let same : cond {A = ℕ} (collects io pin x.agent x.op) 1 0 ≡ cond (collects io pin (get_or entries i x).agent (get_or entries i x).op) 1 0 = ap (λ (y : Entry). cond {A = ℕ} (collects io pin y.agent y.op) 1 0) is in
      omega (arith, added, h.each pin low, bits pin, same, one-more (λ (y : Entry). collects io pin y.agent y.op) entries i x lt)

pub all_counts : (io : ℕ) (entries : List Entry) (counts : List ℕ) (i : ℕ) → AreCounts io entries counts i → length entries ≤ i → (pin : ℕ) → pin < 24 → get_or counts pin 0 ≡ collected_count io pin entries
all_counts io entries counts i h le pin low = h.each pin low ∙ ap (collected_count io pin) (take_all i entries le)
