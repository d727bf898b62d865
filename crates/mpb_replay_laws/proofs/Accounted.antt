-- What the test of a pin says, and that hits are on pins of the board.
use Rattle.std.proofs.Common.{◌≡◌, ◌==◌, ℕ, ◌<◌, Bool, true, false, not, cond, ◌||◌, List, [], ◌∷◌, length, map, refl, sym, ap, ◌∙◌, subst, arith, Option, Some, None, is_some, true≢false, MatchBool, find}
use Rattle.std.specs.Prelude.{Any, IsSome}
use Rattle.std.specs.List.{AllByRecursion, Contains, list_any, filter_map}
use Rattle.std.proofs.lemmas.Bool.{and_parts, and_from, eqb-true, eq-eqb}
use Rattle.std.proofs.lemmas.List.Folds.{Any-from_list_any, list_any-from_Any}
use Rattle.mpb_spec.specs.declared.config.DevWord.{DevWord}
use Rattle.mpb_spec.specs.declared.config.DevWord.TheVariants as word
use Rattle.mpb_spec.specs.declared.entry.Entry.{Entry}
use Rattle.mpb_spec.specs.Plan.{Plan}
use Rattle.mpb_spec.specs.Configs.{IsConfig, IsWordOn}
use Rattle.mpb_spec.specs.declared.pulse.Pulse.{Pulse}
use Rattle.mpb_spec.specs.declared.pulse.Hit.{Hit}
use Rattle.mpb_spec.specs.declared.pulse.Hit.TheVariants.{New, Merged}
use Rattle.mpb_spec.specs.Pulses.{IsInRange, pulses_of, new_hits, first_hit, is_on, pulses_in}
use Rattle.mpb_spec.proofs.Logs.{on_gives}
use Rattle.mpb_start_laws.proofs.Lists.{member}
use Rattle.mpb_robin.specs.Account.{AccountsForPulses, collected_count}
use Rattle.mpb_replay_laws.specs.Differences.{IsAccountedAt}
use Rattle.mpb_replay_laws.specs.Asked.{AllAccounted, HasPulses, starts_new, has_hit, has_new_start, is_accounted}

any-map : {X : Type 0} (P Q : X → Type 0) (xs : List X) → ((x : X) → P x → Q x) → Any P xs → Any Q xs
any-map P Q xs f any = (any.0, any.1, any.2, any.3, f any.1 any.4)

new-is : (o : Option Hit) → starts_new o ≡ true → o ≡ Some New
new-is None e = cc
new-is (Some New) e = refl
new-is (Some Merged) e = cc

is-new : (o : Option Hit) → o ≡ Some New → starts_new o ≡ true
is-new o e = ap starts_new e

-- the two sides of the rule on first hits
hit-is : (a pin : ℕ) (logs : List (List (Pulse × Hit))) → Any (λ log. IsSome (first_hit a pin log)) logs → has_hit a pin logs ≡ true
hit-is a pin logs any = list_any-from_Any (λ (log : List (Pulse × Hit)). is_some (first_hit a pin log)) logs any

start-is : (a pin : ℕ) (logs : List (List (Pulse × Hit))) → has_new_start a pin logs ≡ true → Any (λ log. first_hit a pin log ≡ Some New) logs
start-is a pin logs e = any-map (λ (log : List (Pulse × Hit)). starts_new (first_hit a pin log) ≡ true) (λ (log : List (Pulse × Hit)). first_hit a pin log ≡ Some New) logs (λ log h. new-is (first_hit a pin log) h) (Any-from_list_any (λ (log : List (Pulse × Hit)). starts_new (first_hit a pin log)) logs e)

some-hit : (a pin : ℕ) (logs : List (List (Pulse × Hit))) → has_hit a pin logs ≡ true → Any (λ log. IsSome (first_hit a pin log)) logs
some-hit a pin logs e = Any-from_list_any (λ (log : List (Pulse × Hit)). is_some (first_hit a pin log)) logs e

some-start : (a pin : ℕ) (logs : List (List (Pulse × Hit))) → Any (λ log. first_hit a pin log ≡ Some New) logs → has_new_start a pin logs ≡ true
some-start a pin logs any = list_any-from_Any (λ (log : List (Pulse × Hit)). starts_new (first_hit a pin log)) logs
    (any-map (λ (log : List (Pulse × Hit)). first_hit a pin log ≡ Some New) (λ (log : List (Pulse × Hit)). starts_new (first_hit a pin log) ≡ true) logs (λ log h. is-new (first_hit a pin log) h) any)

implied : (h s : Bool) → (not h || s) ≡ true → h ≡ true → s ≡ true
implied true s e t = e
implied false s e t = cc

implies : (h s : Bool) → (h ≡ true → s ≡ true) → (not h || s) ≡ true
implies true s f = f refl
implies false s f = refl

pub accounted : (a pin n : ℕ) (journal : List Entry) (logs : List (List (Pulse × Hit))) → n ≡ collected_count a pin journal → is_accounted a pin n logs ≡ true → IsAccountedAt a pin journal logs
accounted a pin n journal logs count e =
    let both = and_parts (new_hits a pin logs == n) (not (has_hit a pin logs) || has_new_start a pin logs) e in
    record {
      collections = eqb-true (new_hits a pin logs) n both.0 ∙ count;
      first = λ any. start-is a pin logs (implied (has_hit a pin logs) (has_new_start a pin logs) both.1 (hit-is a pin logs any));
    }

pub is_so : (a pin n : ℕ) (journal : List Entry) (logs : List (List (Pulse × Hit))) → n ≡ collected_count a pin journal → IsAccountedAt a pin journal logs → is_accounted a pin n logs ≡ true
is_so a pin n journal logs count h =
    and_from (new_hits a pin logs == n) (not (has_hit a pin logs) || has_new_start a pin logs) (eq-eqb (new_hits a pin logs) n (h.collections ∙ sym count))
    (implies (has_hit a pin logs) (has_new_start a pin logs) (λ e. some-start a pin logs (h.first (some-hit a pin logs e))))

pub accounted_or_not : (a pin n : ℕ) (journal : List Entry) (logs : List (List (Pulse × Hit))) → n ≡ collected_count a pin journal → MatchBool (is_accounted a pin n logs) (IsAccountedAt a pin journal logs) (¬ IsAccountedAt a pin journal logs)
accounted_or_not a pin n journal logs count = go (is_accounted a pin n logs) refl where
  go : (b : Bool) → is_accounted a pin n logs ≡ b → MatchBool b (IsAccountedAt a pin journal logs) (¬ IsAccountedAt a pin journal logs)
  go true e = accounted a pin n journal logs count e
  go false e = λ h. true≢false (sym (is_so a pin n journal logs count h) ∙ e)

-- ---- hits are on pins of the board

word-range : (n : ℕ) (ws : List DevWord) → AllByRecursion (IsWordOn n) ws → AllByRecursion (IsInRange n) (pulses_in ws)
word-range n [] all = tt
word-range n (word.Pulse a pin ∷ ws) all = (all.0, word-range n ws all.1)
word-range n (word.High a pin ∷ ws) all = word-range n ws all.1
word-range n (word.Low a pin ∷ ws) all = word-range n ws all.1

plans-range : (n : ℕ) (ds : List (List DevWord)) → AllByRecursion (AllByRecursion (IsWordOn n)) ds → AllByRecursion (AllByRecursion (IsInRange n)) (map pulses_in ds)
plans-range n [] all = tt
plans-range n (ws ∷ ds) all = (word-range n ws all.0, plans-range n ds all.1)

unmap : (n : ℕ) (logs : List (List (Pulse × Hit))) → AllByRecursion (AllByRecursion (IsInRange n)) (map pulses_of logs) → AllByRecursion (λ (log : List (Pulse × Hit)). AllByRecursion (IsInRange n) (pulses_of log)) logs
unmap n [] all = tt
unmap n (log ∷ logs) all = (all.0, unmap n logs all.1)

hit-range : (n a pin : ℕ) (log : List (Pulse × Hit)) → AllByRecursion (IsInRange n) (pulses_of log) → IsSome (first_hit a pin log) → (a < n) × (pin < 24)
hit-range n a pin [] all some = cc
hit-range n a pin (x ∷ xs) all some = go (is_on a pin x.0) refl some (hit-range n a pin xs all.1) where
  go : (b : Bool) → is_on a pin x.0 ≡ b → IsSome (Rattle.std.specs.Option.option_map (λ (y : Pulse × Hit). y.1) (cond b (Some x) (find (λ (y : Pulse × Hit). is_on a pin y.0) xs))) → (IsSome (first_hit a pin xs) → (a < n) × (pin < 24)) → (a < n) × (pin < 24)
  go true e some rest = (let on = on_gives x.0 a pin e in (omega (arith, on.0, all.0.0), omega (arith, on.1, all.0.1)))
  go false e some rest = rest some

pub hits_in_range : (c : Plan) (logs : List (List (Pulse × Hit))) (a pin : ℕ) → IsConfig c → HasPulses c logs → Any (λ log. IsSome (first_hit a pin log)) logs → (a < length c.ios) × (pin < 24)
hits_in_range c logs a pin is pulses any =
    let plans = plans-range (length c.ios) c.devices is.words in
    let all = unmap (length c.ios) logs (subst (λ (ls : List (List Pulse)). AllByRecursion (AllByRecursion (IsInRange (length c.ios))) ls) (sym pulses) plans) in
    hit-range (length c.ios) a pin any.1 (member (λ (log : List (Pulse × Hit)). AllByRecursion (IsInRange (length c.ios)) (pulses_of log)) logs any.1 all (any.0, any.2, any.3)) any.4

-- so all pins of the board being accounted for, all pulses are
pub accounts_for_pulses : (c : Plan) (journal : List Entry) (logs : List (List (Pulse × Hit))) → IsConfig c → HasPulses c logs → AllAccounted c journal logs → AccountsForPulses c journal logs
accounts_for_pulses c journal logs is pulses all = record {
  pulses = pulses;
  collections = λ a pin lt low. (all a pin lt low).collections;
  first = λ a pin any. (let r = hits_in_range c logs a pin is pulses any in (all a pin r.0 r.1).first any);
}

pub all_accounted : (c : Plan) (journal : List Entry) (logs : List (List (Pulse × Hit))) → AccountsForPulses c journal logs → AllAccounted c journal logs
all_accounted c journal logs h a pin lt low = record { collections = h.collections a pin lt low; first = h.first a pin }
