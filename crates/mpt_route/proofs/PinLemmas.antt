-- The answers follow one another, and take each pin once.
use Rattle.std.proofs.Common.{◌≡◌, ℕ, zero, suc, ◌<◌, Bool, true, false, cond, ◌&&◌, List, [], ◌∷◌, length, take, sym, refl, ap, subst, ◌∙◌, arith}
use Rattle.std.specs.Prelude.{Option, Some, None, ◌==◌, slice_get, find, is_some}
use Rattle.std.specs.Option.{option_or}
use Rattle.std.proofs.lemmas.Bool.{eq-eqb}
use Rattle.mpt_spec.specs.declared.entry.IntEntry.{IntEntry}
use Rattle.mpt_route.specs.declared.bus.BusKind.{BusKind}
use Rattle.mpt_route.specs.declared.platform.Platform.{Platform}
use Rattle.mpt_route.specs.declared.route.Route.{Route}
use Rattle.mpt_route.specs.declared.route.Why.{Why}
use Rattle.mpt_route.specs.declared.route.Answer.{Answer}
use Rattle.mpt_route.specs.declared.route.Answer.TheVariants as answer
use Rattle.mpt_route.specs.Routes.{own_row, has_reason, reasons, low_on, taken_by, answer_unless, answer_with, answer_after, routes_of, io_place_in, bus_kind_in, high_word_of}
use Rattle.mpt_route.proofs.StepLemmas.{length-grown, member-grown}
use Rattle.mpt_route.proofs.RouteLemmas.{first_reason, pin_reason}

pub has_answer_per_entry : (p : Platform) (elcr : ℕ) → length (routes_of p elcr) ≡ length p.ints
has_answer_per_entry p elcr = length-grown (answer_after p elcr) p.ints [] ∙ omega arith

-- the answer to an entry is the one after the answers to those before it
pub follows_earlier : (p : Platform) (elcr i : ℕ) (e : IntEntry) → slice_get p.ints i ≡ Some e → slice_get (routes_of p elcr) i ≡ Some (answer_after p elcr (take i (routes_of p elcr)) e)
follows_earlier p elcr i e h = member-grown (answer_after p elcr) p.ints [] i i e (omega arith) h

-- a routed answer takes its pin
taken_there : (xs : List Answer) (i : ℕ) (r : Route) → slice_get xs i ≡ Some (answer.Routed r) → is_some (taken_by r.io r.pin xs) ≡ true
taken_there [] i r h = absurd (cc)
taken_there (x ∷ xs) zero r h =
    let same : x ≡ answer.Routed r = cc in
    subst (λ (y : Answer). is_some (option_or (low_on r.io r.pin y) (taken_by r.io r.pin xs)) ≡ true) (sym same) (here ((r.io == r.io) && (r.pin == r.pin)) (ap (λ t. t && (r.pin == r.pin)) (eq-eqb r.io r.io refl) ∙ eq-eqb r.pin r.pin refl))
  where
    here : (t : Bool) → t ≡ true → is_some (option_or (cond t (Some r.low) None) (taken_by r.io r.pin xs)) ≡ true
    here true q = refl
    here false q = absurd (cc)
taken_there (x ∷ xs) (suc i) r h = or_there (low_on r.io r.pin x) (taken_by r.io r.pin xs) (taken_there xs i r h)
  where
    or_there : (o q : Option ℕ) → is_some q ≡ true → is_some (option_or o q) ≡ true
    or_there None q s = s
    or_there (Some y) q s = refl

-- and was free before
free_before : (b : Option BusKind) (place : Option ℕ) (high elcr : ℕ) (earlier : List Answer) (e : IntEntry) (r : Route) → answer_with b place high elcr earlier e ≡ answer.Routed r → taken_by r.io r.pin earlier ≡ None
free_before b place high elcr earlier e r h =
    let row : Route = own_row b place high elcr (length earlier) e in
    let parts : (find (has_reason b place (taken_by row.io row.pin earlier) row.low e) reasons ≡ None) × (row ≡ r) = split (find (has_reason b place (taken_by row.io row.pin earlier) row.low e) reasons) row h in
    ap (λ (s : Route). taken_by s.io s.pin earlier) (sym parts.1)
    ∙ none (find (has_reason b place None 0 e) reasons) (taken_by row.io row.pin earlier) row.low (sym (first_reason b place (taken_by row.io row.pin earlier) row.low e) ∙ parts.0)
  where
    split : (o : Option Why) (s : Route) → answer_unless o s ≡ answer.Routed r → (o ≡ None) × (s ≡ r)
    split None s q = (refl, cc)
    split (Some w) s q = absurd (cc)

    none : (o : Option Why) (t : Option ℕ) (low : ℕ) → option_or o (pin_reason t low) ≡ None → t ≡ None
    none o None low q = refl
    none None (Some x) low q = absurd (cc)
    none (Some w) (Some x) low q = absurd (cc)

-- a member below an index is one of those before it
pub before : (xs : List Answer) (i j : ℕ) → i < j → slice_get (take j xs) i ≡ slice_get xs i
before [] i zero h = absurd (omega arith)
before [] i (suc j) h = refl
before (x ∷ xs) i zero h = absurd (omega arith)
before (x ∷ xs) zero (suc j) h = refl
before (x ∷ xs) (suc i) (suc j) h = before xs i j (omega arith)

-- an index of the answers is one of the entries
pub entry_at : (es : List IntEntry) (xs : List Answer) (j : ℕ) (a : Answer) → length xs ≡ length es → slice_get xs j ≡ Some a → (e : IntEntry) × (slice_get es j ≡ Some e)
entry_at es [] j a q h = absurd (cc)
entry_at [] (x ∷ xs) j a q h = absurd (omega arith)
entry_at (e ∷ es) (x ∷ xs) zero a q h = (e, refl)
entry_at (e ∷ es) (x ∷ xs) (suc j) a q h = entry_at es xs j a (omega arith) h

-- no two routed answers are on one pin
pub takes_pins_once : (p : Platform) (elcr i j : ℕ) (r s : Route) → i < j → slice_get (routes_of p elcr) i ≡ Some (answer.Routed r) → slice_get (routes_of p elcr) j ≡ Some (answer.Routed s) → r.io ≡ s.io → r.pin ≡ s.pin → ⊥
takes_pins_once p elcr i j r s l hr hs io pin =
    let xs : List Answer = routes_of p elcr in
    let at : (e : IntEntry) × (slice_get p.ints j ≡ Some e) = entry_at p.ints xs j (answer.Routed s) (has_answer_per_entry p elcr) hs in
    let made : Some (answer_after p elcr (take j xs) at.0) ≡ Some (answer.Routed s) = sym (follows_earlier p elcr j at.0 at.1) ∙ hs in
    let free : taken_by s.io s.pin (take j xs) ≡ None = free_before (bus_kind_in p.buses at.0.bus) (io_place_in p.ios at.0.dest) (high_word_of p.processors) elcr (take j xs) at.0 s (inside _ _ made) in
    let there : is_some (taken_by r.io r.pin (take j xs)) ≡ true = taken_there (take j xs) i r (before xs i j l ∙ hr) in
    let moved : taken_by r.io r.pin (take j xs) ≡ None = ap (λ (k : ℕ). taken_by k r.pin (take j xs)) io ∙ ap (λ (k : ℕ). taken_by s.io k (take j xs)) pin ∙ free in
    let wrong : false ≡ true = sym (ap is_some moved) ∙ there in
    absurd (cc)
  where
    inside : (a b : Answer) → Some a ≡ Some b → a ≡ b
    inside a b q = cc
