-- The tables by pin, and an entry's answer from its own row.
use Rattle.std.proofs.Common.{◌≡◌, ℕ, ◌+◌, ◌<◌, Bool, true, false, cond, not, ◌&&◌, List, [], ◌∷◌, ◌++◌, length, take, get_or, sym, refl, ap, ◌∙◌, arith}
use Rattle.std.specs.Prelude.{Option, Some, None, Ok, Err, ◌==◌, if◌then◌else◌, find, fold}
use Rattle.std.specs.Option.{option_or}
use Rattle.std.proofs.lemmas.Bool.Decides.{nat_tests}
use Rattle.std.proofs.lemmas.List.Folds.{find-append}
use Rattle.mpt_spec.specs.declared.entry.IntEntry.{IntEntry}
use Rattle.mpt_route.specs.declared.bus.BusKind.{BusKind}
use Rattle.mpt_route.specs.declared.route.Route.{Route}
use Rattle.mpt_route.specs.declared.route.Why.{Why}
use Rattle.mpt_route.specs.declared.route.Why.TheVariants as why
use Rattle.mpt_route.specs.declared.route.Answer.{Answer}
use Rattle.mpt_route.specs.declared.route.Answer.TheVariants as answer
use Rattle.mpt_route.specs.Routes.{own_row, has_reason, reasons, is_some_other, is_some_same, low_on, taken_by, answer_unless, answer_with, answer_after, routes_after}
use Rattle.mpt_route.specs.declared.platform.Platform.{Platform}
use Rattle.std.proofs.lemmas.List.Sums.{fold_more}
use Rattle.mpt_route.specs.Index.{row_unless, own_answer}
use Rattle.mpt_route.specs.Pins.{low_at, NotesLow, IsLowsOf, answer_on}
use Rattle.mpt_route.proofs.ListLemmas.{or_none}

-- the reason that a taken pin gives
abbrev pub pin_reason : Option ℕ → ℕ → Option Why
pin_reason None low = None
pin_reason (Some x) low = Some (if x == low then why.Shared else why.Clash)

-- reasons of the entry alone, and those of its pin
abbrev own : List Why
own = why.DestWide ∷ why.UnknownBus ∷ why.UnknownIo ∷ why.PinRange ∷ why.UnknownKind ∷ why.ReservedFlag ∷ why.Conforms ∷ []

abbrev of_pin : List Why
of_pin = why.Clash ∷ why.Shared ∷ []

-- an entry's own reasons come first
pub first_reason : (b : Option BusKind) (place taken : Option ℕ) (low : ℕ) (e : IntEntry) → find (has_reason b place taken low e) reasons ≡ option_or (find (has_reason b place None 0 e) reasons) (pin_reason taken low)
first_reason b place taken low e =
    find-append (has_reason b place taken low e) own of_pin
    ∙ ap (option_or (find (has_reason b place taken low e) own)) (last taken)
    ∙ ap (λ (o : Option Why). option_or o (pin_reason taken low)) (or_none (find (has_reason b place None 0 e) own) ∙ sym (find-append (has_reason b place None 0 e) own of_pin))
  where
    same : (x : ℕ) (t : Bool) → cond (not t) (Some why.Clash) (cond t (Some why.Shared) None) ≡ Some (cond t why.Shared why.Clash)
    same x true = refl
    same x false = refl

    last : (o : Option ℕ) → cond (is_some_other low o) (Some why.Clash) (cond (is_some_same low o) (Some why.Shared) None) ≡ pin_reason o low
    last None = refl
    last (Some x) = same x (x == low)

-- an entry with a row: its pin decides
pub settled : (b : Option BusKind) (place : Option ℕ) (high elcr : ℕ) (earlier : List Answer) (e : IntEntry) (row : Route)
    → own_answer b place high elcr (length earlier) e ≡ Ok row → answer_with b place high elcr earlier e ≡ answer_on (taken_by row.io row.pin earlier) row
settled b place high elcr earlier e row is =
    let mine : Route = own_row b place high elcr (length earlier) e in
    let parts : (find (has_reason b place None 0 e) reasons ≡ None) × (mine ≡ row) = split (find (has_reason b place None 0 e) reasons) mine is in
    let taken : Option ℕ = taken_by mine.io mine.pin earlier in
    ap (λ (o : Option Why). answer_unless o mine) (first_reason b place taken mine.low e ∙ ap (λ (o : Option Why). option_or o (pin_reason taken mine.low)) parts.0)
    ∙ pinned taken mine
    ∙ ap (λ (r : Route). answer_on (taken_by r.io r.pin earlier) r) parts.1
  where
    split : (o : Option Why) (r : Route) → row_unless o r ≡ Ok row → (o ≡ None) × (r ≡ row)
    split None r h = (refl, cc)
    split (Some w) r h = absurd (cc)

    pinned : (o : Option ℕ) (r : Route) → answer_unless (option_or None (pin_reason o r.low)) r ≡ answer_on o r
    pinned None r = refl
    pinned (Some x) r = refl

-- an entry without one has its own reason
pub refused : (b : Option BusKind) (place : Option ℕ) (high elcr : ℕ) (earlier : List Answer) (e : IntEntry) (reason : Why)
    → own_answer b place high elcr (length earlier) e ≡ Err reason → answer_with b place high elcr earlier e ≡ answer.Unrouted (length earlier) reason
refused b place high elcr earlier e reason is =
    let mine : Route = own_row b place high elcr (length earlier) e in
    let stood : find (has_reason b place None 0 e) reasons ≡ Some reason = split (find (has_reason b place None 0 e) reasons) mine is in
    let taken : Option ℕ = taken_by mine.io mine.pin earlier in
    ap (λ (o : Option Why). answer_unless o mine) (first_reason b place taken mine.low e ∙ ap (λ (o : Option Why). option_or o (pin_reason taken mine.low)) stood)
  where
    split : (o : Option Why) (r : Route) → row_unless o r ≡ Err reason → o ≡ Some reason
    split None r h = absurd (cc)
    split (Some w) r h = cc

-- the low word on a pin, one more answer at a time
pub taken_by_more : (io pin : ℕ) (earlier : List Answer) (a : Answer) → taken_by io pin (earlier ++ a ∷ []) ≡ option_or (taken_by io pin earlier) (low_on io pin a)
taken_by_more io pin [] a = sym (or_none (low_on io pin a))
taken_by_more io pin (x ∷ earlier) a = ap (option_or (low_on io pin x)) (taken_by_more io pin earlier a) ∙ assoc (low_on io pin x) (taken_by io pin earlier) (low_on io pin a)
  where
    assoc : (o p q : Option ℕ) → option_or o (option_or p q) ≡ option_or (option_or o p) q
    assoc None p q = refl
    assoc (Some y) p q = refl

-- an entry without a row leaves the tables as they are
pub lows_pass : (lows : List (List (Option ℕ))) (earlier : List Answer) (n : ℕ) (reason : Why) → IsLowsOf lows earlier → IsLowsOf lows (earlier ++ answer.Unrouted n reason ∷ [])
lows_pass lows earlier n reason h = λ io pin i p. h io pin i p ∙ or_none (taken_by io pin earlier) ∙ sym (taken_by_more io pin earlier (answer.Unrouted n reason))

-- a row is noted where its pin is free
pub lows_take : (old new : List (List (Option ℕ))) (earlier : List Answer) (row : Route) → row.io < 4 → row.pin < 24 → IsLowsOf old earlier → NotesLow old new row
    → IsLowsOf new (earlier ++ answer_on (low_at old row.io row.pin) row ∷ [])
lows_take old new earlier row small within h notes = λ io pin i p.
    notes io pin i p ∙ ap (λ (o : Option ℕ). option_or o (if (row.io == io) && (row.pin == pin) then Some row.low else None)) (h io pin i p)
    ∙ cases io pin ((row.io == io) && (row.pin == pin)) refl (low_at old row.io row.pin) (h row.io row.pin small within)
    ∙ sym (taken_by_more io pin earlier (answer_on (low_at old row.io row.pin) row))
  where
    cases : (io pin : ℕ) (t : Bool) → ((row.io == io) && (row.pin == pin)) ≡ t → (o : Option ℕ) → o ≡ taken_by row.io row.pin earlier
        → option_or (taken_by io pin earlier) (cond t (Some row.low) None) ≡ option_or (taken_by io pin earlier) (low_on io pin (answer_on o row))
    cases io pin t e None q = ap (λ (x : Bool). option_or (taken_by io pin earlier) (cond x (Some row.low) None)) (sym e)
    cases io pin false e (Some x) q = refl
    cases io pin true e (Some x) q =
        let a : row.io ≡ io = grind (arith, nat_tests) in
        let b : row.pin ≡ pin = grind (arith, nat_tests) in
        let there : Some x ≡ taken_by io pin earlier = q ∙ ap (λ (k : ℕ). taken_by k row.pin earlier) a ∙ ap (λ (k : ℕ). taken_by io k earlier) b in
        ap (λ (o : Option ℕ). option_or o (Some row.low)) (sym there) ∙ ap (λ (o : Option ℕ). option_or o None) there

-- the answers, one more entry at a time
pub found_more : (p : Platform) (elcr : ℕ) (es : List IntEntry) (i : ℕ) (d : IntEntry) (old new : List Answer) (a : Answer) → i < length es → old ≡ fold (routes_after p elcr) [] (take i es)
    → a ≡ answer_after p elcr old (get_or es i d) → new ≡ old ++ a ∷ [] → new ≡ fold (routes_after p elcr) [] (take (i + 1) es)
found_more p elcr es i d old new a l was is now =
    now ∙ ap (λ (x : Answer). old ++ x ∷ []) is ∙ ap (λ (xs : List Answer). routes_after p elcr xs (get_or es i d)) was ∙ sym (fold_more (routes_after p elcr) [] es i d l)

-- what is looked up is what the definition names
pub looked_up : (b c : Option BusKind) (place there : Option ℕ) (high word elcr n m : ℕ) (e : IntEntry) → b ≡ c → place ≡ there → high ≡ word → n ≡ m → own_answer b place high elcr n e ≡ own_answer c there word elcr m e
looked_up b c place there high word elcr n m e be pe he ne =
    ap (λ (x : Option BusKind). own_answer x place high elcr n e) be ∙ ap (λ (x : Option ℕ). own_answer c x high elcr n e) pe ∙ ap (λ (x : ℕ). own_answer c there x elcr n e) he ∙ ap (λ (x : ℕ). own_answer c there word elcr x e) ne

-- the tables after an entry with a row, and after one without
pub lows_after : (old new : List (List (Option ℕ))) (earlier answers : List Answer) (a : Answer) (row : Route) → row.io < 4 → row.pin < 24 → IsLowsOf old earlier → NotesLow old new row
    → a ≡ answer_on (low_at old row.io row.pin) row → answers ≡ earlier ++ a ∷ [] → IsLowsOf new answers
lows_after old new earlier answers a row small within h notes is now = λ io pin i p.
    lows_take old new earlier row small within h notes io pin i p ∙ ap (λ (x : Answer). taken_by io pin (earlier ++ x ∷ [])) (sym is) ∙ ap (taken_by io pin) (sym now)

pub lows_stay : (lows : List (List (Option ℕ))) (earlier answers : List Answer) (a : Answer) (n : ℕ) (reason : Why) → IsLowsOf lows earlier
    → a ≡ answer.Unrouted n reason → answers ≡ earlier ++ a ∷ [] → IsLowsOf lows answers
lows_stay lows earlier answers a n reason h is now = λ io pin i p.
    lows_pass lows earlier n reason h io pin i p ∙ ap (λ (x : Answer). taken_by io pin (earlier ++ x ∷ [])) (sym is) ∙ ap (taken_by io pin) (sym now)
