-- Rows say what their entries ask for.
use Rattle.std.proofs.Common.{◌≡◌, ℕ, zero, suc, ◌+◌, ◌*◌, ◌/◌, ◌%◌, ◌^◌, ◌<◌, ◌≤◌, Bool, true, false, ◌&&◌, List, [], ◌∷◌, length, take, get_or, sym, refl, ap, subst, ◌∙◌, arith}
use Rattle.std.specs.Prelude.{Option, Some, None, ◌==◌, slice_get, filter, unwrap_or, is_none, All}
use Rattle.std.proofs.lemmas.List.Quantifiers.{position-Some}
use Rattle.std.proofs.lemmas.Option.{slice_get_within, slice_get-get_or}
use Rattle.mpt_spec.specs.declared.entry.IntEntry.{IntEntry}
use Rattle.mpt_spec.specs.declared.entry.IoApic.{IoApic}
use Rattle.mpt_spec.specs.declared.interrupt.Kind.{Kind}
use Rattle.mpt_spec.specs.declared.interrupt.Kind.TheVariants as kind
use Rattle.mpt_spec.specs.Interrupts.{kind_of, polarity_of, trigger_of}
use Rattle.mpt_route.specs.declared.platform.Platform.{Platform}
use Rattle.mpt_route.specs.declared.route.Route.{Route}
use Rattle.mpt_route.specs.declared.route.Why.TheVariants as why
use Rattle.mpt_route.specs.declared.route.Answer.{Answer}
use Rattle.mpt_route.specs.declared.route.Answer.TheVariants as answer
use Rattle.mpt_route.specs.Routes.{routes_of, is_enabled, bus_kind_in, io_place_in, high_word_of, own_row, row_at, vector_of, mode_of, is_int, bit}
use Rattle.mpt_route.specs.Reasons.{IsAnswerTo}
use Rattle.mpt_route.specs.Sense.{is_low, is_level}
use Rattle.mpt_route.proofs.ReasonLemmas.{are_routes, unknown_io, unknown_kind}
use Rattle.mpt_route_laws.specs.Rows.{IfRouted, IsOnPin, is_bus_level_low, IsRowOf}

-- a place is below four
place_below : (ios : List IoApic) (id k : ℕ) → io_place_in ios id ≡ Some k → k < 4
place_below ios id k h =
    omega (arith, (position-Some (λ (io : IoApic). io.id == id) (take 4 (filter is_enabled ios)) k (record { id = 0; version = 0; flags = 0; address = 0 }) h).0, short 4 (filter is_enabled ios))
  where
    short : (n : ℕ) (xs : List IoApic) → length (take n xs) ≤ n
    short zero xs = omega arith
    short (suc n) [] = omega arith
    short (suc n) (x ∷ xs) = omega (arith, short n xs)

-- the row of a routed answer, and that no reason holds
module _ (p : Platform) (elcr i : ℕ) (e : IntEntry) (r : Route) (at : slice_get p.ints i ≡ Some e) (routed : slice_get (routes_of p elcr) i ≡ Some (answer.Routed r)) where
  earlier : List Answer
  earlier = take i (routes_of p elcr)

  answered : IsAnswerTo p elcr (take i (routes_of p elcr)) e (answer.Routed r)
  answered =
      let h : (a : Answer) × (slice_get (routes_of p elcr) i ≡ Some a) × IsAnswerTo p elcr (take i (routes_of p elcr)) e a = (are_routes p elcr).each i e at in
      let both : Some h.0 ≡ Some (answer.Routed r) = sym h.1 ∙ routed in
      let same : h.0 ≡ answer.Routed r = cc in
      subst (IsAnswerTo p elcr (take i (routes_of p elcr)) e) same h.2

  long : length (take i (routes_of p elcr)) ≡ i
  long = front i (routes_of p elcr) (let l : i < length (routes_of p elcr) = slice_get_within (routes_of p elcr) i (answer.Routed r) routed in omega arith)
    where
      front : (n : ℕ) (xs : List Answer) → n ≤ length xs → length (take n xs) ≡ n
      front zero xs l = refl
      front (suc n) [] l = absurd (omega arith)
      front (suc n) (x ∷ xs) l = omega (arith, front n xs (omega arith))

  has_place : (k : ℕ) × (io_place_in p.ios e.dest ≡ Some k)
  has_place = go (io_place_in p.ios e.dest) refl
    where
      go : (o : Option ℕ) → io_place_in p.ios e.dest ≡ o → (k : ℕ) × (io_place_in p.ios e.dest ≡ Some k)
      go None q = absurd (answered.1 why.UnknownIo (unknown_io e.dest (take 4 (filter is_enabled p.ios)) (ap is_none q)))
      go (Some k) q = (k, q)

  has_kind : (k : Kind) × (kind_of e.kind ≡ Some k)
  has_kind = go (kind_of e.kind) refl
    where
      go : (o : Option Kind) → kind_of e.kind ≡ o → (k : Kind) × (kind_of e.kind ≡ Some k)
      go None q = absurd (answered.1 why.UnknownKind (unknown_kind e.kind (ap is_none q)))
      go (Some k) q = (k, q)

  pub pin_below : e.pin < 24
  pin_below = let h : 23 < e.pin → ⊥ = answered.1 why.PinRange in omega arith

  -- the row by its place and its kind
  is_row : r ≡ row_at has_place.0 has_kind.0 (is_bus_level_low p elcr e) (high_word_of p.processors) i e
  is_row =
      answered.0
      ∙ ap (λ (o : Option ℕ). own_row (bus_kind_in p.buses e.bus) o (high_word_of p.processors) elcr (length (take i (routes_of p elcr))) e) has_place.1
      ∙ ap (λ (n : ℕ). own_row (bus_kind_in p.buses e.bus) (Some has_place.0) (high_word_of p.processors) elcr n e) long
      ∙ ap (λ (o : Option Kind). row_at has_place.0 (unwrap_or o kind.Int) (is_bus_level_low p elcr e) (high_word_of p.processors) i e) has_kind.1

  pub on_pin : IsOnPin r
  on_pin =
      let a : r.io ≡ has_place.0 = ap (λ (s : Route). s.io) is_row in
      let b : r.pin ≡ e.pin = ap (λ (s : Route). s.pin) is_row in
      (omega (arith, place_below p.ios e.dest has_place.0 has_place.1), omega (arith, pin_below))

vector_below : (k : Kind) (io pin : ℕ) → io < 4 → pin < 24 → vector_of k io pin < 256
vector_below kind.Int io pin a b = omega arith
vector_below kind.Nmi io pin a b = omega arith
vector_below kind.Smi io pin a b = omega arith
vector_below kind.ExtInt io pin a b = omega arith

mode_below : (k : Kind) → mode_of k < 8
mode_below kind.Int = omega arith
mode_below kind.Nmi = omega arith
mode_below kind.Smi = omega arith
mode_below kind.ExtInt = omega arith

bit_below : (b : Bool) → bit b < 2
bit_below true = omega arith
bit_below false = omega arith

-- the fields of a word
record HasFields (v m a b : ℕ) : Type 0 where
  vector : (v + 2 ^ 8 * m + 2 ^ 13 * a + 2 ^ 15 * b) % 2 ^ 8 ≡ v
  mode : (v + 2 ^ 8 * m + 2 ^ 13 * a + 2 ^ 15 * b) / 2 ^ 8 % 8 ≡ m
  polarity : (v + 2 ^ 8 * m + 2 ^ 13 * a + 2 ^ 15 * b) / 2 ^ 13 % 2 ≡ a
  trigger : (v + 2 ^ 8 * m + 2 ^ 13 * a + 2 ^ 15 * b) / 2 ^ 15 ≡ b
  others : (v + 2 ^ 8 * m + 2 ^ 13 * a + 2 ^ 15 * b) / 2 ^ 11 % 4 ≡ 0
  bit_14 : (v + 2 ^ 8 * m + 2 ^ 13 * a + 2 ^ 15 * b) / 2 ^ 14 % 2 ≡ 0

fields : (v m a b : ℕ) → v < 256 → m < 8 → a < 2 → b < 2 → HasFields v m a b
fields v m a b hv hm ha hb = record {
  vector = omega arith;
  mode = omega arith;
  polarity = omega arith;
  trigger = omega arith;
  others = omega arith;
  bit_14 = omega arith;
}

-- what a row at a place of a kind says
row_says : (p : Platform) (elcr i : ℕ) (e : IntEntry) (r : Route) (place : ℕ) (k : Kind) → io_place_in p.ios e.dest ≡ Some place → kind_of e.kind ≡ Some k → place < 4 → e.pin < 24
    → row_at place k (is_bus_level_low p elcr e) (high_word_of p.processors) i e ≡ r → IsRowOf p elcr i e r
row_says p elcr i e r place k hp hk small within is =
    let low : Bool = is_low (polarity_of e.flags) (is_bus_level_low p elcr e) in
    let level : Bool = is_level (trigger_of e.flags) (is_bus_level_low p elcr e) && is_int k in
    let f : HasFields (vector_of k place e.pin) (mode_of k) (bit low) (bit level) = fields (vector_of k place e.pin) (mode_of k) (bit low) (bit level) (vector_below k place e.pin small within) (mode_below k) (bit_below low) (bit_below level) in
    subst (IsRowOf p elcr i e) is (record {
      kind = k;
      is_kind = hk;
      io = hp;
      pin = refl;
      vector = refl;
      vector_bits = f.vector;
      mode_bits = f.mode;
      polarity_bit = f.polarity;
      trigger_bit = f.trigger;
      other_bits = f.others;
      bit_14 = f.bit_14;
      high = refl;
      entry = refl;
    })

pub is_row_of : (p : Platform) (elcr i : ℕ) (e : IntEntry) (r : Route) → slice_get p.ints i ≡ Some e → slice_get (routes_of p elcr) i ≡ Some (answer.Routed r) → IsRowOf p elcr i e r
is_row_of p elcr i e r at routed =
    let place = has_place p elcr i e r at routed in
    let k = has_kind p elcr i e r at routed in
    row_says p elcr i e r place.0 k.0 place.1 k.1 (place_below p.ios e.dest place.0 place.1) (pin_below p elcr i e r at routed) (sym (is_row p elcr i e r at routed))

-- an answer is that to an entry
pub entry_at : (es : List IntEntry) (xs : List Answer) (j : ℕ) (a : Answer) → length xs ≡ length es → slice_get xs j ≡ Some a → (e : IntEntry) × (slice_get es j ≡ Some e)
entry_at es [] j a q h = absurd (cc)
entry_at [] (x ∷ xs) j a q h = absurd (omega arith)
entry_at (e ∷ es) (x ∷ xs) zero a q h = (e, refl)
entry_at (e ∷ es) (x ∷ xs) (suc j) a q h = entry_at es xs j a (omega arith) h

-- what holds at each place holds of all
all_at : (P : Answer → Type 0) (xs : List Answer) → ((i : ℕ) (a : Answer) → slice_get xs i ≡ Some a → P a) → All P xs
all_at P xs h = λ k d l. h k (get_or xs k d) (slice_get-get_or xs k d l)

pub all_on_pins : (p : Platform) (elcr : ℕ) → All (IfRouted IsOnPin) (routes_of p elcr)
all_on_pins p elcr = all_at (IfRouted IsOnPin) (routes_of p elcr) each
  where
    each : (i : ℕ) (a : Answer) → slice_get (routes_of p elcr) i ≡ Some a → IfRouted IsOnPin a
    each i (answer.Unrouted n w) h = tt
    each i (answer.Routed r) h =
        let e : (e : IntEntry) × (slice_get p.ints i ≡ Some e) = entry_at p.ints (routes_of p elcr) i (answer.Routed r) (are_routes p elcr).count h in
        on_pin p elcr i e.0 r e.1 h
