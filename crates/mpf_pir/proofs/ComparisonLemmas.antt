-- A comparison, one pin more.
use Rattle.std.proofs.Common.{◌≡◌, ◌≢◌, ℕ, zero, suc, ◌+◌, ◌*◌, ◌/◌, ◌%◌, ◌<◌, ◌⊎◌, Bool, true, false, cond, List, [], ◌∷◌, ◌++◌, length, get_or, set, replicate, sym, refl, ap, ◌∙◌, subst, inl, inr, arith, length-set, not}
use Rattle.std.specs.Prelude.{Option, Some, None, ◌==◌, find, option_map, slice_index}
use Rattle.std.specs.Bool.{Decides}
use Rattle.std.specs.List.{Contains}
use Rattle.std.proofs.lemmas.Bool.{false≢true}
use Rattle.std.proofs.lemmas.Bool.Decides.{Decides-eqb, Decides-and, Decides-like, same_from_decides, eqb_tells}
use Rattle.std.proofs.lemmas.List.{get_or-set_same, get_or-set_other}
use Rattle.std.proofs.lemmas.List.Elements.{Contains-append_left, Contains-push, Contains-push_cases}
use Rattle.mpt_route.specs.declared.platform.Platform.{Platform}
use Rattle.mpf_pir.specs.declared.pins.Pin.{Pin}
use Rattle.mpf_pir.specs.declared.pins.Wire.{Wire}
use Rattle.mpf_pir.specs.declared.table.Slot.{Slot}
use Rattle.mpf_pir.specs.declared.table.Pir.{Pir}
use Rattle.mpf_pir.specs.declared.comparing.Odd.{Odd}
use Rattle.mpf_pir.specs.declared.comparing.Odd.TheVariants as odd
use Rattle.mpf_pir.specs.declared.comparing.Difference.{Difference}
use Rattle.mpf_pir.specs.declared.comparing.Seen.{Seen}
use Rattle.mpf_pir.specs.declared.comparing.Seen.TheVariants as seen
use Rattle.mpf_pir.specs.Pins.{is_wire, wire_at}
use Rattle.mpf_pir.specs.Differences.{link_at, connected, is_slot_of, pin_in, IsPin, Precedes, HasOtherWireBefore, IsOdd, IsDifference, IsAscending, AreDifferencesOf}
use Rattle.mpf_pir.specs.Progress.{slot_number, links_of, pin_at, pin_number, difference_at, seen_at, is_other, with_wire, odd_of, seen_after, HasBoth, IsSeen, AreDifferencesBelow}

-- pins by number
number_of_pin : (n : ℕ) → 128 * (n / 128) + 4 * (n / 4 % 32) + n % 4 ≡ n
number_of_pin n = omega arith

pub own_number : (n : ℕ) → n ≡ pin_number (pin_at n)
own_number n = sym (number_of_pin n)

pin_parts : (b d q n : ℕ) → d < 32 → q < 4 → n ≡ 128 * b + 4 * d + q → (n / 128 ≡ b) × (n / 4 % 32 ≡ d) × (n % 4 ≡ q)
pin_parts b d q n h k e = (omega arith, omega arith, omega arith)

pub pin_of_number : (q : Pin) → IsPin q → pin_at (pin_number q) ≡ q
pin_of_number q h =
    let parts = pin_parts q.bus q.device q.pin (pin_number q) h.device h.pin refl in
    λ i. record { bus = parts.0 i; device = parts.1 i; pin = parts.2 i }

pub IsPin-at : (n : ℕ) → n < 32768 → IsPin (pin_at n)
IsPin-at n h = record { bus = omega arith; device = omega arith; pin = omega arith }

pub number_below : (q : Pin) → IsPin q → pin_number q < 32768
number_below q h = let b : q.bus < 256 = h.bus in let d : q.device < 32 = h.device in let p : q.pin < 4 = h.pin in omega arith

pub number_ascends : (r q : Pin) → IsPin r → Precedes r q → pin_number r < pin_number q
number_ascends r q h (inl a) = let d : r.device < 32 = h.device in let p : r.pin < 4 = h.pin in omega arith
number_ascends r q h (inr (a, inl b)) = let p : r.pin < 4 = h.pin in omega arith
number_ascends r q h (inr (a, inr (b, c))) = omega arith

pub pin_ascends : (j n : ℕ) → j < n → Precedes (pin_at j) (pin_at n)
pin_ascends j n h = go (order (j / 128) (n / 128) (j / 4 % 32) (n / 4 % 32) (j % 4) (n % 4) (subst (λ x. x < 128 * (n / 128) + 4 * (n / 4 % 32) + n % 4) (sym (number_of_pin j)) (subst (λ x. j < x) (sym (number_of_pin n)) h)) (omega arith) (omega arith) (omega arith) (omega arith))
  where
    three : (x y : ℕ) → (x < y) ⊎ ((x ≡ y) ⊎ (y < x))
    three x y = grind arith

    order : (a b c d e f : ℕ) → 128 * a + 4 * c + e < 128 * b + 4 * d + f → c < 32 → d < 32 → e < 4 → f < 4 → (a < b) ⊎ ((a ≡ b) × ((c < d) ⊎ ((c ≡ d) × (e < f))))
    order a b c d e f l h1 h2 h3 h4 = first (three a b)
      where
        second : a ≡ b → (c < d) ⊎ ((c ≡ d) ⊎ (d < c)) → (a < b) ⊎ ((a ≡ b) × ((c < d) ⊎ ((c ≡ d) × (e < f))))
        second x (inl y) = inr (x, inl y)
        second x (inr (inl y)) = inr (x, inr (y, omega arith))
        second x (inr (inr y)) = absurd (omega arith)

        first : (a < b) ⊎ ((a ≡ b) ⊎ (b < a)) → (a < b) ⊎ ((a ≡ b) × ((c < d) ⊎ ((c ≡ d) × (e < f))))
        first (inl x) = inl x
        first (inr (inl x)) = second x (three c d)
        first (inr (inr x)) = absurd (omega arith)

    go : (j / 128 < n / 128) ⊎ ((j / 128 ≡ n / 128) × ((j / 4 % 32 < n / 4 % 32) ⊎ ((j / 4 % 32 ≡ n / 4 % 32) × (j % 4 < n % 4)))) → Precedes (pin_at j) (pin_at n)
    go x = x

split : (k n : ℕ) → k < n + 1 → (k < n) ⊎ (k ≡ n)
split k n l = grind arith

-- wires are one or two
wire_decides : (v w : Wire) → Decides (is_wire v w) (v ≡ w)
wire_decides v w =
    Decides-like {P = (v.dest ≡ w.dest) × (v.pin ≡ w.pin)} {Q = v ≡ w} (is_wire v w) (λ h. λ i. record { dest = h.0 i; pin = h.1 i }) (λ e. (ap (λ (x : Wire). x.dest) e, ap (λ (x : Wire). x.pin) e))
    (Decides-and (v.dest == w.dest) (v.pin == w.pin) (Decides-eqb v.dest w.dest) (Decides-eqb v.pin w.pin))

pub same_wire : (v w : Wire) → is_wire v w ≡ true → v ≡ w
same_wire v w h = (wire_decides v w).0 h

pub two_wires : (v w : Wire) → is_wire v w ≡ false → v ≢ w
two_wires v w h e = false≢true (sym h ∙ (wire_decides v w).1 e)

-- what is seen keeps its length
pub length-seen : (o : Option ℕ) (w : Option Wire) (s : List Seen) → length (seen_after o w s) ≡ length s
length-seen None w s = refl
length-seen (Some l) None s = refl
length-seen (Some l) (Some w) s = length-set s l (with_wire (seen_at s l) w)

-- nothing seen at first
nothing : (n link : ℕ) → get_or (replicate n seen.Nothing) link seen.Nothing ≡ seen.Nothing
nothing zero link = refl
nothing (suc n) zero = refl
nothing (suc n) (suc link) = nothing n link

pub nothing_seen_at : (link : ℕ) → seen_at (replicate 256 seen.Nothing) link ≡ seen.Nothing
nothing_seen_at link = nothing 256 link

-- the links of a pin by its number
device_parts : (b d n : ℕ) → d < 32 → 32 * b + d ≡ n / 4 → (b ≡ n / 128) × (d ≡ n / 4 % 32)
device_parts b d n h e = (omega arith, omega arith)

device_joined : (b d n : ℕ) → (b ≡ n / 128) × (d ≡ n / 4 % 32) → 32 * b + d ≡ n / 4
device_joined b d n (x, y) = omega arith

slot_test : (s : Slot) (n : ℕ) → (slot_number s == n / 4) ≡ is_slot_of (pin_at n) s
slot_test s n =
    let d : ℕ = s.device / 8 % 32 in
    same_from_decides {P = (s.bus ≡ n / 128) × (d ≡ n / 4 % 32)} (slot_number s == n / 4) (is_slot_of (pin_at n) s)
    (Decides-like (slot_number s == n / 4) (device_parts s.bus d n (omega arith)) (device_joined s.bus d n) (Decides-eqb (slot_number s) (n / 4)))
    (Decides-and (s.bus == n / 128) (d == n / 4 % 32) (Decides-eqb s.bus (n / 128)) (Decides-eqb d (n / 4 % 32)))

pub link_by_number : (t : Pir) (n : ℕ) (o : Option (List ℕ)) → o ≡ links_of t.slots (n / 4) → connected (option_map (λ links. slice_index links (n % 4)) o) ≡ link_at t (pin_at n)
link_by_number t n o e =
    ap (λ x. connected (option_map (λ links. slice_index links (n % 4)) x)) e
    ∙ ap connected (twice (find (λ s. slot_number s == n / 4) t.slots) ∙ (λ i. option_map (λ s. slice_index s.links (n % 4)) (find (λ s. slot_test s n i) t.slots)))
  where
    twice : (x : Option Slot) → option_map (λ links. slice_index links (n % 4)) (option_map (λ s. s.links) x) ≡ option_map (λ s. slice_index s.links (n % 4)) x
    twice None = refl
    twice (Some s) = refl

module _ (p : Platform) (t : Pir) (n : ℕ) where
  -- a pin that isn't one of both with this link
  keep : (link : ℕ) (x : Seen) → ((w : Wire) → HasBoth p t n link w → ⊥) → IsSeen p t n link x → IsSeen p t (n + 1) link x
  keep link seen.Nothing none h = λ k w l b. go k w b (split k n l)
    where
      go : (k : ℕ) (w : Wire) → HasBoth p t k link w → (k < n) ⊎ (k ≡ n) → ⊥
      go k w b (inl l) = h k w l b
      go k w b (inr e) = none w (subst (λ m. HasBoth p t m link w) e b)
  keep link (seen.One v) none h = ((h.0.0, omega (arith, h.0.1), h.0.2), λ k w l b. go k w b (split k n l))
    where
      go : (k : ℕ) (w : Wire) → HasBoth p t k link w → (k < n) ⊎ (k ≡ n) → w ≡ v
      go k w b (inl l) = h.1 k w l b
      go k w b (inr e) = absurd (none w (subst (λ m. HasBoth p t m link w) e b))
  keep link seen.Several none (j, k, v, w, l, m, a, b, ne) = (j, k, v, w, omega arith, omega arith, a, b, ne)

  one_wire : (link : ℕ) (v w : Wire) → HasBoth p t n link v → HasBoth p t n link w → v ≡ w
  one_wire link v w a b = let all : Some v ≡ Some w = sym a.wires ∙ b.wires in cc

  -- a pin that is one
  add : (link : ℕ) (x : Seen) (w : Wire) → HasBoth p t n link w → IsSeen p t n link x → IsSeen p t (n + 1) link (with_wire x w)
  add link seen.Nothing w both h = ((n, omega arith, both), λ k u l b. go k u b (split k n l))
    where
      go : (k : ℕ) (u : Wire) → HasBoth p t k link u → (k < n) ⊎ (k ≡ n) → u ≡ w
      go k u b (inl l) = absurd (h k u l b)
      go k u b (inr e) = one_wire link u w (subst (λ m. HasBoth p t m link u) e b) both
  add link (seen.One v) w both h = go (is_wire v w) refl
    where
      each : v ≡ w → (k : ℕ) (u : Wire) → HasBoth p t k link u → (k < n) ⊎ (k ≡ n) → u ≡ v
      each e k u b (inl l) = h.1 k u l b
      each e k u b (inr q) = one_wire link u w (subst (λ m. HasBoth p t m link u) q b) both ∙ sym e

      go : (b : Bool) → is_wire v w ≡ b → IsSeen p t (n + 1) link (cond b (seen.One v) seen.Several)
      go true q = ((h.0.0, omega (arith, h.0.1), h.0.2), λ k u l b. each (same_wire v w q) k u b (split k n l))
      go false q = (h.0.0, n, v, w, omega (arith, h.0.1), omega arith, h.0.2, both, two_wires v w q)
  add link seen.Several w both (j, k, v, u, l, m, a, b, ne) = (j, k, v, u, omega arith, omega arith, a, b, ne)

  pub seen_step : (o : Option ℕ) (w : Option Wire) (s : List Seen) → link_at t (pin_at n) ≡ o → wire_at p (pin_at n) ≡ w → ((l : ℕ) → o ≡ Some l → l < length s) → ((link : ℕ) → IsSeen p t n link (seen_at s link))
      → (link : ℕ) → IsSeen p t (n + 1) link (seen_at (seen_after o w s) link)
  seen_step None w s ol ow small h link = keep link (seen_at s link) (λ u b. absurd (let wrong : None ≡ Some link = sym ol ∙ b.links in cc)) (h link)
  seen_step (Some l) None s ol ow small h link = keep link (seen_at s link) (λ u b. absurd (let wrong : None ≡ Some u = sym ow ∙ b.wires in cc)) (h link)
  seen_step (Some l) (Some w) s ol ow small h link = go (eqb_tells link l)
    where
      new : List Seen
      new = set s l (with_wire (seen_at s l) w)

      go : (((link == l) ≡ true) × (link ≡ l)) ⊎ (((link == l) ≡ false) × (link ≢ l)) → IsSeen p t (n + 1) link (seen_at (set s l (with_wire (seen_at s l) w)) link)
      go (inl e) =
          subst (λ m. IsSeen p t (n + 1) m (seen_at (set s l (with_wire (seen_at s l) w)) m)) (sym e.1)
          (subst (λ x. IsSeen p t (n + 1) l x) (sym (get_or-set_same s l (with_wire (seen_at s l) w) seen.Nothing (small l refl))) (add l (seen_at s l) w (record { links = ol; wires = ow }) (h l)))
      go (inr e) =
          subst (λ x. IsSeen p t (n + 1) link x) (sym (get_or-set_other s l link (with_wire (seen_at s l) w) seen.Nothing e.1))
          (keep link (seen_at s link) (λ u b. e.1 (let all : Some link ≡ Some l = sym b.links ∙ ol in cc)) (h link))

  -- the other pin of a link
  earlier : (link k : ℕ) (w v : Wire) → n < 32768 → k < n → HasBoth p t k link v → v ≢ w → HasOtherWireBefore p t (pin_at n) link w
  earlier link k w v small l b ne = record {
    other = pin_at k;
    is_pin = IsPin-at k (omega arith);
    before = pin_ascends k n l;
    link_same = b.links;
    its_wire = v;
    has_wire = b.wires;
    differs = ne;
  }

  seen_other : (link : ℕ) (w : Wire) (x : Seen) → n < 32768 → IsSeen p t n link x → is_other x w ≡ true → HasOtherWireBefore p t (pin_at n) link w
  seen_other link w seen.Nothing small h e = absurd (false≢true e)
  seen_other link w (seen.One v) small h e = earlier link h.0.0 w v small h.0.1 h.0.2 (go (is_wire v w) refl e)
    where
      go : (b : Bool) → is_wire v w ≡ b → not b ≡ true → v ≢ w
      go false q r = two_wires v w q
      go true q r = absurd (false≢true r)
  seen_other link w seen.Several small (j, k, v, u, l, m, a, b, ne) e = go (is_wire v w) refl
    where
      go : (c : Bool) → is_wire v w ≡ c → HasOtherWireBefore p t (pin_at n) link w
      go false q = earlier link j w v small l a (two_wires v w q)
      go true q = earlier link k w u small m b (λ r. ne (same_wire v w q ∙ sym r))

  unseen_other : (link : ℕ) (w : Wire) (x : Seen) → IsSeen p t n link x → is_other x w ≡ false → HasOtherWireBefore p t (pin_at n) link w → ⊥
  unseen_other link w x h e o = go x h e
    where
      k : ℕ
      k = pin_number o.other

      at : pin_at (pin_number o.other) ≡ o.other
      at = pin_of_number o.other o.is_pin

      below : pin_number o.other < n
      below = subst (λ m. pin_number o.other < m) (sym (own_number n)) (number_ascends o.other (pin_at n) o.is_pin o.before)

      both : HasBoth p t (pin_number o.other) link o.its_wire
      both = record { links = ap (link_at t) at ∙ o.link_same; wires = ap (wire_at p) at ∙ o.has_wire }

      go : (x : Seen) → IsSeen p t n link x → is_other x w ≡ false → ⊥
      go seen.Nothing h e = h (pin_number o.other) o.its_wire below both
      go (seen.One v) h e = o.differs (h.1 (pin_number o.other) o.its_wire below both ∙ same_wire v w (turn (is_wire v w) e))
        where
          turn : (b : Bool) → not b ≡ false → b ≡ true
          turn true q = refl
          turn false q = absurd (false≢true (sym q))
      go seen.Several h e = absurd (false≢true (sym e))

  pub odd_here : (o : Option ℕ) (w : Option Wire) (s : List Seen) (why : Odd) → link_at t (pin_at n) ≡ o → wire_at p (pin_at n) ≡ w → n < 32768 → ((link : ℕ) → IsSeen p t n link (seen_at s link)) → odd_of o w s ≡ Some why → IsOdd p t (pin_at n) why
  odd_here None None s why ol ow small h e = absurd (cc)
  odd_here None (Some w) s why ol ow small h e = let same : odd.OnlyMp ≡ why = cc in subst (IsOdd p t (pin_at n)) same (w, ow, ol)
  odd_here (Some l) None s why ol ow small h e = let same : odd.OnlyPir ≡ why = cc in subst (IsOdd p t (pin_at n)) same (l, ol, ow)
  odd_here (Some l) (Some w) s why ol ow small h e = go (is_other (seen_at s l) w) refl e
    where
      go : (b : Bool) → is_other (seen_at s l) w ≡ b → cond b (Some odd.Link) None ≡ Some why → IsOdd p t (pin_at n) why
      go true q r = let same : odd.Link ≡ why = cc in subst (IsOdd p t (pin_at n)) same (l, w, ol, ow, seen_other l w (seen_at s l) small (h l) q)
      go false q r = absurd (cc)

  pub even_here : (o : Option ℕ) (w : Option Wire) (s : List Seen) → link_at t (pin_at n) ≡ o → wire_at p (pin_at n) ≡ w → ((link : ℕ) → IsSeen p t n link (seen_at s link)) → odd_of o w s ≡ None → (why : Odd) → IsOdd p t (pin_at n) why → ⊥
  even_here o w s ol ow h e odd.OnlyPir (l, a, b) = pir o w ol ow e
    where
      pir : (o : Option ℕ) (w : Option Wire) → link_at t (pin_at n) ≡ o → wire_at p (pin_at n) ≡ w → odd_of o w s ≡ None → ⊥
      pir None w ol ow e = let wrong : None ≡ Some l = sym ol ∙ a in cc
      pir (Some m) None ol ow e = cc
      pir (Some m) (Some v) ol ow e = let wrong : Some v ≡ None = sym ow ∙ b in cc
  even_here o w s ol ow h e odd.OnlyMp (v, a, b) = mp o w ol ow e
    where
      mp : (o : Option ℕ) (w : Option Wire) → link_at t (pin_at n) ≡ o → wire_at p (pin_at n) ≡ w → odd_of o w s ≡ None → ⊥
      mp o None ol ow e = let wrong : None ≡ Some v = sym ow ∙ a in cc
      mp None (Some u) ol ow e = cc
      mp (Some m) (Some u) ol ow e = let wrong : Some m ≡ None = sym ol ∙ b in cc
  even_here o w s ol ow h e odd.Link (l, v, a, b, other) = link o w ol ow e
    where
      link : (o : Option ℕ) (w : Option Wire) → link_at t (pin_at n) ≡ o → wire_at p (pin_at n) ≡ w → odd_of o w s ≡ None → ⊥
      link None w ol ow e = let wrong : None ≡ Some l = sym ol ∙ a in cc
      link (Some m) None ol ow e = cc
      link (Some m) (Some u) ol ow e =
          let all : Some m ≡ Some l = sym ol ∙ a in
          let one : m ≡ l = cc in
          let alls : Some u ≡ Some v = sym ow ∙ b in
          let same : u ≡ v = cc in
          go (is_other (seen_at s m) u) refl e (subst (λ k. HasOtherWireBefore p t (pin_at n) k u) (sym one) (subst (HasOtherWireBefore p t (pin_at n) l) (sym same) other))
        where
          go : (c : Bool) → is_other (seen_at s m) u ≡ c → cond c (Some odd.Link) None ≡ None → HasOtherWireBefore p t (pin_at n) m u → ⊥
          go true q r x = cc
          go false q r x = unseen_other m u (seen_at s m) (h m) q x

  -- a pin is odd for one reason
  pub odd_one : (q : Pin) (a b : Odd) → IsOdd p t q a → IsOdd p t q b → a ≡ b
  odd_one q odd.OnlyPir odd.OnlyPir x y = refl
  odd_one q odd.OnlyPir odd.OnlyMp (l, x, y) (w, z, u) = absurd (let wrong : Some l ≡ None = sym x ∙ u in cc)
  odd_one q odd.OnlyPir odd.Link (l, x, y) (m, w, z, u, o) = absurd (let wrong : None ≡ Some w = sym y ∙ u in cc)
  odd_one q odd.OnlyMp odd.OnlyPir (w, x, y) (l, z, u) = absurd (let wrong : None ≡ Some l = sym y ∙ z in cc)
  odd_one q odd.OnlyMp odd.OnlyMp x y = refl
  odd_one q odd.OnlyMp odd.Link (w, x, y) (m, v, z, u, o) = absurd (let wrong : None ≡ Some m = sym y ∙ z in cc)
  odd_one q odd.Link odd.OnlyPir (m, w, z, u, o) (l, x, y) = absurd (let wrong : None ≡ Some w = sym y ∙ u in cc)
  odd_one q odd.Link odd.OnlyMp (m, v, z, u, o) (w, x, y) = absurd (let wrong : None ≡ Some m = sym y ∙ z in cc)
  odd_one q odd.Link odd.Link x y = refl

ascending_push : (ds : List Difference) (e : Difference) → IsAscending ds → ((d : Difference) → Contains ds d → Precedes (pin_in d) (pin_in e)) → IsAscending (ds ++ e ∷ [])
ascending_push [] e a h = tt
ascending_push (d ∷ []) e a h = (h d (0, omega arith, refl), tt)
ascending_push (d ∷ f ∷ ds) e a h = (a.0, ascending_push (f ∷ ds) e a.1 (λ x m. h x (later d x (f ∷ ds) m)))
  where
    later : (f g : Difference) (fs : List Difference) → Contains fs g → Contains (f ∷ fs) g
    later f g fs (k, l, e) = (k + 1, omega arith, grind arith)

pub no_differences : (p : Platform) (t : Pir) → AreDifferencesBelow p t 0 []
no_differences p t = record {
  sound = λ d c. absurd (omega (arith, c.1));
  below = λ d c. absurd (omega (arith, c.1));
  complete = λ d is l. absurd (omega (arith, l));
  ascending = tt;
}

module _ (p : Platform) (t : Pir) (n : ℕ) (ds : List Difference) (h : AreDifferencesBelow p t n ds) where
  -- the difference at a number
  here : (d : Difference) → IsDifference p t d → pin_number (pin_in d) ≡ n → pin_in d ≡ pin_at n
  here d is e = sym (pin_of_number (pin_in d) is.on_pin) ∙ ap pin_at e

  pub passed : ((why : Odd) → IsOdd p t (pin_at n) why → ⊥) → AreDifferencesBelow p t (n + 1) ds
  passed none = record {
    sound = h.sound;
    below = λ d c. omega (arith, h.below d c);
    complete = λ d is l. go d is (split (pin_number (pin_in d)) n l);
    ascending = h.ascending;
  }
    where
      go : (d : Difference) → IsDifference p t d → (pin_number (pin_in d) < n) ⊎ (pin_number (pin_in d) ≡ n) → Contains ds d
      go d is (inl l) = h.complete d is l
      go d is (inr e) = absurd (none d.why (subst (λ q. IsOdd p t q d.why) (here d is e) is.odd))

  pub found : (why : Odd) → n < 32768 → IsOdd p t (pin_at n) why → AreDifferencesBelow p t (n + 1) (ds ++ difference_at n why ∷ [])
  found why small is_odd = record {
    sound = λ d c. sound d (Contains-push_cases ds (difference_at n why) d c);
    below = λ d c. below d (Contains-push_cases ds (difference_at n why) d c);
    complete = λ d is l. go d is (split (pin_number (pin_in d)) n l);
    ascending = ascending_push ds (difference_at n why) h.ascending (λ d c. precedes d c);
  }
    where
      is_new : IsDifference p t (difference_at n why)
      is_new = record { on_pin = IsPin-at n small; odd = is_odd }

      sound : (d : Difference) → Contains ds d ⊎ (difference_at n why ≡ d) → IsDifference p t d
      sound d (inl c) = h.sound d c
      sound d (inr e) = subst (IsDifference p t) e is_new

      below : (d : Difference) → Contains ds d ⊎ (difference_at n why ≡ d) → pin_number (pin_in d) < n + 1
      below d (inl c) = omega (arith, h.below d c)
      below d (inr e) = subst (λ x. pin_number (pin_in x) < n + 1) e (let own : n ≡ pin_number (pin_at n) = own_number n in omega arith)

      precedes : (d : Difference) → Contains ds d → Precedes (pin_in d) (pin_at n)
      precedes d c = subst (λ q. Precedes q (pin_at n)) (pin_of_number (pin_in d) (h.sound d c).on_pin) (pin_ascends (pin_number (pin_in d)) n (h.below d c))

      go : (d : Difference) → IsDifference p t d → (pin_number (pin_in d) < n) ⊎ (pin_number (pin_in d) ≡ n) → Contains (ds ++ difference_at n why ∷ []) d
      go d is (inl l) = Contains-append_left ds (difference_at n why ∷ []) d (h.complete d is l)
      go d is (inr e) =
          let q : pin_in d ≡ pin_at n = here d is e in
          let reason : why ≡ d.why = odd_one p t n (pin_at n) why d.why is_odd (subst (λ x. IsOdd p t x d.why) q is.odd) in
          let all : difference_at n why ≡ d = λ i. record { bus = (sym q i).bus; device = (sym q i).device; pin = (sym q i).pin; why = reason i } in
          subst (Contains (ds ++ difference_at n why ∷ [])) all (Contains-push ds (difference_at n why))

  pub whole : n ≡ 32768 → AreDifferencesOf p t ds
  whole e = record {
    sound = h.sound;
    complete = λ d is. h.complete d is (subst (λ m. pin_number (pin_in d) < m) (sym e) (number_below (pin_in d) is.on_pin));
    ascending = h.ascending;
  }
