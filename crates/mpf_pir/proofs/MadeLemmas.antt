-- The table that is made for a platform connects its pins, and gives one link to one wire.
use Rattle.std.proofs.Common.{◌≡◌, ℕ, zero, suc, ◌+◌, ◌*◌, ◌/◌, ◌%◌, ◌<◌, ◌⊎◌, Bool, true, false, cond, ◌&&◌, List, [], ◌∷◌, length, map, get_or, sym, refl, ap, ◌∙◌, subst, inl, inr, arith}
use Rattle.std.specs.Prelude.{Option, Some, None, ◌==◌, find, position, option_map, unwrap_or, slice_index}
use Rattle.std.specs.Bool.{Decides}
use Rattle.std.proofs.lemmas.Bool.{false≢true}
use Rattle.std.proofs.lemmas.Bool.Decides.{Decides-eqb, Decides-and}
use Rattle.std.proofs.lemmas.List.Quantifiers.{position-Some}
use Rattle.mpt_spec.specs.declared.entry.IntEntry.{IntEntry}
use Rattle.mpt_route.specs.declared.platform.Platform.{Platform}
use Rattle.mpf_pir.specs.declared.pins.Pin.{Pin}
use Rattle.mpf_pir.specs.declared.pins.Wire.{Wire}
use Rattle.mpf_pir.specs.declared.table.Slot.{Slot}
use Rattle.mpf_pir.specs.declared.comparing.Odd.{Odd}
use Rattle.mpf_pir.specs.declared.comparing.Odd.TheVariants as odd
use Rattle.mpf_pir.specs.Pins.{pin_of, wire_of, is_pin, is_device, is_wire, pci_ints, wire_at}
use Rattle.mpf_pir.specs.Made.{pin_entries, device_entries, wire_entries, link_among, link_of, slot_of, pir_of}
use Rattle.mpf_pir.specs.Differences.{connected, is_slot_of, link_at, IsPin, IsOdd}
use Rattle.mpf_pir.specs.Laws.{AgreesWithItsPlatform, ConnectsItsPins, LinksItsWires}
use Rattle.mpf_pir.proofs.FirstLemmas.{find_firsts, find_place}
use Rattle.mpf_pir.proofs.ComparisonLemmas.{same_wire}

-- a search through made members is a search for what they are made from
find_map : {X Y : Type 0} (f : X → Y) (p : Y → Bool) (xs : List X) → find p (map f xs) ≡ option_map f (find (λ x. p (f x)) xs)
find_map f p [] = refl
find_map {X} {Y} f p (x ∷ xs) = go (p (f x)) (find_map f p xs)
  where
    go : (b : Bool) → find p (map f xs) ≡ option_map f (find (λ y. p (f y)) xs) → cond b (Some (f x)) (find p (map f xs)) ≡ option_map f (cond b (Some x) (find (λ y. p (f y)) xs))
    go true e = refl
    go false e = e

-- what is found passes
found_passes : {X : Type 0} (p : X → Bool) (xs : List X) (e : X) → find p xs ≡ Some e → p e ≡ true
found_passes p [] e h = absurd (cc)
found_passes {X} p (x ∷ xs) e h = go (p x) refl h (found_passes p xs e)
  where
    go : (b : Bool) → p x ≡ b → cond b (Some x) (find p xs) ≡ Some e → (find p xs ≡ Some e → p e ≡ true) → p e ≡ true
    go true q r later = let same : x ≡ e = cc in subst (λ y. p y ≡ true) same q
    go false q r later = later r

-- where a member of one search passes another test, that search finds something too
found_other : {X : Type 0} (p r : X → Bool) (xs : List X) (e : X) → find p xs ≡ Some e → r e ≡ true → (y : X) × (find r xs ≡ Some y)
found_other p r [] e h t = absurd (cc)
found_other {X} p r (x ∷ xs) e h t = go (p x) h (λ q. found_other p r xs e q t)
  where
    own : (b : Bool) → r x ≡ b → x ≡ e → (y : X) × (cond b (Some x) (find r xs) ≡ Some y)
    own true q s = (x, refl)
    own false q s = absurd (false≢true (sym q ∙ ap r s ∙ t))

    later : (b : Bool) → (y : X) × (find r xs ≡ Some y) → (y : X) × (cond b (Some x) (find r xs) ≡ Some y)
    later true y = (x, refl)
    later false y = y

    go : (b : Bool) → cond b (Some x) (find p xs) ≡ Some e → (find p xs ≡ Some e → (y : X) × (find r xs ≡ Some y)) → (y : X) × (cond (r x) (Some x) (find r xs) ≡ Some y)
    go true q rest = own (r x) refl (cc)
    go false q rest = later (r x) (rest q)

-- pins and devices that are one
device_decides : (q r : Pin) → Decides (is_device q r) ((q.bus ≡ r.bus) × (q.device ≡ r.device))
device_decides q r = Decides-and (q.bus == r.bus) (q.device == r.device) (Decides-eqb q.bus r.bus) (Decides-eqb q.device r.device)

pin_decides : (q r : Pin) → Decides (is_pin q r) (((q.bus ≡ r.bus) × (q.device ≡ r.device)) × (q.pin ≡ r.pin))
pin_decides q r = Decides-and ((q.bus == r.bus) && (q.device == r.device)) (q.pin == r.pin) (device_decides q r) (Decides-eqb q.pin r.pin)

device_respects : (q : Pin) (e f : IntEntry) → is_device (pin_of e) (pin_of f) ≡ true → is_device (pin_of e) q ≡ is_device (pin_of f) q
device_respects q e f h = let s = (device_decides (pin_of e) (pin_of f)).0 h in λ i. (s.0 i == q.bus) && (s.1 i == q.device)

pin_respects : (q : Pin) (e f : IntEntry) → is_pin (pin_of e) (pin_of f) ≡ true → is_pin (pin_of e) q ≡ is_pin (pin_of f) q
pin_respects q e f h = let s = (pin_decides (pin_of e) (pin_of f)).0 h in λ i. (s.0.0 i == q.bus) && (s.0.1 i == q.device) && (s.1 i == q.pin)

wire_respects : (w : Wire) (e f : IntEntry) → is_wire (wire_of e) (wire_of f) ≡ true → is_wire (wire_of e) w ≡ is_wire (wire_of f) w
wire_respects w e f h = ap (λ v. is_wire v w) (same_wire (wire_of e) (wire_of f) h)

wire_itself : (w : Wire) → is_wire w w ≡ true
wire_itself w = (Decides-and (w.dest == w.dest) (w.pin == w.pin) (Decides-eqb w.dest w.dest) (Decides-eqb w.pin w.pin)).1 (refl, refl)

module _ (p : Platform) where
  -- a slot made for an entry's device
  eighth : (i : ℕ) → 8 * (i / 4 % 32) / 8 % 32 ≡ i / 4 % 32
  eighth i = omega arith

  slot_made : (q : Pin) (e : IntEntry) → is_slot_of q (slot_of p e) ≡ is_device (pin_of e) q
  slot_made q e = ap (λ d. (e.bus == q.bus) && (d == q.device)) (eighth e.irq)

  slot_found : (q : Pin) → find (is_slot_of q) (pir_of p).slots ≡ option_map (slot_of p) (find (λ e. is_device (pin_of e) q) (pci_ints p))
  slot_found q =
      find_map (slot_of p) (is_slot_of q) (device_entries p)
      ∙ ap (option_map (slot_of p)) ((λ i. find (λ e. slot_made q e i) (device_entries p)) ∙ find_firsts (λ e f. is_device (pin_of e) (pin_of f)) (λ e. is_device (pin_of e) q) (device_respects q) (pci_ints p))

  -- its link of each pin
  four : (f : ℕ → ℕ) (k : ℕ) → k < 4 → slice_index (f 0 ∷ f 1 ∷ f 2 ∷ f 3 ∷ []) k ≡ f k
  four f zero h = refl
  four f (suc zero) h = refl
  four f (suc (suc zero)) h = refl
  four f (suc (suc (suc zero))) h = refl
  four f (suc (suc (suc (suc k)))) h = absurd (omega arith)

  link_made : (q : Pin) → q.pin < 4 → link_at (pir_of p) q ≡ connected (Some (link_of p q))
  link_made q small = ap (λ o. connected (option_map (λ (s : Slot). slice_index s.links q.pin) o)) (slot_found q) ∙ go (find (λ e. is_device (pin_of e) q) (pci_ints p)) refl
    where
      unwired : (o : Option IntEntry) → find (λ e. is_pin (pin_of e) q) (pci_ints p) ≡ o → find (λ e. is_device (pin_of e) q) (pci_ints p) ≡ None → wire_at p q ≡ None
      unwired None h n = ap (option_map wire_of) h
      unwired (Some e) h n =
          let s = (pin_decides (pin_of e) q).0 (found_passes (λ f. is_pin (pin_of f) q) (pci_ints p) e h) in
          let hit = found_other (λ f. is_pin (pin_of f) q) (λ f. is_device (pin_of f) q) (pci_ints p) e h ((device_decides (pin_of e) q).1 s.0) in
          absurd (let wrong : None ≡ Some hit.0 = sym n ∙ hit.1 in cc)

      go : (o : Option IntEntry) → find (λ e. is_device (pin_of e) q) (pci_ints p) ≡ o → connected (option_map (λ (s : Slot). slice_index s.links q.pin) (option_map (slot_of p) o)) ≡ connected (Some (link_of p q))
      go None n = sym (ap (λ w. connected (Some (link_among (wire_entries p) w))) (unwired (find (λ e. is_pin (pin_of e) q) (pci_ints p)) refl n))
      go (Some e) h =
          let s = (device_decides (pin_of e) q).0 (found_passes (λ f. is_device (pin_of f) q) (pci_ints p) e h) in
          ap (λ n. connected (Some n)) (four (λ n. link_of p (record { bus = e.bus; device = e.irq / 4 % 32; pin = n })) q.pin small ∙ (λ i. link_of p (record { bus = s.0 i; device = s.1 i; pin = q.pin })))

  -- the place of a pin's wire
  wire_placed : (q : Pin) (w : Wire) → wire_at p q ≡ Some w → (i : ℕ) × (position (λ e. is_wire (wire_of e) w) (wire_entries p) ≡ Some i)
  wire_placed q w h = go (find (λ e. is_pin (pin_of e) q) (pci_ints p)) refl h
    where
      placed : (d : IntEntry) → (y : IntEntry) × (find (λ e. is_wire (wire_of e) w) (wire_entries p) ≡ Some y)
          → ((i : ℕ) × (position (λ e. is_wire (wire_of e) w) (wire_entries p) ≡ Some i) × (find (λ e. is_wire (wire_of e) w) (wire_entries p) ≡ Some (get_or (wire_entries p) i d)) × (i < length (wire_entries p)))
          ⊎ ((position (λ e. is_wire (wire_of e) w) (wire_entries p) ≡ None) × (find (λ e. is_wire (wire_of e) w) (wire_entries p) ≡ None))
          → (i : ℕ) × (position (λ e. is_wire (wire_of e) w) (wire_entries p) ≡ Some i)
      placed d y (inl r) = (r.0, r.1)
      placed d y (inr r) = absurd (let wrong : Some y.0 ≡ None = sym y.1 ∙ r.1 in cc)

      go : (o : Option IntEntry) → find (λ e. is_pin (pin_of e) q) (pci_ints p) ≡ o → option_map wire_of o ≡ Some w → (i : ℕ) × (position (λ e. is_wire (wire_of e) w) (wire_entries p) ≡ Some i)
      go None e r = absurd (cc)
      go (Some e) f r =
          let same : wire_of e ≡ w = cc in
          let among : find (λ x. is_pin (pin_of x) q) (pin_entries p) ≡ Some e = find_firsts (λ x y. is_pin (pin_of x) (pin_of y)) (λ x. is_pin (pin_of x) q) (pin_respects q) (pci_ints p) ∙ f in
          let hit = found_other (λ x. is_pin (pin_of x) q) (λ x. is_wire (wire_of x) w) (pin_entries p) e among (ap (λ v. is_wire v w) same ∙ wire_itself w) in
          let wired : find (λ x. is_wire (wire_of x) w) (wire_entries p) ≡ Some hit.0 = find_firsts (λ x y. is_wire (wire_of x) (wire_of y)) (λ x. is_wire (wire_of x) w) (wire_respects w) (pin_entries p) ∙ hit.1 in
          placed e (hit.0, wired) (find_place (λ x. is_wire (wire_of x) w) e (wire_entries p))

  linked : (q : Pin) (w : Wire) → q.pin < 4 → wire_at p q ≡ Some w → (i : ℕ) × (position (λ e. is_wire (wire_of e) w) (wire_entries p) ≡ Some i) × (link_at (pir_of p) q ≡ Some (suc i))
  linked q w small h =
      let at = wire_placed q w h in
      let next : 1 + at.0 ≡ suc at.0 = omega arith in (
        at.0,
        at.1,
        link_made q small ∙ ap (λ o. connected (Some (link_among (wire_entries p) o))) h ∙ ap (λ o. connected (Some (unwrap_or (option_map (λ (place : ℕ). 1 + place) o) 0))) at.1 ∙ ap (λ n. connected (Some n)) next,
      )

  one_wire : (v w : Wire) (i j : ℕ) → i ≡ j → position (λ e. is_wire (wire_of e) v) (wire_entries p) ≡ Some i → position (λ e. is_wire (wire_of e) w) (wire_entries p) ≡ Some j → v ≡ w
  one_wire v w i j e a b =
      let d : IntEntry = record { kind = 0; flags = 0; bus = 0; irq = 0; dest = 0; pin = 0 } in
      let x = position-Some (λ f. is_wire (wire_of f) v) (wire_entries p) i d a in
      let y = position-Some (λ f. is_wire (wire_of f) w) (wire_entries p) j d b in
      sym (same_wire (wire_of (get_or (wire_entries p) i d)) v x.1) ∙ ap (λ k. wire_of (get_or (wire_entries p) k d)) e ∙ same_wire (wire_of (get_or (wire_entries p) j d)) w y.1

  none_odd : (q : Pin) → IsPin q → (why : Odd) → IsOdd p (pir_of p) q why → ⊥
  none_odd q in_range odd.OnlyPir (l, a, b) =
      let none : link_at (pir_of p) q ≡ None = link_made q in_range.pin ∙ ap (λ o. connected (Some (link_among (wire_entries p) o))) b in
      let wrong : Some l ≡ None = sym a ∙ none in
      cc
  none_odd q in_range odd.OnlyMp (w, a, b) =
      let at = linked q w in_range.pin a in
      let wrong : Some (suc at.0) ≡ None = sym at.2 ∙ b in
      cc
  none_odd q in_range odd.Link (l, w, a, b, other) =
      let at = linked q w in_range.pin b in
      let before = linked other.other other.its_wire other.is_pin.pin other.has_wire in
      let links : Some (suc before.0) ≡ Some (suc at.0) = sym before.2 ∙ other.link_same ∙ sym a ∙ at.2 in
      let numbers : suc before.0 ≡ suc at.0 = cc in
      other.differs (one_wire other.its_wire w before.0 at.0 (omega arith) before.1 at.1)

pub made-agrees : AgreesWithItsPlatform
made-agrees p = record {
  sound = λ d c. absurd (omega (arith, c.1));
  complete = λ d is. absurd (none_odd p _ is.on_pin d.why is.odd);
  ascending = tt;
}

pub made-connects : ConnectsItsPins
made-connects p q in_range = (λ none. unlinked (wire_at p q) refl none, λ none. link_made p q in_range.pin ∙ ap (λ o. connected (Some (link_among (wire_entries p) o))) none)
  where
    unlinked : (o : Option Wire) → wire_at p q ≡ o → link_at (pir_of p) q ≡ None → o ≡ None
    unlinked None h none = refl
    unlinked (Some w) h none = let at = linked p q w in_range.pin h in let wrong : Some (suc at.0) ≡ None = sym at.2 ∙ none in absurd (cc)

pub made-links : LinksItsWires
made-links p q r v w in_q in_r has_v has_w = (λ same. one same, λ same. two same)
  where
    one : link_at (pir_of p) q ≡ link_at (pir_of p) r → v ≡ w
    one same =
        let at = linked p q v in_q.pin has_v in
        let to = linked p r w in_r.pin has_w in
        let links : Some (suc at.0) ≡ Some (suc to.0) = sym at.2 ∙ same ∙ to.2 in
        let numbers : suc at.0 ≡ suc to.0 = cc in
        one_wire p v w at.0 to.0 (omega arith) at.1 to.1

    two : v ≡ w → link_at (pir_of p) q ≡ link_at (pir_of p) r
    two same =
        link_made p q in_q.pin ∙ ap (λ o. connected (Some (link_among (wire_entries p) o))) (has_v ∙ ap Some same ∙ sym has_w) ∙ sym (link_made p r in_r.pin)
