-- The first entry at a pin, and the first there with another sense.
use Rattle.std.proofs.Common.{◌≡◌, ℕ, ◌%◌, ◌<◌, List, sym, refl, subst, ap, ◌∙◌, arith, inl, inr}
use Rattle.std.specs.Prelude.{Option, Some, None, slice_get, ◌⊎◌}
use Rattle.mpt_spec.specs.declared.entry.IntEntry.{IntEntry}
use Rattle.mpt_spec.specs.declared.entry.Base.{Base}
use Rattle.mpt_spec.specs.declared.entry.Base.TheVariants as base
use Rattle.mpt_rules.specs.Places.{HoldsAt, IsFirstOf, IsFirstBefore, FirstIs, IsOther}
use Rattle.mpt_rules.specs.Entries.{IsOnPin, HasSameSense, IsOnPinWithOtherSense, DiffersInSense}
use Rattle.mpt_rules.specs.Index.{Noted, DiffersFrom, IsSecondSense, HasSecondSense}
use Rattle.mpt_rules.proofs.PlaceLemmas.{first_one, first_as}

pub noted_second : (es : List Base) (q : ℕ × ℕ × ℕ) (e : Base) (old new : Option ℕ) (i : ℕ) → IsSecondSense es e → Noted (IsOnPin q e) old new i → Noted (HasSecondSense es q e) old new i
noted_second es q e old new i s (inl n) = inl ((n.0, s), n.1)
noted_second es q e old new i s (inr n) = inr (λ h. n.0 h.0, n.1)

equal_or : (m n : ℕ) → (m ≡ n) ⊎ (m ≡ n → ⊥)
equal_or m n = grind arith

same_sense : (f a : IntEntry) → ((HasSameSense f a → ⊥) → ⊥) → HasSameSense f a
same_sense f a h = both (equal_or f.kind a.kind) (equal_or (f.flags % 16) (a.flags % 16))
  where
    both : (f.kind ≡ a.kind) ⊎ (f.kind ≡ a.kind → ⊥) → (f.flags % 16 ≡ a.flags % 16) ⊎ (f.flags % 16 ≡ a.flags % 16 → ⊥) → HasSameSense f a
    both (inl x) (inl y) = (x, y)
    both (inr x) y = absurd (h (λ s. x s.0))
    both (inl x) (inr y) = absurd (h (λ s. y s.1))

-- an entry at the pin of no other sense has the same
pub sense_at : (a : IntEntry) (e : Base) → IsOnPin (a.dest, a.pin, 0) e → (DiffersFrom a e → ⊥) → (f : IntEntry) × (e ≡ base.IoInt f) × HasSameSense f a
sense_at a (base.IoInt f) h d = (f, refl, same_sense f a d)
sense_at a (base.Processor f) h d = elim h [ ]
sense_at a (base.Bus f) h d = elim h [ ]
sense_at a (base.IoApic f) h d = elim h [ ]
sense_at a (base.LocalInt f) h d = elim h [ ]

module _ (es : List Base) (a : IntEntry) (i k : ℕ) where
  -- of the others at the pin, those of another sense
  on_pin : (e : Base) → IsOnPinWithOtherSense a e → IsOnPin (a.dest, a.pin, 0) e
  on_pin (base.IoInt b) h = (h.0, h.1, refl)
  on_pin (base.Processor b) h = elim h [ ]
  on_pin (base.Bus b) h = elim h [ ]
  on_pin (base.IoApic b) h = elim h [ ]
  on_pin (base.LocalInt b) h = elim h [ ]

  differs : (e : Base) → IsOnPin (a.dest, a.pin, 0) e → DiffersFrom a e → IsOnPinWithOtherSense a e
  differs (base.IoInt b) h d = (h.0, h.1, λ s. d (sym s.0, sym s.1))
  differs (base.Processor b) h d = elim h [ ]
  differs (base.Bus b) h d = elim h [ ]
  differs (base.IoApic b) h d = elim h [ ]
  differs (base.LocalInt b) h d = elim h [ ]

  -- the first at the pin has another sense
  pub first_differs : slice_get es i ≡ Some (base.IoInt a) → IsFirstOf (IsOnPin (a.dest, a.pin, 0)) es k → HoldsAt (DiffersFrom a) es k → IsFirstBefore (IsOnPinWithOtherSense a) es i k
  first_differs at f d =
      let same : Some f.holds.0 ≡ Some d.0 = sym f.holds.1 ∙ d.1 in
      let is : f.holds.0 ≡ d.0 = cc in
      let pin : IsOnPin (a.dest, a.pin, 0) d.0 = subst (IsOnPin (a.dest, a.pin, 0)) is f.holds.2 in
      record {
        before = apart (order k i) f d;
        place = record { holds = (d.0, d.1, differs d.0 pin d.2); first = λ m l h. f.first m l (h.0, h.1, on_pin h.0 h.2) };
      }
    where
      order : (m n : ℕ) → (m < n) ⊎ ((n < m) ⊎ (m ≡ n))
      order m n = grind arith

      apart : (k < i) ⊎ ((i < k) ⊎ (k ≡ i)) → IsFirstOf (IsOnPin (a.dest, a.pin, 0)) es k → HoldsAt (DiffersFrom a) es k → k < i
      apart (inl l) f d = l
      apart (inr (inl l)) f d = absurd (f.first i l (base.IoInt a, at, (refl, refl, refl)))
      apart (inr (inr e)) f d = absurd (itself d.0 (let x : Some d.0 ≡ Some (base.IoInt a) = sym d.1 ∙ ap (slice_get es) e ∙ at in let y : d.0 ≡ base.IoInt a = cc in y) d.2)
        where
          itself : (e : Base) → e ≡ base.IoInt a → DiffersFrom a e → ⊥
          itself e is h = (subst (DiffersFrom a) is h) (refl, refl)

  -- the first at the pin has the same sense
  pub second_is : (f : IntEntry) → slice_get es k ≡ Some (base.IoInt f) → HasSameSense f a → IsFirstOf (IsOnPin (a.dest, a.pin, 0)) es k → (n : ℕ) (o : Option ℕ)
      → FirstIs (HasSecondSense es (a.dest, a.pin, 0)) es n o → FirstIs (IsOnPinWithOtherSense a) es n o
  second_is f at s first n o h = first_as (HasSecondSense es (a.dest, a.pin, 0)) es (IsOnPinWithOtherSense a) n o to from h
    where
      key : (b : IntEntry) → IsOnPin (a.dest, a.pin, 0) (base.IoInt b) → ◌≡◌ {A = ℕ × ℕ × ℕ} (b.dest, b.pin, 0) (a.dest, a.pin, 0)
      key b p = λ m. (p.0 m, p.1 m, 0)

      to : (e : Base) → HasSecondSense es (a.dest, a.pin, 0) e → IsOnPinWithOtherSense a e
      to (base.Processor b) h = elim h.1 [ ]
      to (base.Bus b) h = elim h.1 [ ]
      to (base.IoApic b) h = elim h.1 [ ]
      to (base.LocalInt b) h = elim h.1 [ ]
      to (base.IoInt b) h =
          let g : IsFirstOf (IsOnPin (a.dest, a.pin, 0)) es h.1.0 = subst (λ x. IsFirstOf (IsOnPin x) es h.1.0) (key b h.0) h.1.1 in
          let place : h.1.0 ≡ k = first_one (IsOnPin (a.dest, a.pin, 0)) es h.1.0 k g first in
          let d = h.1.2 in
          let there : slice_get es k ≡ Some d.0 = subst (λ (m : ℕ). slice_get es m ≡ Some d.0) place d.1 in
          let x : Some d.0 ≡ Some (base.IoInt f) = sym there ∙ at in
          let y : d.0 ≡ base.IoInt f = cc in
          let z : DiffersFrom b (base.IoInt f) = subst (DiffersFrom b) y d.2 in
          (h.0.0, h.0.1, λ t. z (s.0 ∙ t.0, s.1 ∙ t.1))

      from : (e : Base) → IsOnPinWithOtherSense a e → HasSecondSense es (a.dest, a.pin, 0) e
      from (base.Processor b) h = elim h [ ]
      from (base.Bus b) h = elim h [ ]
      from (base.IoApic b) h = elim h [ ]
      from (base.LocalInt b) h = elim h [ ]
      from (base.IoInt b) h =
          let p : IsOnPin (a.dest, a.pin, 0) (base.IoInt b) = (h.0, h.1, refl) in
          let g : IsFirstOf (IsOnPin (b.dest, b.pin, 0)) es k = subst (λ x. IsFirstOf (IsOnPin x) es k) (sym (key b p)) first in
          (p, (k, g, (base.IoInt f, at, λ t. h.2 (sym s.0 ∙ t.0, sym s.1 ∙ t.1))))

-- of an entry that names one destination
pub with_dest : (es : List Base) (a : IntEntry) (i : ℕ) (o : Option ℕ) → (a.dest ≡ 255 → ⊥) → IsOther (IsFirstBefore (IsOnPinWithOtherSense a) es i) o → IsOther (IsFirstBefore (DiffersInSense (base.IoInt a)) es i) o
with_dest es a i (Some j) n h = record {
  before = h.before;
  place = record { holds = (h.place.holds.0, h.place.holds.1, (n, h.place.holds.2)); first = λ k l q. h.place.first k l (q.0, q.1, q.2.1) };
}
with_dest es a i None n h = λ j f. h j (record {
  before = f.before;
  place = record { holds = (f.place.holds.0, f.place.holds.1, f.place.holds.2.1); first = λ k l q. f.place.first k l (q.0, q.1, (n, q.2)) };
})
