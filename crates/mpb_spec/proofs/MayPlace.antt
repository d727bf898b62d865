-- What the offer that is found for an I/O APIC tells.
use Rattle.std.proofs.Common.{◌≡◌, ℕ, ◌^◌, Bool, true, false, not, ◌&&◌, cond, refl, arith, Option, None, Some, is_some, nat_lt}
use Rattle.std.proofs.lemmas.Bool.{ltb-true, ltb-false, lt-ltb}
use Rattle.mpb_spec.specs.declared.agent.Offer.{Offer}
use Rattle.mpb_spec.specs.declared.agent.Offer.TheVariants as offer
use Rattle.mpb_spec.specs.declared.agent.Op.{Op}
use Rattle.mpb_spec.specs.declared.agent.Op.TheVariants as op
use Rattle.mpb_spec.specs.declared.apic.Message.{Message}
use Rattle.mpb_spec.specs.IoApic.{next_due}
use Rattle.mpb_spec.specs.State.{Place}
use Rattle.mpb_spec.specs.Steps.{op_of_place, send_of, all_left}
use Rattle.mpb_spec.specs.Asks.{offer_of, least_left, collect_of}
use Rattle.mpb_spec.proofs.AskLemmas.{least_some, least_none, least_is_least}

send_none : (m : Option Message) → is_some m ≡ false → send_of m ≡ None
send_none None e = refl
send_none (Some m) e = cc

send_some : (m : Option Message) → is_some m ≡ true → (o : Op) × (send_of m ≡ Some o)
send_some None e = cc
send_some (Some m) e = (op.Send m.pin, refl)

-- found: it may step with it
pub place_may : (through over : Bool) (p : Place) (f : Offer) → offer_of through over p ≡ Some f → (o : Op) × (op_of_place through over f (Some p) ≡ Some o)
place_may through over p f e = go (is_some (next_due p.chip)) refl (not p.swept) refl over refl through refl (least_left p.left) refl e where
  collects : (m : ℕ) → through ≡ true → not p.swept ≡ true → least_left p.left ≡ Some m → nat_lt m (2 ^ 24) ≡ true → op_of_place through over (offer.Collect m) (Some p) ≡ Some (op.Collect m)
  collects m t n w fits =
      let h = least_some p.left m w in
      rw (t, n, lt-ltb 0 m h.some, fits, h.left) refl

  collect_is : (m : ℕ) (b : Bool) → nat_lt m (2 ^ 24) ≡ b → cond b (Some (offer.Collect m)) None ≡ Some f → (f ≡ offer.Collect m) × (nat_lt m (2 ^ 24) ≡ true)
  collect_is m true b e = let is : f ≡ offer.Collect m = cc in (is, b)
  collect_is m false b e = cc

  go : (a : Bool) → is_some (next_due p.chip) ≡ a → (n : Bool) → not p.swept ≡ n → (v : Bool) → over ≡ v → (t : Bool) → through ≡ t → (l : Option ℕ) → least_left p.left ≡ l
      → cond a (Some offer.Next) (cond (n && v) (Some offer.Sweep) (cond (t && n) (collect_of l) None)) ≡ Some f → (o : Op) × (op_of_place through over f (Some p) ≡ Some o)
  go true a n x v y t z l w e =
      let is : f ≡ offer.Next = cc in
      rw is (send_some (next_due p.chip) a)
  go false a true x true y t z l w e =
      let is : f ≡ offer.Sweep = cc in
      rw is (op.Sweep, rw (x, y) refl)
  go false a true x false y true z None w e = cc
  go false a true x false y true z (Some m) w e =
      let h = collect_is m (nat_lt m (2 ^ 24)) refl e in
      rw h.0 (op.Collect m, collects m z x w h.1)
  go false a true x false y false z l w e = cc
  go false a false x v y true z l w e = cc
  go false a false x v y false z l w e = cc

-- none found: it may not step
pub place_idle : (through over : Bool) (p : Place) → offer_of through over p ≡ None → (f : Offer) → op_of_place through over f (Some p) ≡ None
place_idle through over p e f = go (is_some (next_due p.chip)) refl (not p.swept) refl over refl through refl (least_left p.left) refl e f where
  go : (a : Bool) → is_some (next_due p.chip) ≡ a → (n : Bool) → not p.swept ≡ n → (v : Bool) → over ≡ v → (t : Bool) → through ≡ t → (l : Option ℕ) → least_left p.left ≡ l
      → cond a (Some offer.Next) (cond (n && v) (Some offer.Sweep) (cond (t && n) (collect_of l) None)) ≡ None → (f : Offer) → op_of_place through over f (Some p) ≡ None
  go true a n x v y t z l w e f = cc
  go false a n x v y t z l w e offer.Next = send_none (next_due p.chip) a
  go false a true x true y t z l w e f = cc
  go false a true x false y t z l w e offer.Sweep = rw (x, y) refl
  go false a false x v y t z l w e offer.Sweep = rw x refl
  go false a false x v y true z l w e (offer.Collect m) = rw (z, x) refl
  go false a n x v y false z l w e (offer.Collect m) = rw z refl
  go false a true x false y true z (Some k) w e (offer.Collect m) = rw (z, x) (beyond k m (nat_lt k (2 ^ 24)) refl e w (nat_lt 0 m) refl (nat_lt m (2 ^ 24)) refl (all_left m p.left) refl) where
    beyond : (k m : ℕ) → (g : Bool) → nat_lt k (2 ^ 24) ≡ g → cond g (Some (offer.Collect k)) None ≡ None → least_left p.left ≡ Some k → (b : Bool) → nat_lt 0 m ≡ b → (c : Bool) → nat_lt m (2 ^ 24) ≡ c → (d : Bool) → all_left m p.left ≡ d → cond (b && (c && d)) (Some (op.Collect m)) None ≡ None
    beyond k m true g e w b x c y d z = cc
    beyond k m false g e w false x c y d z = refl
    beyond k m false g e w true x false y d z = refl
    beyond k m false g e w true x true y false z = refl
    beyond k m false g e w true x true y true z = absurd (omega (arith, ltb-false k (2 ^ 24) g, ltb-true m (2 ^ 24) y, least_is_least p.left k m w z (ltb-true 0 m x)))
  go false a true x false y true z None w e (offer.Collect m) = rw (z, x) (none m (nat_lt 0 m) refl (nat_lt m (2 ^ 24)) (all_left m p.left) refl) where
    none : (m : ℕ) → (b : Bool) → nat_lt 0 m ≡ b → (c d : Bool) → all_left m p.left ≡ d → cond (b && (c && d)) (Some (op.Collect m)) None ≡ None
    none m false b c d q = refl
    none m true b false d q = refl
    none m true b true false q = refl
    none m true b true true q = absurd (omega (arith, ltb-true 0 m b, least_none p.left m w q))
