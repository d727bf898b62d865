-- Where no agent is found that may step, none may; and one that is found may.
use Rattle.std.proofs.Common.{◌≡◌, ◌==◌, ℕ, zero, suc, Bool, true, false, not, ◌||◌, cond, List, [], ◌∷◌, refl, Option, None, Some, is_some, slice_get, MatchBool, subst}
use Rattle.std.proofs.lemmas.Bool.{eqb-true}
use Rattle.mpb_spec.specs.declared.agent.Agent.{Agent}
use Rattle.mpb_spec.specs.declared.agent.Agent.TheVariants.{Cpu, Io, Dev}
use Rattle.mpb_spec.specs.declared.agent.Offer.{Offer}
use Rattle.mpb_spec.specs.declared.agent.Offer.TheVariants as offer
use Rattle.mpb_spec.specs.declared.agent.Op.{Op}
use Rattle.mpb_spec.specs.State.{Processor, Place, Device, BoardState, processor_of, boot_is_through, all_ended}
use Rattle.mpb_spec.specs.Steps.{next_op, op_of_processor, op_of_device, op_of_place}
use Rattle.mpb_spec.specs.May.{MayAny, IsIdle, IsQuiescent}
use Rattle.mpb_spec.specs.Asks.{any_of, offer_at, offer_of, any_place, any_processor, any_device, any_step}
use Rattle.mpb_spec.proofs.MayPlace.{place_may, place_idle}

none_is : {X : Type 0} (o : Option X) → is_some o ≡ false → o ≡ None
none_is None e = refl
none_is (Some x) e = cc

some_is : {X : Type 0} (o : Option X) → is_some o ≡ true → (x : X) × (o ≡ Some x)
some_is None e = cc
some_is (Some x) e = (x, refl)

-- I/O APICs
place_one : (t v : Bool) (a : ℕ) (ps : List Place) → any_place t v ps ≡ true → (n : ℕ) × (f : Offer) × (o : Op) × (op_of_place t v f (slice_get ps n) ≡ Some o)
place_one t v a [] e = cc
place_one t v a (p ∷ ps) e = go (offer_of t v p) refl e (place_one t v a ps) where
  go : (x : Option Offer) → offer_of t v p ≡ x → (is_some x || any_place t v ps) ≡ true → (any_place t v ps ≡ true → (n : ℕ) × (f : Offer) × (o : Op) × (op_of_place t v f (slice_get ps n) ≡ Some o)) → (n : ℕ) × (f : Offer) × (o : Op) × (op_of_place t v f (slice_get (p ∷ ps) n) ≡ Some o)
  go (Some f) w e rest = let h = place_may t v p f w in (0, f, h.0, h.1)
  go None w e rest = let h = rest e in (suc h.0, h.1, h.2, h.3)

place_none : (t v : Bool) (ps : List Place) → any_place t v ps ≡ false → (n : ℕ) (f : Offer) → op_of_place t v f (slice_get ps n) ≡ None
place_none t v [] e n f = refl
place_none t v (p ∷ ps) e n f = go n (offer_of t v p) refl e (λ k h. place_none t v ps h k f) where
  go : (n : ℕ) (x : Option Offer) → offer_of t v p ≡ x → (is_some x || any_place t v ps) ≡ false → ((k : ℕ) → any_place t v ps ≡ false → op_of_place t v f (slice_get ps k) ≡ None) → op_of_place t v f (slice_get (p ∷ ps) n) ≡ None
  go n (Some g) w e rest = cc
  go zero None w e rest = place_idle t v p w f
  go (suc k) None w e rest = rest k e

-- devices
device_one : (t : Bool) (ds : List Device) → any_device t ds ≡ true → (n : ℕ) × (o : Op) × (op_of_device t (slice_get ds n) ≡ Some o)
device_one t [] e = cc
device_one t (d ∷ ds) e = go (op_of_device t (Some d)) refl e (device_one t ds) where
  go : (x : Option Op) → op_of_device t (Some d) ≡ x → (is_some x || any_device t ds) ≡ true → (any_device t ds ≡ true → (n : ℕ) × (o : Op) × (op_of_device t (slice_get ds n) ≡ Some o)) → (n : ℕ) × (o : Op) × (op_of_device t (slice_get (d ∷ ds) n) ≡ Some o)
  go (Some o) w e rest = (0, o, w)
  go None w e rest = let h = rest e in (suc h.0, h.1, h.2)

device_none : (t : Bool) (ds : List Device) → any_device t ds ≡ false → (n : ℕ) → op_of_device t (slice_get ds n) ≡ None
device_none t [] e n = refl
device_none t (d ∷ ds) e n = go n (op_of_device t (Some d)) refl e (λ k h. device_none t ds h k) where
  go : (n : ℕ) (x : Option Op) → op_of_device t (Some d) ≡ x → (is_some x || any_device t ds) ≡ false → ((k : ℕ) → any_device t ds ≡ false → op_of_device t (slice_get ds k) ≡ None) → op_of_device t (slice_get (d ∷ ds) n) ≡ None
  go n (Some o) w e rest = cc
  go zero None w e rest = w
  go (suc k) None w e rest = rest k e

-- processors
cpu_one : (all ps : List Processor) → any_processor all ps ≡ true → (id : ℕ) × (o : Op) × (op_of_processor (processor_of id all) ≡ Some o)
cpu_one all [] e = cc
cpu_one all (p ∷ ps) e = go (op_of_processor (processor_of p.id all)) refl e (cpu_one all ps) where
  go : (x : Option Op) → op_of_processor (processor_of p.id all) ≡ x → (is_some x || any_processor all ps) ≡ true → (any_processor all ps ≡ true → (id : ℕ) × (o : Op) × (op_of_processor (processor_of id all) ≡ Some o)) → (id : ℕ) × (o : Op) × (op_of_processor (processor_of id all) ≡ Some o)
  go (Some o) w e rest = (p.id, o, w)
  go None w e rest = rest e

cpu_none : (all ps : List Processor) → any_processor all ps ≡ false → (id : ℕ) (q : Processor) → processor_of id ps ≡ Some q → op_of_processor (processor_of id all) ≡ None
cpu_none all [] e id q f = cc
cpu_none all (p ∷ ps) e id q f = go (op_of_processor (processor_of p.id all)) refl e (p.id == id) refl f (λ h g. cpu_none all ps h id q g) where
  go : (x : Option Op) → op_of_processor (processor_of p.id all) ≡ x → (is_some x || any_processor all ps) ≡ false → (b : Bool) → (p.id == id) ≡ b → cond b (Some p) (processor_of id ps) ≡ Some q → (any_processor all ps ≡ false → processor_of id ps ≡ Some q → op_of_processor (processor_of id all) ≡ None) → op_of_processor (processor_of id all) ≡ None
  go (Some o) w e b c f rest = cc
  go None w e true c f rest = subst (λ (i : ℕ). op_of_processor (processor_of i all) ≡ None) (eqb-true p.id id c) w
  go None w e false c f rest = rest e f

cpu_idle : (ps : List Processor) → any_processor ps ps ≡ false → (id : ℕ) → op_of_processor (processor_of id ps) ≡ None
cpu_idle ps e id = go (processor_of id ps) refl where
  go : (x : Option Processor) → processor_of id ps ≡ x → op_of_processor (processor_of id ps) ≡ None
  go None w = rw w refl
  go (Some q) w = cpu_none ps ps e id q w

or_parts : (a b c : Bool) → (a || (b || c)) ≡ false → (a ≡ false) × (b ≡ false) × (c ≡ false)
or_parts true b c e = cc
or_parts false true c e = cc
or_parts false false true e = cc
or_parts false false false e = (refl, refl, refl)

pub quiet_is : (s : BoardState) → any_step s ≡ false → IsQuiescent s
quiet_is s e =
    let h = or_parts (any_processor s.processors s.processors) (any_place (boot_is_through s) (all_ended s) s.places) (any_device (boot_is_through s) s.devices) e in
    λ g f. go g f h.0 h.1 h.2 where
      go : (g : Agent) (f : Offer) → any_processor s.processors s.processors ≡ false → any_place (boot_is_through s) (all_ended s) s.places ≡ false → any_device (boot_is_through s) s.devices ≡ false → next_op s g f ≡ None
      go (Cpu id) offer.Next a b c = cpu_idle s.processors a id
      go (Cpu id) (offer.Collect m) a b c = refl
      go (Cpu id) offer.Sweep a b c = refl
      go (Dev d) offer.Next a b c = device_none (boot_is_through s) s.devices c d
      go (Dev d) (offer.Collect m) a b c = refl
      go (Dev d) offer.Sweep a b c = refl
      go (Io n) f a b c = place_none (boot_is_through s) (all_ended s) s.places b n f

pub step_is : (s : BoardState) → any_step s ≡ true → (g : Agent) × MayAny s g
step_is s e = go (any_processor s.processors s.processors) refl (any_place (boot_is_through s) (all_ended s) s.places) refl e where
  go : (a : Bool) → any_processor s.processors s.processors ≡ a → (b : Bool) → any_place (boot_is_through s) (all_ended s) s.places ≡ b → (a || (b || any_device (boot_is_through s) s.devices)) ≡ true → (g : Agent) × MayAny s g
  go true a b x e = let h = cpu_one s.processors s.processors a in (Cpu h.0, (offer.Next, (h.1, h.2)))
  go false a true x e = let h = place_one (boot_is_through s) (all_ended s) 0 s.places x in (Io h.0, (h.1, (h.2, h.3)))
  go false a false x e = let h = device_one (boot_is_through s) s.devices e in (Dev h.0, (offer.Next, (h.1, h.2)))

pub quiet_law : (s : BoardState) (b : Bool) → b ≡ not (any_step s) → MatchBool b (IsQuiescent s) ((g : Agent) × MayAny s g)
quiet_law s b e = go b (any_step s) refl e where
  go : (b a : Bool) → any_step s ≡ a → b ≡ not a → MatchBool b (IsQuiescent s) ((g : Agent) × MayAny s g)
  go true true w e = cc
  go true false w e = quiet_is s w
  go false true w e = step_is s w
  go false false w e = cc

-- whether one agent may
any_is : (s : BoardState) (g : Agent) → MatchBool (any_of s g) (MayAny s g) (IsIdle s g)
any_is s (Cpu id) = go (op_of_processor (processor_of id s.processors)) refl where
  go : (r : Option Op) → op_of_processor (processor_of id s.processors) ≡ r → MatchBool (is_some r) (MayAny s (Cpu id)) (IsIdle s (Cpu id))
  go (Some o) w = (offer.Next, (o, w))
  go None w = λ f. idle f where
    idle : (f : Offer) → next_op s (Cpu id) f ≡ None
    idle offer.Next = w
    idle (offer.Collect m) = refl
    idle offer.Sweep = refl
any_is s (Dev d) = go (op_of_device (boot_is_through s) (slice_get s.devices d)) refl where
  go : (r : Option Op) → op_of_device (boot_is_through s) (slice_get s.devices d) ≡ r → MatchBool (is_some r) (MayAny s (Dev d)) (IsIdle s (Dev d))
  go (Some o) w = (offer.Next, (o, w))
  go None w = λ f. idle f where
    idle : (f : Offer) → next_op s (Dev d) f ≡ None
    idle offer.Next = w
    idle (offer.Collect m) = refl
    idle offer.Sweep = refl
any_is s (Io a) = go (slice_get s.places a) refl where
  go : (r : Option Place) → slice_get s.places a ≡ r → MatchBool (is_some (offer_at (boot_is_through s) (all_ended s) r)) (MayAny s (Io a)) (IsIdle s (Io a))
  go None w = λ f. rw w refl
  go (Some p) w = one (offer_of (boot_is_through s) (all_ended s) p) refl where
    one : (x : Option Offer) → offer_of (boot_is_through s) (all_ended s) p ≡ x → MatchBool (is_some x) (MayAny s (Io a)) (IsIdle s (Io a))
    one (Some f) v = let h = place_may (boot_is_through s) (all_ended s) p f v in (f, (h.0, rw w h.1))
    one None v = λ f. rw w (place_idle (boot_is_through s) (all_ended s) p v f)

pub any_law : (s : BoardState) (g : Agent) (b : Bool) → b ≡ any_of s g → MatchBool b (MayAny s g) (IsIdle s g)
any_law s g b e = rw e (any_is s g)
