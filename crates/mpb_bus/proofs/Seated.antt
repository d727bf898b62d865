-- Every agent that may step has a seat.
use Rattle.std.proofs.Common.{◌≡◌, ℕ, suc, ◌+◌, ◌<◌, Bool, true, false, cond, eqb, List, [], ◌∷◌, ◌++◌, length, map, Option, None, Some, refl, ap, ◌∙◌, subst, arith}
use Rattle.std.specs.Prelude.{slice_get}
use Rattle.std.specs.List.{Contains, range_with_len}
use Rattle.std.proofs.lemmas.Bool.Decides.{nat_tests}
use Rattle.std.proofs.lemmas.List.{length-map, get_or-map}
use Rattle.std.proofs.lemmas.List.Elements.{Contains-append_left, Contains-append_right}
use Rattle.std.proofs.lemmas.List.FromFn.{length-range_with_len, get_or-range_with_len}
use Rattle.std.proofs.lemmas.Option.{slice_get_within}
use Rattle.mpb_spec.specs.declared.agent.Agent.{Agent}
use Rattle.mpb_spec.specs.declared.agent.Agent.TheVariants.{Cpu, Io, Dev}
use Rattle.mpb_spec.specs.declared.agent.Offer.{Offer}
use Rattle.mpb_spec.specs.declared.agent.Offer.TheVariants as offer
use Rattle.mpb_spec.specs.declared.agent.Op.{Op}
use Rattle.mpb_spec.specs.declared.entry.Entry.{Entry}
use Rattle.mpb_spec.specs.State.{Processor, Place, Device, processor_of, boot_is_through, all_ended}
use Rattle.mpb_spec.specs.Steps.{next_op, op_of_processor, op_of_place, op_of_device}
use Rattle.mpb_spec.specs.Plan.{Plan, CpuPlan}
use Rattle.mpb_spec.specs.Journal.{final_state_of}
use Rattle.mpb_spec.specs.May.{MayAny}
use Rattle.mpb_laws.proofs.PartsStay.{ids_stay, places_stay, devices_stay}
use Rattle.mpb_spec.specs.Agents.{agents_of}
use Rattle.mpb_spec.proofs.Lists.{map_map}

none-some : (o : Op) → None ≡ Some o → ⊥
none-some o e = cc

-- a processor that may step is there
found : (id : ℕ) (ps : List Processor) (o : Op) → op_of_processor (processor_of id ps) ≡ Some o → Contains (map (λ p. p.id) ps) id
found id [] o e = absurd (none-some o e)
found id (p ∷ ps) o e = by_test (eqb p.id id) refl e (λ t. found id ps o t)
  where
    by_test : (b : Bool) → eqb p.id id ≡ b → op_of_processor (cond b (Some p) (processor_of id ps)) ≡ Some o → (op_of_processor (processor_of id ps) ≡ Some o → Contains (map (λ (q : Processor). q.id) ps) id)
        → Contains (map (λ (q : Processor). q.id) (p ∷ ps)) id
    by_test true t e later = (let same : p.id ≡ id = grind (arith, nat_tests) in (0, omega arith, same))
    by_test false t e later = (let h = later e in (suc h.0, (let l = h.1 in omega arith), h.2))

place_within : (through over : Bool) (f : Offer) (o : Op) (places : List Place) (a : ℕ) → op_of_place through over f (slice_get places a) ≡ Some o → a < length places
place_within through over f o places a e = by_place (slice_get places a) refl e
  where
    by_place : (r : Option Place) → slice_get places a ≡ r → op_of_place through over f r ≡ Some o → a < length places
    by_place None is e = absurd (none-some o e)
    by_place (Some p) is e = slice_get_within places a p is

device_within : (through : Bool) (o : Op) (devices : List Device) (d : ℕ) → op_of_device through (slice_get devices d) ≡ Some o → d < length devices
device_within through o devices d e = by_device (slice_get devices d) refl e
  where
    by_device : (r : Option Device) → slice_get devices d ≡ r → op_of_device through r ≡ Some o → d < length devices
    by_device None is e = absurd (none-some o e)
    by_device (Some x) is e = slice_get_within devices d x is

contains_mapped : {A B : Type 0} (f : A → B) (xs : List A) (x : A) → Contains xs x → Contains (map f xs) (f x)
contains_mapped f xs x h = (h.0, (let n = length-map xs f in let l = h.1 in omega arith), get_or-map f xs h.0 x (f x) h.1 ∙ ap f h.2)

contains_number : (n a : ℕ) → a < n → Contains (range_with_len 0 n) a
contains_number n a l = (a, (let m = length-range_with_len 0 n in omega arith), (let same : 0 + a ≡ a = omega arith in get_or-range_with_len 0 n a a l ∙ same))

module _ (c : Plan) (journal : List Entry) where
  abbrev cpus : List Agent
  cpus = map (λ (p : CpuPlan). Cpu p.id) c.cpus

  abbrev ios : List Agent
  ios = map Io (range_with_len 0 (length c.ios))

  abbrev devs : List Agent
  devs = map Dev (range_with_len 0 (length c.devices))

  cpu_seated : (id : ℕ) (o : Op) → op_of_processor (processor_of id (final_state_of c journal).processors) ≡ Some o → Contains (agents_of c) (Cpu id)
  cpu_seated id o e =
      let there = subst (λ l. Contains l id) (ids_stay c journal) (found id (final_state_of c journal).processors o e) in
      Contains-append_left cpus (ios ++ devs) (Cpu id) (subst (λ l. Contains l (Cpu id)) (map_map Cpu (λ (p : CpuPlan). p.id) c.cpus) (contains_mapped Cpu (map (λ (p : CpuPlan). p.id) c.cpus) id there))

  io_seated : (a : ℕ) → a < length (final_state_of c journal).places → Contains (agents_of c) (Io a)
  io_seated a l =
      let within : a < length c.ios = (let s = places_stay c journal in omega arith) in
      Contains-append_right cpus (ios ++ devs) (Io a) (Contains-append_left ios devs (Io a) (contains_mapped Io (range_with_len 0 (length c.ios)) a (contains_number (length c.ios) a within)))

  dev_seated : (d : ℕ) → d < length (final_state_of c journal).devices → Contains (agents_of c) (Dev d)
  dev_seated d l =
      let within : d < length c.devices = (let s = devices_stay c journal in omega arith) in
      Contains-append_right cpus (ios ++ devs) (Dev d) (Contains-append_right ios devs (Dev d) (contains_mapped Dev (range_with_len 0 (length c.devices)) d (contains_number (length c.devices) d within)))

  seated_with : (g : Agent) (f : Offer) (o : Op) → next_op (final_state_of c journal) g f ≡ Some o → Contains (agents_of c) g
  seated_with (Cpu id) offer.Next o e = cpu_seated id o e
  seated_with (Cpu id) (offer.Collect pins) o e = absurd (none-some o e)
  seated_with (Cpu id) offer.Sweep o e = absurd (none-some o e)
  seated_with (Dev d) offer.Next o e = dev_seated d (device_within (boot_is_through (final_state_of c journal)) o (final_state_of c journal).devices d e)
  seated_with (Dev d) (offer.Collect pins) o e = absurd (none-some o e)
  seated_with (Dev d) offer.Sweep o e = absurd (none-some o e)
  seated_with (Io a) f o e = io_seated a (place_within (boot_is_through (final_state_of c journal)) (all_ended (final_state_of c journal)) f o (final_state_of c journal).places a e)

-- an agent that may step in a state of the board is one of its agents
pub seated : (c : Plan) (journal : List Entry) (g : Agent) → MayAny (final_state_of c journal) g → Contains (agents_of c) g
seated c journal g may = seated_with c journal g may.0 may.1.0 may.1.1
