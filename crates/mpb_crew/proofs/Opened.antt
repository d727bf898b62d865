-- The beginning of a threaded run: what the latch is opened for, and the seats that go with the agents.
use Rattle.std.proofs.Common.{◌≡◌, ◌+◌, ◌-◌, ◌<◌, ◌≤◌, ◌^◌, ℕ, zero, suc, true, false, List, [], ◌∷◌, ◌++◌, length, take, drop, append_assoc, map, filter_map, get_or, All, sum_by, refl, sym, ap, ap₂, ◌∙◌, subst, arith, Option, None, Some, Result, Ok, Err, OnOk}
use Rattle.std.specs.List.{AllByRecursion, range_with_len}
use Rattle.std.proofs.lemmas.List.{length-map, take_all, take_more}
use Rattle.std.proofs.lemmas.List.Elements.{All-nil, All-cons, filter_map-append}
use Rattle.std.proofs.lemmas.List.Sums.{sum_by-cons}
use Rattle.mpb_spec.specs.declared.agent.Agent.{Agent}
use Rattle.mpb_spec.specs.declared.config.DevWord.{DevWord}
use Rattle.mpb_spec.specs.declared.config.DevWord.TheVariants as word
use Rattle.mpb_spec.specs.Plan.{Plan, plan_size}
use Rattle.mpb_spec.specs.Configs.{IsConfig, IsWordOn}
use Rattle.mpb_spec.specs.declared.pulse.Pulse.{Pulse}
use Rattle.mpb_spec.specs.Pulses.{IsInRange, pulse_of, pulses_in}
use Rattle.mpb_latch.specs.Seats.{DeviceSeat, CollectorSeat, SharedLatch, fresh_device_seat, fresh_collector_seat}
use Rattle.mpb_spec.specs.Agents.{agents_of}
use Rattle.atomic_table.specs.Seated.{TableId}
use Rattle.mpb_bus.specs.Seats.{AgentSeat, SharedBus, fresh_seat}
use Rattle.mpb_crew.specs.declared.worker.Part.{Part}
use Rattle.mpb_crew.specs.Workers.{cols_for, devs_for, fresh_part, fresh_worker}
use Rattle.mpb_crew.proofs.Members.{io_places, device_numbers, by_number}

-- ---- plans

pulses-more : (words : List DevWord) (i : ℕ) (w : DevWord) → i < length words → w ≡ get_or words i w → pulses_in (take (i + 1) words) ≡ pulses_in (take i words) ++ pulses_in (w ∷ [])
pulses-more words i w lt is = ap pulses_in (take_more words i w lt ∙ ap (λ x. take i words ++ x ∷ []) (sym is)) ∙ filter_map-append pulse_of (take i words) (w ∷ [])

-- one word more
pub word_more : (words : List DevWord) (i : ℕ) (w : DevWord) (plan more : List Pulse) → i < length words → w ≡ get_or words i w → plan ≡ pulses_in (take i words) → more ≡ plan ++ pulses_in (w ∷ []) → more ≡ pulses_in (take (i + 1) words)
word_more words i w plan more lt is so now = now ∙ (ap (λ (l : List Pulse). l ++ pulses_in (w ∷ [])) so ∙ sym (pulses-more words i w lt is))

map-map : {X Y Z : Type 0} (f : Y → Z) (g : X → Y) (xs : List X) → map f (map g xs) ≡ map (λ x. f (g x)) xs
map-map f g [] = refl
map-map f g (x ∷ xs) = ap (λ ys. f (g x) ∷ ys) (map-map f g xs)

pub all_plans : (devices : List (Rattle.std.proofs.Common.Vec DevWord Rattle.std.proofs.Common.Global)) (i : ℕ) → length devices ≤ i → take i (map (λ ws. pulses_in ws.items) devices) ≡ map pulses_in (map (λ ws. ws.items) devices)
all_plans devices i le = take_all i (map (λ ws. pulses_in ws.items) devices) (omega (arith, le, length-map devices (λ ws. pulses_in ws.items))) ∙ sym (map-map pulses_in (λ ws. ws.items) devices)

-- ---- what the latch asks

in-range : (ios : ℕ) (words : List DevWord) → AllByRecursion (IsWordOn ios) words → All (IsInRange ios) (pulses_in words)
in-range ios [] on = All-nil (IsInRange ios)
in-range ios (word.Pulse a pin ∷ words) on = All-cons (IsInRange ios) (record { io = a; pin = pin }) (pulses_in words) on.0 (in-range ios words on.1)
in-range ios (word.High a pin ∷ words) on = in-range ios words on.1
in-range ios (word.Low a pin ∷ words) on = in-range ios words on.1

all-in-range : (ios : ℕ) (devices : List (List DevWord)) → AllByRecursion (AllByRecursion (IsWordOn ios)) devices → All (λ plan. All (IsInRange ios) plan) (map pulses_in devices)
all-in-range ios [] on = All-nil (λ plan. All (IsInRange ios) plan)
all-in-range ios (ws ∷ ds) on = All-cons (λ plan. All (IsInRange ios) plan) (pulses_in ws) (map pulses_in ds) (in-range ios ws on.0) (all-in-range ios ds on.1)

pulses-few : (words : List DevWord) → length (pulses_in words) ≤ length words
pulses-few [] = omega arith
pulses-few (word.Pulse a pin ∷ words) = omega (arith, pulses-few words)
pulses-few (word.High a pin ∷ words) = omega (arith, pulses-few words)
pulses-few (word.Low a pin ∷ words) = omega (arith, pulses-few words)

plans-few : (devices : List (List DevWord)) → sum_by (λ plan. length plan) (map pulses_in devices) ≤ sum_by (λ words. length words + 2) devices
plans-few [] = omega arith
plans-few (ws ∷ ds) =
    rw (sum_by-cons (λ (plan : List Pulse). length plan) (pulses_in ws) (map pulses_in ds), sum_by-cons (λ (words : List DevWord). length words + 2) ws ds) (omega (arith, pulses-few ws, plans-few ds))

items-in-range : (ios : ℕ) (plans : List (Rattle.std.proofs.Common.Vec Pulse Rattle.std.proofs.Common.Global)) → All (λ plan. All (IsInRange ios) plan) (map (λ p. p.items) plans) → All (λ plan. All (IsInRange ios) plan.items) plans
items-in-range ios plans all k d lt = subst (λ (l : List Pulse). All (IsInRange ios) l) (Rattle.std.proofs.lemmas.List.get_or-map (λ p. p.items) plans k d d.items lt) (all k d.items (omega (arith, lt, length-map plans (λ p. p.items))))

items-few : (plans : List (Rattle.std.proofs.Common.Vec Pulse Rattle.std.proofs.Common.Global)) → sum_by (λ plan. length plan.items) plans ≡ sum_by (λ plan. length plan) (map (λ p. p.items) plans)
items-few [] = refl
items-few (p ∷ ps) =
    rw (sum_by-cons (λ (plan : Rattle.std.proofs.Common.Vec Pulse Rattle.std.proofs.Common.Global). length plan.items) p ps, sum_by-cons (λ (plan : List Pulse). length plan) p.items (map (λ q. q.items) ps)) (omega (arith, items-few ps))

pub plans_in_range : (c : Plan) (plans : List (Rattle.std.proofs.Common.Vec Pulse Rattle.std.proofs.Common.Global)) → IsConfig c → map (λ p. p.items) plans ≡ map pulses_in c.devices → All (λ plan. All (IsInRange (length c.ios)) plan.items) plans
plans_in_range c plans config are = items-in-range (length c.ios) plans (subst (λ (ls : List (List Pulse)). All (λ plan. All (IsInRange (length c.ios)) plan) ls) (sym are) (all-in-range (length c.ios) c.devices config.words))

pub plans_are_few : (c : Plan) (plans : List (Rattle.std.proofs.Common.Vec Pulse Rattle.std.proofs.Common.Global)) → plan_size c < 2 ^ 32 → map (λ p. p.items) plans ≡ map pulses_in c.devices → sum_by (λ plan. length plan.items) plans < 2 ^ 32
plans_are_few c plans small are = omega (arith, small, items-few plans, ap (λ (ls : List (List Pulse)). sum_by (λ (plan : List Pulse). length plan) ls) are, plans-few c.devices)

-- ---- the seats of the latch

pub cols_open : (latch : SharedLatch) (bus : SharedBus) (agents : List Agent) (cols : List CollectorSeat) → agents ≡ agents_of bus.plan → latch.plans ≡ map pulses_in bus.plan.devices
    → cols ≡ map (fresh_collector_seat latch.latch latch.plans) (range_with_len 0 (length bus.plan.ios)) → cols ≡ cols_for latch.latch bus.plan agents
cols_open latch bus agents cols are plans so =
    so ∙ (ap (λ (ps : List (List Pulse)). map (fresh_collector_seat latch.latch ps) (range_with_len 0 (length bus.plan.ios))) plans
    ∙ sym (ap (λ gs. cols_for latch.latch bus.plan gs) are ∙ ap (λ ns. map (fresh_collector_seat latch.latch (map pulses_in bus.plan.devices)) ns) (io_places bus.plan)))

pub devs_open : (latch : SharedLatch) (bus : SharedBus) (agents : List Agent) (devs : List DeviceSeat) → agents ≡ agents_of bus.plan → latch.plans ≡ map pulses_in bus.plan.devices
    → devs ≡ map (fresh_device_seat latch.latch) latch.plans → devs ≡ devs_for latch.latch bus.plan agents
devs_open latch bus agents devs are plans so =
    so ∙ (ap (λ (ps : List (List Pulse)). map (fresh_device_seat latch.latch) ps) plans
    ∙ (map-map (fresh_device_seat latch.latch) pulses_in bus.plan.devices
    ∙ sym (ap (λ gs. devs_for latch.latch bus.plan gs) are
    ∙ (ap (λ ns. map (λ d. fresh_device_seat latch.latch (pulses_in (get_or bus.plan.devices d []))) ns) (device_numbers bus.plan)
    ∙ by_number (λ ws. fresh_device_seat latch.latch (pulses_in ws)) [] bus.plan.devices))))

-- ---- the first agent, and the rest

pub first_of_rest : {X : Type 0} (xs : List X) (d : X) → 1 ≤ length xs → xs ≡ get_or xs 0 d ∷ take (length xs - 1) (drop 1 xs)
first_of_rest [] d some = absurd (omega arith)
first_of_rest {X} (x ∷ xs) d some = ap (λ (ys : List X). x ∷ ys) (sym (take_all (suc (length xs) - 1) xs (omega arith)))

-- what is made of the first, and of the rest
pub first_made : {X Y : Type 0} (f : X → Y) (xs : List X) (d : X) (y : Y) (rest : List Y) → 1 ≤ length xs → y ∷ rest ≡ map f xs → y ≡ f (get_or xs 0 d)
first_made f [] d y rest some e = absurd (omega arith)
first_made f (x ∷ xs) d y rest some e = cc

pub rest_made : {X Y : Type 0} (f : X → Y) (xs : List X) (y : Y) (rest : List Y) → 1 ≤ length xs → y ∷ rest ≡ map f xs → rest ≡ map f (take (length xs - 1) (drop 1 xs))
rest_made f [] y rest some e = absurd (omega arith)
rest_made {X} {Y} f (x ∷ xs) y rest some e =
    let others : rest ≡ map f xs = cc in
    others ∙ ap (λ (zs : List X). map f zs) (sym (take_all (suc (length xs) - 1) xs (omega arith)))

-- the first is pushed, and then the rest
pub pushed_first : {X Y A E : Type 0} (f : X → Y) (xs : List X) (d : X) (y : Y) (old now new : List Y) (r : Result A E) → 1 ≤ length xs → y ≡ f (get_or xs 0 d) → now ≡ old ++ y ∷ []
    → OnOk r (new ≡ now ++ map f (take (length xs - 1) (drop 1 xs))) → OnOk r (new ≡ old ++ map f xs)
pushed_first f xs d y old now new (Err e) some is grows then = tt
pushed_first {X} {Y} f xs d y old now new (Ok a) some is grows then =
    let rest = map f (take (length xs - 1) (drop 1 xs)) in
    then
    ∙ ap (λ (l : List Y). l ++ rest) grows
    ∙ append_assoc old (y ∷ []) rest
    ∙ ap (λ (z : Y). old ++ z ∷ rest) is
    ∙ ap (λ (l : List X). old ++ map f l) (sym (first_of_rest xs d some))

-- a worker that is made of its parts
pub worker_made : (bus latch : TableId) (c : Plan) (g : Agent) (seat : AgentSeat) (part : Part) → seat ≡ fresh_seat bus c [] g → part ≡ fresh_part latch c g → record { agent = g; bus = seat; part = part } ≡ fresh_worker bus latch c g
worker_made bus latch c g seat part is beside = ap₂ (λ (s : AgentSeat) (p : Part). record { agent = g; bus = s; part = p }) is beside

-- ---- at the top

pub open_range : (c : Plan) (ios : ℕ) (plans shown : List (Rattle.std.proofs.Common.Vec Pulse Rattle.std.proofs.Common.Global)) → IsConfig c → ios ≡ length c.ios → shown ≡ plans → map (λ p. p.items) plans ≡ map pulses_in c.devices
    → (ios ≤ 4) × All (λ plan. All (IsInRange ios) plan.items) shown
open_range c ios plans shown config count same are = (
  (let few = config.few_ios in omega (arith, few, count)),
  subst (λ (n : ℕ). All (λ plan. All (IsInRange n) plan.items) shown) (sym count)
      (plans_in_range c shown config (ap (λ (l : List (Rattle.std.proofs.Common.Vec Pulse Rattle.std.proofs.Common.Global)). map (λ p. p.items) l) same ∙ are)),
)

pub open_few : (c : Plan) (plans shown : List (Rattle.std.proofs.Common.Vec Pulse Rattle.std.proofs.Common.Global)) → plan_size c < 2 ^ 32 → shown ≡ plans → map (λ p. p.items) plans ≡ map pulses_in c.devices → sum_by (λ plan. length plan.items) shown < 2 ^ 32
open_few c plans shown small same are = plans_are_few c shown small (ap (λ (l : List (Rattle.std.proofs.Common.Vec Pulse Rattle.std.proofs.Common.Global)). map (λ p. p.items) l) same ∙ are)

pub devs_made : (latch : SharedLatch) (plans : List (Rattle.std.proofs.Common.Vec Pulse Rattle.std.proofs.Common.Global)) (devs : List DeviceSeat) → devs ≡ map (λ p. fresh_device_seat latch.latch p.items) plans → latch.plans ≡ map (λ p. p.items) plans
    → devs ≡ map (fresh_device_seat latch.latch) latch.plans
devs_made latch plans devs so are =
    so ∙ (sym (map-map (fresh_device_seat latch.latch) (λ (p : Rattle.std.proofs.Common.Vec Pulse Rattle.std.proofs.Common.Global). p.items) plans) ∙ sym (ap (λ (l : List (List Pulse)). map (fresh_device_seat latch.latch) l) are))
