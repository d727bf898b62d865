-- Which agents are I/O APICs and devices, and the seats of the latch that go with them.
use Rattle.std.proofs.Common.{◌≡◌, ℕ, suc, ◌+◌, ◌<◌, ◌≤◌, List, [], ◌∷◌, ◌++◌, length, map, filter_map, get_or, refl, ap, ap₂, ◌∙◌, arith, Option, None, Some}
use Rattle.std.specs.List.{range_with_len, cons_option}
use Rattle.std.proofs.lemmas.List.{length-append, length-map}
use Rattle.std.proofs.lemmas.List.Elements.{filter_map-append}
use Rattle.mpb_spec.specs.declared.agent.Agent.{Agent}
use Rattle.mpb_spec.specs.declared.agent.Agent.TheVariants.{Cpu, Io, Dev}
use Rattle.mpb_spec.specs.Plan.{Plan, CpuPlan}
use Rattle.mpb_spec.specs.Agents.{agents_of}
use Rattle.mpb_crew.specs.Workers.{io_place, device_number}

no-cpus : {Y : Type 0} (f : Agent → Option Y) → ((id : ℕ) → f (Cpu id) ≡ None) → (cs : List CpuPlan) → filter_map f (map (λ p. Cpu p.id) cs) ≡ []
no-cpus f none [] = refl
no-cpus f none (p ∷ cs) = ap (λ o. cons_option o (filter_map f (map (λ (q : CpuPlan). Cpu q.id) cs))) (none p.id) ∙ no-cpus f none cs

all-of : (f : Agent → Option ℕ) (g : ℕ → Agent) → ((n : ℕ) → f (g n) ≡ Some n) → (xs : List ℕ) → filter_map f (map g xs) ≡ xs
all-of f g some [] = refl
all-of f g some (x ∷ xs) = ap (λ o. cons_option o (filter_map f (map g xs))) (some x) ∙ ap (λ ys. x ∷ ys) (all-of f g some xs)

none-of : (f : Agent → Option ℕ) (g : ℕ → Agent) → ((n : ℕ) → f (g n) ≡ None) → (xs : List ℕ) → filter_map f (map g xs) ≡ []
none-of f g none [] = refl
none-of f g none (x ∷ xs) = ap (λ o. cons_option o (filter_map f (map g xs))) (none x) ∙ none-of f g none xs

append-nil : {X : Type 0} (xs : List X) → xs ++ [] ≡ xs
append-nil [] = refl
append-nil (x ∷ xs) = ap (λ ys. x ∷ ys) (append-nil xs)

abbrev cpus : Plan → List Agent
cpus c = map (λ p. Cpu p.id) c.cpus

abbrev ios : Plan → List Agent
ios c = map Io (range_with_len 0 (length c.ios))

abbrev devs : Plan → List Agent
devs c = map Dev (range_with_len 0 (length c.devices))

-- the places of the I/O APICs, and the numbers of the devices
pub io_places : (c : Plan) → filter_map io_place (agents_of c) ≡ range_with_len 0 (length c.ios)
io_places c =
    filter_map-append io_place (cpus c) (ios c ++ devs c)
    ∙ (ap (λ xs. xs ++ filter_map io_place (ios c ++ devs c)) (no-cpus io_place (λ id. refl) c.cpus)
    ∙ (filter_map-append io_place (ios c) (devs c)
    ∙ (ap₂ (λ xs ys. xs ++ ys) (all-of io_place Io (λ n. refl) (range_with_len 0 (length c.ios))) (none-of io_place Dev (λ n. refl) (range_with_len 0 (length c.devices)))
    ∙ append-nil (range_with_len 0 (length c.ios)))))

pub device_numbers : (c : Plan) → filter_map device_number (agents_of c) ≡ range_with_len 0 (length c.devices)
device_numbers c =
    filter_map-append device_number (cpus c) (ios c ++ devs c)
    ∙ (ap (λ xs. xs ++ filter_map device_number (ios c ++ devs c)) (no-cpus device_number (λ id. refl) c.cpus)
    ∙ (filter_map-append device_number (ios c) (devs c)
    ∙ ap₂ (λ xs ys. xs ++ ys) (none-of device_number Io (λ n. refl) (range_with_len 0 (length c.ios))) (all-of device_number Dev (λ n. refl) (range_with_len 0 (length c.devices)))))

-- the members of a list by their numbers
numbered : {X Y : Type 0} (f : X → Y) (d : X) (k : ℕ) (before : ℕ → X) (xs : List X) → ((i : ℕ) → i < length xs → before (k + i) ≡ get_or xs i d) → map (λ i. f (before i)) (range_with_len k (length xs)) ≡ map f xs
numbered f d k before [] each = refl
numbered {X} {Y} f d k before (x ∷ xs) each =
    ap₂ (λ (y : Y) (ys : List Y). y ∷ ys) (ap f (ap before (omega arith) ∙ each 0 (omega arith)))
    (numbered f d (k + 1) before xs (λ i lt. ap before (omega arith) ∙ each (suc i) (omega (arith, lt))))

pub by_number : {X Y : Type 0} (f : X → Y) (d : X) (xs : List X) → map (λ i. f (get_or xs i d)) (range_with_len 0 (length xs)) ≡ map f xs
by_number f d xs = numbered f d 0 (λ i. get_or xs i d) xs (λ i lt. ap (λ j. get_or xs j d) (omega arith))

-- a board has an agent
pub some_agent : (c : Plan) → 1 ≤ length c.cpus → [] ≡ agents_of c → ⊥
some_agent c some none =
    let long = ap (λ (gs : List Agent). length gs) none in
    absurd (omega (arith, some, long, length-append (cpus c) (ios c ++ devs c), length-map c.cpus (λ (p : CpuPlan). Cpu p.id)))
