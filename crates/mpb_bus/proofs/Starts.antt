-- The beginning: each agent of a board is there once, and none has taken the turn.
use Rattle.std.proofs.Common.{◌≡◌, ℕ, zero, suc, ◌+◌, ◌*◌, ◌<◌, ◌≤◌, Bool, true, false, eqb, eq-eqb, List, [], ◌∷◌, ◌++◌, length, get_or, map, sum_by, All, Some, refl, sym, ap, ◌∙◌, subst, arith, inl}
use mathlib.Core.Option.{some, some-injective, some-ne-none}
use lib.ListN.{get_elem?}
use Rattle.std.specs.List.{AllByRecursion, range_with_len}
use Rattle.std.proofs.lemmas.Bool.Decides.{nat_tests}
use Rattle.std.proofs.lemmas.List.{length-map, length-append}
use Rattle.std.proofs.lemmas.List.Elements.{All-map, All-nil}
use Rattle.std.proofs.lemmas.List.Sums.{sum_by-cons, sum_by-append}
use Rattle.atomic_table.specs.Table.{opening}
use Rattle.mpb_spec.specs.declared.agent.Agent.{Agent}
use Rattle.mpb_spec.specs.declared.agent.Agent.TheVariants.{Cpu, Io, Dev}
use Rattle.mpb_spec.specs.declared.entry.Entry.{Entry}
use Rattle.mpb_spec.specs.Numbers.{IsAscending}
use Rattle.mpb_spec.specs.Plan.{Plan, CpuPlan}
use Rattle.mpb_spec.specs.Configs.{IsConfig}
use Rattle.mpb_board.specs.BoardView.{BoardView}
use Rattle.mpb_bus.specs.declared.view.AgentView.{AgentView}
use Rattle.mpb_bus.specs.declared.view.SeatView.{SeatView}
use Rattle.mpb_spec.specs.Agents.{agents_of, is_agent, IsPrefix}
use Rattle.mpb_bus.specs.Seats.{SharedBus, AgentSeat, AreSeatsOf, fresh_seat}
use Rattle.mpb_bus.specs.Rule.{opening_view, fresh_agent, times, AgentFits, ViewFits, IsKept, over_agents}
use Rattle.mpb_spec.specs.Lists.{one_if}
use Rattle.mpb_spec.proofs.Lists.{count_all, map_map, sum_map}
use Rattle.mpb_bus.proofs.Journals.{prefix_refl}

-- a sum of zeros
sum_zero : {A : Type 0} (f : A → ℕ) (xs : List A) → ((x : A) → f x ≡ 0) → sum_by f xs ≡ 0
sum_zero f [] z = refl
sum_zero f (x ∷ xs) z = (let h = sum_zero f xs z in let e = z x in omega (arith, sum_by-cons f x xs))

abbrev counts : ℕ → List ℕ → ℕ
counts a xs = sum_by (λ x. one_if (eqb x a)) xs

off : (x a : ℕ) → a < x → one_if (eqb x a) ≡ 0
off x a l = by_test (eqb x a) refl
  where
    by_test : (b : Bool) → eqb x a ≡ b → one_if b ≡ 0
    by_test true e = absurd (let same : x ≡ a = grind (arith, nat_tests) in omega arith)
    by_test false e = refl

above_none : (a : ℕ) (xs : List ℕ) → AllByRecursion (λ y. a < y) xs → counts a xs ≡ 0
above_none a [] h = refl
above_none a (x ∷ xs) h = (let r = above_none a xs h.1 in let o = off x a h.0 in omega (arith, sum_by-cons (λ y. one_if (eqb y a)) x xs))

-- an ascending list has a number once
ascending_once : (xs : List ℕ) → IsAscending xs → (a : ℕ) → counts a xs ≤ 1
ascending_once [] h a = omega arith
ascending_once (x ∷ xs) h a = by_test (eqb x a) refl (ascending_once xs h.1 a)
  where
    by_test : (b : Bool) → eqb x a ≡ b → counts a xs ≤ 1 → counts a (x ∷ xs) ≤ 1
    by_test true e r =
        let same : x ≡ a = grind (arith, nat_tests) in
        let z = above_none a xs (subst (λ k. AllByRecursion (λ y. k < y) xs) same h.0) in
        let one = ap one_if e in
        omega (arith, sum_by-cons (λ y. one_if (eqb y a)) x xs)
    by_test false e r = (let one = ap one_if e in omega (arith, sum_by-cons (λ y. one_if (eqb y a)) x xs))

range_above : (x a n : ℕ) → x < a → AllByRecursion (λ y. x < y) (range_with_len a n)
range_above x a zero l = tt
range_above x a (suc n) l = (l, range_above x (a + 1) n (omega arith))

range_ascends : (a n : ℕ) → IsAscending (range_with_len a n)
range_ascends a zero = tt
range_ascends a (suc n) = (range_above a (a + 1) n (omega arith), range_ascends (a + 1) n)

-- how often an agent is among numbered ones
times_mapped : {A : Type 0} (g : Agent) (make : A → Agent) (xs : List A) → times g (map make xs) ≡ sum_by (λ x. one_if (is_agent (make x) g)) xs
times_mapped g make xs = sum_map (λ h. one_if (is_agent h g)) make xs

module _ (c : Plan) where
  three : (g : Agent) → times g (agents_of c) ≡ times g (map (λ (p : CpuPlan). Cpu p.id) c.cpus) + (times g (map Io (range_with_len 0 (length c.ios))) + times g (map Dev (range_with_len 0 (length c.devices))))
  three g =
      let f : Agent → ℕ = λ h. one_if (is_agent h g) in
      sum_by-append f (map (λ (p : CpuPlan). Cpu p.id) c.cpus) (map Io (range_with_len 0 (length c.ios)) ++ map Dev (range_with_len 0 (length c.devices)))
      ∙ ap (λ k. times g (map (λ (p : CpuPlan). Cpu p.id) c.cpus) + k) (sum_by-append f (map Io (range_with_len 0 (length c.ios))) (map Dev (range_with_len 0 (length c.devices))))

  -- each agent is there once
  pub agents_once : IsAscending (map (λ p. p.id) c.cpus) → (g : Agent) → times g (agents_of c) ≤ 1
  agents_once up (Cpu a) =
      let t = three (Cpu a) in
      let x = times_mapped (Cpu a) (λ (p : CpuPlan). Cpu p.id) c.cpus in
      let x' = sum_map (λ k. one_if (eqb k a)) (λ (p : CpuPlan). p.id) c.cpus in
      let y = times_mapped (Cpu a) Io (range_with_len 0 (length c.ios)) ∙ sum_zero (λ k. one_if (is_agent (Io k) (Cpu a))) (range_with_len 0 (length c.ios)) (λ _. refl) in
      let z = times_mapped (Cpu a) Dev (range_with_len 0 (length c.devices)) ∙ sum_zero (λ k. one_if (is_agent (Dev k) (Cpu a))) (range_with_len 0 (length c.devices)) (λ _. refl) in
      let o = ascending_once (map (λ (p : CpuPlan). p.id) c.cpus) up a in
      omega arith
  agents_once up (Io a) =
      let t = three (Io a) in
      let x = times_mapped (Io a) (λ (p : CpuPlan). Cpu p.id) c.cpus ∙ sum_zero (λ (p : CpuPlan). one_if (is_agent (Cpu p.id) (Io a))) c.cpus (λ _. refl) in
      let y = times_mapped (Io a) Io (range_with_len 0 (length c.ios)) in
      let z = times_mapped (Io a) Dev (range_with_len 0 (length c.devices)) ∙ sum_zero (λ k. one_if (is_agent (Dev k) (Io a))) (range_with_len 0 (length c.devices)) (λ _. refl) in
      let o = ascending_once (range_with_len 0 (length c.ios)) (range_ascends 0 (length c.ios)) a in
      omega arith
  agents_once up (Dev a) =
      let t = three (Dev a) in
      let x = times_mapped (Dev a) (λ (p : CpuPlan). Cpu p.id) c.cpus ∙ sum_zero (λ (p : CpuPlan). one_if (is_agent (Cpu p.id) (Dev a))) c.cpus (λ _. refl) in
      let y = times_mapped (Dev a) Io (range_with_len 0 (length c.ios)) ∙ sum_zero (λ k. one_if (is_agent (Io k) (Dev a))) (range_with_len 0 (length c.ios)) (λ _. refl) in
      let z = times_mapped (Dev a) Dev (range_with_len 0 (length c.devices)) in
      let o = ascending_once (range_with_len 0 (length c.devices)) (range_ascends 0 (length c.devices)) a in
      omega arith

  some_agent : 1 ≤ length c.cpus → 0 < length (agents_of c)
  some_agent h =
      let n = length-append (map (λ (p : CpuPlan). Cpu p.id) c.cpus) (map Io (range_with_len 0 (length c.ios)) ++ map Dev (range_with_len 0 (length c.devices))) in
      let m = length-map c.cpus (λ (p : CpuPlan). Cpu p.id) in
      omega arith

  -- the rule holds at the beginning
  pub opens : (b : BoardView) → b.plan ≡ c → IsConfig c → IsKept c (opening ((2 * length b.journal) ∷ []) (Some b ∷ []) (opening_view c b.journal))
  opens b plan is = record {
    journal = journal;
    wide = refl;
    slots = refl;
    phase = inl record { word = refl; board = b; home = refl; plan_is = plan; journal_is = refl; free = λ j u h. one_view j u h (λ (x : SeatView). x.holds ≡ false) refl };
    agents = λ f. (let s = sum_map (λ (a : AgentView). f a.agent) fresh (agents_of c) in omega arith);
    once = agents_once is.ascending;
    fits = λ j u h. one_view j u h (ViewFits c journal) (All-map (AgentFits c journal) fresh (agents_of c) (λ k d l. fresh_fits (get_or (agents_of c) k d)), All-nil (λ xs. IsPrefix xs journal));
    latest = latest;
  }
    where
      journal : List Entry
      journal = b.journal

      fresh : Agent → AgentView
      fresh = fresh_agent c b.journal

      one_view : (j : ℕ) (u : SeatView) → get_elem? (opening_view c b.journal ∷ []) j ≡ some u → (P : SeatView → Type 0) → P (opening_view c b.journal) → P u
      one_view zero u h P p = subst P (some-injective (opening_view c b.journal) u h) p
      one_view (suc j) u h P p = absurd (some-ne-none u (sym h))

      fresh_fits : (g : Agent) → AgentFits c b.journal (fresh_agent c b.journal g)
      fresh_fits g = record { config = refl; seen = prefix_refl b.journal; mine = refl; olds = All-nil (λ xs. IsPrefix xs b.journal) }

      latest : 0 < over_agents (λ a. one_if (eqb (length a.seen) (length b.journal))) (opening_view c b.journal ∷ [])
      latest =
          let s = sum_map (λ (a : AgentView). one_if (eqb (length a.seen) (length b.journal))) (fresh_agent c b.journal) (agents_of c) in
          let one = ap one_if (eq-eqb (length b.journal) (length b.journal) refl) in
          let ones = ap (λ k. sum_by (λ (_ : Agent). k) (agents_of c)) one ∙ count_all (agents_of c) in
          let some = some_agent is.some in
          omega arith

map_itself : {A : Type 0} (f : A → A) (xs : List A) → ((x : A) → f x ≡ x) → map f xs ≡ xs
map_itself f [] same = refl
map_itself f (x ∷ xs) same = ap (λ y. y ∷ map f xs) (same x) ∙ ap (λ l. x ∷ l) (map_itself f xs same)

-- the seats of the agents are all seats
pub fresh_are_all : (bus : SharedBus) (journal : List Entry) (agents : List Agent) (seats : List AgentSeat) → seats ≡ map (fresh_seat bus.bus bus.plan journal) agents → agents ≡ agents_of bus.plan → AreSeatsOf bus seats
fresh_are_all bus journal agents seats fresh all =
    let seat = fresh_seat bus.bus bus.plan journal in (
      ap (λ l. map (λ (s : AgentSeat). s.agent) l) fresh ∙ map_map (λ (s : AgentSeat). s.agent) seat agents ∙ map_itself (λ g. (seat g).agent) agents (λ _. refl) ∙ all,
      subst (All (λ s. s.bus ≡ bus.bus)) (sym fresh) (All-map (λ (s : AgentSeat). s.bus ≡ bus.bus) seat agents (λ k d l. refl)),
    )
