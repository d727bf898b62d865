-- The end of a threaded run: what each worker has reached, said of the whole board.
use Rattle.std.proofs.Common.{◌≡◌, ℕ, ◌+◌, ◌<◌, true, false, List, [], ◌∷◌, ◌++◌, length, map, filter_map, get_or, All, Any, refl, sym, ap, ap₂, ◌∙◌, subst, arith, Option, None, Some}
use Rattle.std.specs.Prelude.{IsSome, IfSome}
use Rattle.std.specs.List.{range_with_len, cons_option}
use Rattle.std.specs.Option.{option_map, option_to_list}
use Rattle.std.proofs.lemmas.List.{length-map, get_or-map, map-append}
use Rattle.std.proofs.lemmas.List.Elements.{All-nil, All-cons, All-head, All-tail, All-map, filter_map-append}
use Rattle.std.proofs.lemmas.List.FromFn.{length-range_with_len, get_or-range_with_len}
use Rattle.atomic_table.specs.Seated.{TableId}
use Rattle.mpb_spec.specs.declared.agent.Agent.{Agent}
use Rattle.mpb_spec.specs.declared.agent.Agent.TheVariants.{Io}
use Rattle.mpb_spec.specs.declared.entry.Entry.{Entry}
use Rattle.mpb_spec.specs.Plan.{Plan}
use Rattle.mpb_spec.specs.Configs.{IsConfig}
use Rattle.mpb_spec.specs.May.{IsQuiescent}
use Rattle.mpb_spec.specs.Journal.{IsComplete}
use Rattle.mpb_spec.specs.declared.pulse.Pulse.{Pulse}
use Rattle.mpb_spec.specs.declared.pulse.Hit.{Hit}
use Rattle.mpb_spec.specs.declared.pulse.Hit.TheVariants.{New}
use Rattle.mpb_spec.specs.Pulses.{FollowsPlan, pulses_of, new_hits, first_hit, pulses_in}
use Rattle.mpb_latch.specs.Seats.{DeviceSeat, CollectorSeat, SharedLatch}
use Rattle.mpb_spec.specs.Agents.{agents_of, entries_of}
use Rattle.mpb_bus.specs.Seats.{AgentSeat, SharedBus, AreSeatsOf, state_seen}
use Rattle.mpb_robin.specs.Account.{AccountsForPulses, collected_count}
use Rattle.mpb_crew.specs.declared.worker.Part.{Part}
use Rattle.mpb_crew.specs.declared.worker.Part.TheVariants as part
use Rattle.mpb_crew.specs.declared.worker.Worker.{Worker}
use Rattle.mpb_crew.specs.Workers.{IsDone, HasEnded, io_place, device_number, col_in, dev_in, col_of, dev_of}
use Rattle.mpb_crew.proofs.Members.{io_places, device_numbers, by_number, some_agent}
use Rattle.mpb_crew.proofs.Sweeps.{own_collections}

-- ---- lists

weaker : {X : Type 0} (P Q : X → Type 0) (xs : List X) → ((x : X) → P x → Q x) → All P xs → All Q xs
weaker P Q xs f all k d lt = f (get_or xs k d) (all k d lt)

both : {X : Type 0} (P Q : X → Type 0) (xs : List X) → All P xs → All Q xs → All (λ x. P x × Q x) xs
both P Q xs p q k d lt = (p k d lt, q k d lt)

mapped : {X Y : Type 0} (P : Y → Type 0) (f : X → Y) (xs : List X) → All P (map f xs) → All (λ x. P (f x)) xs
mapped P f xs all k d lt = subst P (get_or-map f xs k d (f d) lt) (all k (f d) (omega (arith, lt, length-map xs f)))

same-map : {X Y : Type 0} (f g : X → Y) (xs : List X) → All (λ x. f x ≡ g x) xs → map f xs ≡ map g xs
same-map f g [] all = refl
same-map {X} {Y} f g (x ∷ xs) all = ap₂ (λ (y : Y) (ys : List Y). y ∷ ys) (All-head (λ z. f z ≡ g z) x xs all) (same-map f g xs (All-tail (λ z. f z ≡ g z) x xs all))

map-map : {X Y Z : Type 0} (f : Y → Z) (g : X → Y) (xs : List X) → map f (map g xs) ≡ map (λ x. f (g x)) xs
map-map f g [] = refl
map-map f g (x ∷ xs) = ap (λ ys. f (g x) ∷ ys) (map-map f g xs)

kept-one : {Y : Type 0} (P : Y → Type 0) (o : Option Y) (ys : List Y) → IfSome o P → All P ys → All P (cons_option o ys)
kept-one P None ys one rest = rest
kept-one P (Some y) ys one rest = All-cons P y ys one rest

-- what holds of what each member has holds of all that they have
kept : {X Y : Type 0} (P : Y → Type 0) (f : X → Option Y) (xs : List X) → All (λ x. IfSome (f x) P) xs → All P (filter_map f xs)
kept P f [] all = All-nil P
kept P f (x ∷ xs) all = kept-one P (f x) (filter_map f xs) (All-head (λ z. IfSome (f z) P) x xs all) (kept P f xs (All-tail (λ z. IfSome (f z) P) x xs all))

map-cons : {Y Z : Type 0} (g : Y → Z) (o : Option Y) (ys : List Y) → map g (cons_option o ys) ≡ cons_option (option_map g o) (map g ys)
map-cons g None ys = refl
map-cons g (Some y) ys = refl

-- what they have, seen through g, is what h says of their agents, seen through k
told : {Y Z : Type 0} (f : Worker → Option Y) (g : Y → Z) (h : Agent → Option ℕ) (k : ℕ → Z) (ws : List Worker) → All (λ w. option_map g (f w) ≡ option_map k (h w.agent)) ws
    → map g (filter_map f ws) ≡ map k (filter_map h (map (λ w. w.agent) ws))
told f g h k [] all = refl
told f g h k (w ∷ ws) all =
    map-cons g (f w) (filter_map f ws)
    ∙ (ap (λ o. cons_option o (map g (filter_map f ws))) (All-head (λ v. option_map g (f v) ≡ option_map k (h v.agent)) w ws all)
    ∙ (ap (λ ys. cons_option (option_map k (h w.agent)) ys) (told f g h k ws (All-tail (λ v. option_map g (f v) ≡ option_map k (h v.agent)) w ws all))
    ∙ sym (map-cons k (h w.agent) (filter_map h (map (λ (v : Worker). v.agent) ws)))))

map-same : (xs : List ℕ) → map (λ n. n) xs ≡ xs
map-same [] = refl
map-same (x ∷ xs) = ap (λ ys. x ∷ ys) (map-same xs)

-- ---- each worker

module _ (bus latch : TableId) (c : Plan) (ws : List Worker) (ended : All (HasEnded bus latch c) ws) (agents : map (λ w. w.agent) ws ≡ agents_of c) where
  -- ---- the bus

  its-agents : map (λ s. s.agent) (map (λ w. w.bus) ws) ≡ agents_of c
  its-agents =
      map-map (λ (s : AgentSeat). s.agent) (λ (w : Worker). w.bus) ws
      ∙ (same-map (λ (w : Worker). w.bus.agent) (λ (w : Worker). w.agent) ws (weaker (HasEnded bus latch c) (λ w. w.bus.agent ≡ w.agent) ws (λ w e. e.agent_is) ended) ∙ agents)

  pub are_seats : (b : SharedBus) → b.bus ≡ bus → b.plan ≡ c → AreSeatsOf b (map (λ w. w.bus) ws)
  are_seats b same plan = (
    its-agents ∙ ap agents_of (sym plan),
    All-map (λ (s : AgentSeat). s.bus ≡ b.bus) (λ (w : Worker). w.bus) ws (weaker (HasEnded bus latch c) (λ w. w.bus.bus ≡ b.bus) ws (λ w e. e.bus_is ∙ sym same) ended),
  )

  -- ---- the latch

  io-seat : (p : Part) (b : AgentSeat) (g : Agent) → b.agent ≡ g → IsDone latch c b p → option_map (λ (s : CollectorSeat). s.io) (col_in p) ≡ option_map (λ (n : ℕ). n) (io_place g)
  io-seat part.Cpu b g same done = ap (λ (h : Agent). option_map (λ (n : ℕ). n) (io_place h)) (sym done.1 ∙ same)
  io-seat (part.Io col) b g same done = ap (λ (h : Agent). option_map (λ (n : ℕ). n) (io_place h)) (sym done.1.agent ∙ same)
  io-seat (part.Dev d dev) b g same done = ap (λ (h : Agent). option_map (λ (n : ℕ). n) (io_place h)) (sym done.0 ∙ same)

  dev-seat : (p : Part) (b : AgentSeat) (g : Agent) → b.agent ≡ g → IsDone latch c b p → option_map (λ (s : DeviceSeat). s.plan) (dev_in p) ≡ option_map (λ (n : ℕ). pulses_in (get_or c.devices n [])) (device_number g)
  dev-seat part.Cpu b g same done = ap (λ (h : Agent). option_map (λ (n : ℕ). pulses_in (get_or c.devices n [])) (device_number h)) (sym done.1 ∙ same)
  dev-seat (part.Io col) b g same done = ap (λ (h : Agent). option_map (λ (n : ℕ). pulses_in (get_or c.devices n [])) (device_number h)) (sym done.1.agent ∙ same)
  dev-seat (part.Dev d dev) b g same done = ap (λ p. Some p) done.2 ∙ ap (λ (h : Agent). option_map (λ (n : ℕ). pulses_in (get_or c.devices n [])) (device_number h)) (sym done.0 ∙ same)

  pub io_order : map (λ s. s.io) (filter_map col_of ws) ≡ range_with_len 0 (length c.ios)
  io_order =
      told col_of (λ (s : CollectorSeat). s.io) io_place (λ (n : ℕ). n) ws (weaker (HasEnded bus latch c) (λ w. option_map (λ (s : CollectorSeat). s.io) (col_of w) ≡ option_map (λ (n : ℕ). n) (io_place w.agent)) ws (λ w e. io-seat w.part w.bus w.agent e.agent_is e.done) ended)
      ∙ (map-same (filter_map io_place (map (λ (w : Worker). w.agent) ws)) ∙ (ap (λ gs. filter_map io_place gs) agents ∙ io_places c))

  pub dev_plans : map (λ s. s.plan) (filter_map dev_of ws) ≡ map pulses_in c.devices
  dev_plans =
      told dev_of (λ (s : DeviceSeat). s.plan) device_number (λ (n : ℕ). pulses_in (get_or c.devices n [])) ws (weaker (HasEnded bus latch c) (λ w. option_map (λ (s : DeviceSeat). s.plan) (dev_of w) ≡ option_map (λ (n : ℕ). pulses_in (get_or c.devices n [])) (device_number w.agent)) ws (λ w e. dev-seat w.part w.bus w.agent e.agent_is e.done) ended)
      ∙ (ap (λ gs. map (λ (n : ℕ). pulses_in (get_or c.devices n [])) (filter_map device_number gs)) agents
      ∙ (ap (λ ns. map (λ (n : ℕ). pulses_in (get_or c.devices n [])) ns) (device_numbers c) ∙ by_number pulses_in [] c.devices))

  pub dev_count : length (filter_map dev_of ws) ≡ length c.devices
  dev_count = sym (length-map (filter_map dev_of ws) (λ (s : DeviceSeat). s.plan)) ∙ (ap (λ ps. length ps) dev_plans ∙ length-map c.devices pulses_in)

  dev-done : (p : Part) (b : AgentSeat) → IsDone latch c b p → IfSome (dev_in p) (λ s. (s.latch ≡ latch) × (s.ended ≡ true))
  dev-done part.Cpu b done = tt
  dev-done (part.Io col) b done = tt
  dev-done (part.Dev d dev) b done = (done.1, done.3)

  pub devs_done : All (λ s. (s.latch ≡ latch) × (s.ended ≡ true)) (filter_map dev_of ws)
  devs_done = kept (λ (s : DeviceSeat). (s.latch ≡ latch) × (s.ended ≡ true)) dev_of ws (weaker (HasEnded bus latch c) (λ w. IfSome (dev_of w) (λ s. (s.latch ≡ latch) × (s.ended ≡ true))) ws (λ w e. dev-done w.part w.bus e.done) ended)

  pub dev_latches : All (λ s. s.latch ≡ latch) (filter_map dev_of ws)
  dev_latches = weaker (λ (s : DeviceSeat). (s.latch ≡ latch) × (s.ended ≡ true)) (λ s. s.latch ≡ latch) (filter_map dev_of ws) (λ s h. h.0) devs_done

  col-latch : (p : Part) (b : AgentSeat) → IsDone latch c b p → IfSome (col_in p) (λ s. s.latch ≡ latch)
  col-latch part.Cpu b done = tt
  col-latch (part.Io col) b done = done.0
  col-latch (part.Dev d dev) b done = tt

  pub col_latches : All (λ s. s.latch ≡ latch) (filter_map col_of ws)
  col_latches = kept (λ (s : CollectorSeat). s.latch ≡ latch) col_of ws (weaker (HasEnded bus latch c) (λ w. IfSome (col_of w) (λ s. s.latch ≡ latch)) ws (λ w e. col-latch w.part w.bus e.done) ended)

  -- ---- the journal

  -- a collector is dry, and its counts are those of the journal
  HasCounted : List Entry → CollectorSeat → Type 0
  HasCounted journal s = (s.dry ≡ true) × ((pin : ℕ) → pin < 24 → get_or s.counts pin 0 ≡ collected_count s.io pin journal)

  col-counted : (journal : List Entry) (p : Part) (b : AgentSeat) → b.mine ≡ entries_of b.agent journal → IsDone latch c b p → IfSome (col_in p) (HasCounted journal)
  unfolding HasCounted
  col-counted journal part.Cpu b mine done = tt
  col-counted journal (part.Dev d dev) b mine done = tt
  col-counted journal (part.Io col) b mine done = (
    done.1.dry,
    λ pin lt.
        let own : b.mine ≡ entries_of (Io col.io) journal = mine ∙ ap (λ (g : Agent). entries_of g journal) done.1.agent in
        done.1.counts pin lt ∙ (ap (λ (xs : List Entry). collected_count col.io pin xs) own ∙ own_collections col.io pin journal),
  )

  cols-counted : (journal : List Entry) → All (λ s. s.mine ≡ entries_of s.agent journal) (map (λ w. w.bus) ws) → All (HasCounted journal) (filter_map col_of ws)
  cols-counted journal mine =
      let own = mapped (λ (s : AgentSeat). s.mine ≡ entries_of s.agent journal) (λ (w : Worker). w.bus) ws mine in
      kept (HasCounted journal) col_of ws
      (weaker (λ (w : Worker). HasEnded bus latch c w × (w.bus.mine ≡ entries_of w.bus.agent journal)) (λ w. IfSome (col_of w) (HasCounted journal)) ws (λ w h. col-counted journal w.part w.bus h.1 h.0.done)
      (both (HasEnded bus latch c) (λ (w : Worker). w.bus.mine ≡ entries_of w.bus.agent journal) ws ended own))

  -- the collector at a place
  col-at : (a : ℕ) (d : CollectorSeat) → a < length c.ios → (a < length (filter_map col_of ws)) × ((get_or (filter_map col_of ws) a d).io ≡ a)
  col-at a d lt =
      let cols = filter_map col_of ws in
      let many : length cols ≡ length c.ios = sym (length-map cols (λ (s : CollectorSeat). s.io)) ∙ (ap (λ xs. length xs) io_order ∙ length-range_with_len 0 (length c.ios)) in
      let here : a < length cols = omega (arith, lt, many) in
      let place : (get_or cols a d).io ≡ 0 + a = sym (get_or-map (λ (s : CollectorSeat). s.io) cols a d 0 here) ∙ (ap (λ xs. get_or xs a 0) io_order ∙ get_or-range_with_len 0 (length c.ios) a 0 lt) in
      (here, omega (arith, place))

  no_col : CollectorSeat
  no_col = record { latch = latch; io = 0; plans = []; counts = []; swaps = 0; looks = 0; full = false; dry = false }

  pub counts_tell : (journal : List Entry) (counts : List (List ℕ)) → All (λ s. s.mine ≡ entries_of s.agent journal) (map (λ w. w.bus) ws) → counts ≡ map (λ s. s.counts) (filter_map col_of ws)
      → (a pin : ℕ) → a < length c.ios → pin < 24 → get_or (get_or counts a []) pin 0 ≡ collected_count a pin journal
  unfolding HasCounted
  counts_tell journal counts mine are a pin lt low =
      let cols = filter_map col_of ws in
      let at = col-at a no_col lt in
      let h = cols-counted journal mine a no_col at.0 in
      ap (λ xs. get_or (get_or xs a []) pin 0) are
      ∙ (ap (λ l. get_or l pin 0) (get_or-map (λ (s : CollectorSeat). s.counts) cols a no_col [] at.0) ∙ (h.1 pin low ∙ ap (λ (i : ℕ). collected_count i pin journal) at.1))

  pub hits_tell : (journal : List Entry) (logs : List (List (Pulse × Hit))) → All (λ s. s.mine ≡ entries_of s.agent journal) (map (λ w. w.bus) ws)
      → All (λ s. s.dry ≡ true → (pin : ℕ) → pin < 24 → new_hits s.io pin logs ≡ get_or s.counts pin 0) (filter_map col_of ws)
      → (a pin : ℕ) → a < length c.ios → pin < 24 → new_hits a pin logs ≡ collected_count a pin journal
  unfolding HasCounted
  hits_tell journal logs mine settled a pin lt low =
      let cols = filter_map col_of ws in
      let at = col-at a no_col lt in
      let h = cols-counted journal mine a no_col at.0 in
      let s = settled a no_col at.0 h.0 pin low in
      ap (λ (i : ℕ). new_hits i pin logs) (sym at.1) ∙ (s ∙ (h.1 pin low ∙ ap (λ (i : ℕ). collected_count i pin journal) at.1))

  pub pulses_tell : (logs : List (List (Pulse × Hit))) → logs ≡ map (λ s. s.log) (filter_map dev_of ws) → All (λ s. FollowsPlan s.log s.plan × (s.ended ≡ true → pulses_of s.log ≡ s.plan)) (filter_map dev_of ws)
      → map pulses_of logs ≡ map pulses_in c.devices
  pulses_tell logs are follow =
      let devs = filter_map dev_of ws in
      let made : All (λ s. pulses_of s.log ≡ s.plan) devs = λ k d lt. (follow k d lt).1 (devs_done k d lt).1 in
      ap (λ ls. map pulses_of ls) are ∙ (map-map pulses_of (λ (s : DeviceSeat). s.log) devs ∙ (same-map (λ (s : DeviceSeat). pulses_of s.log) (λ (s : DeviceSeat). s.plan) devs made ∙ dev_plans))

  pub accounts : (journal : List Entry) (logs : List (List (Pulse × Hit))) → All (λ s. s.mine ≡ entries_of s.agent journal) (map (λ w. w.bus) ws)
      → logs ≡ map (λ s. s.log) (filter_map dev_of ws) → All (λ s. FollowsPlan s.log s.plan × (s.ended ≡ true → pulses_of s.log ≡ s.plan)) (filter_map dev_of ws)
      → All (λ s. s.dry ≡ true → (pin : ℕ) → pin < 24 → new_hits s.io pin logs ≡ get_or s.counts pin 0) (filter_map col_of ws)
      → ((a pin : ℕ) → Any (λ log. IsSome (first_hit a pin log)) logs → Any (λ log. first_hit a pin log ≡ Some New) logs) → AccountsForPulses c journal logs
  accounts journal logs mine are follow settled first = record {
    pulses = pulses_tell logs are follow;
    collections = hits_tell journal logs mine settled;
    first = first;
  }

  -- some worker was there, and found that no agent may step
  pub is_complete : (plan : Plan) (journal : List Entry) → IsConfig c → plan ≡ c → All (λ s. IsQuiescent (state_seen s) → IsComplete plan journal) (map (λ w. w.bus) ws) → IsComplete c journal
  is_complete plan journal config same all = go ws ended agents all where
    go : (vs : List Worker) → All (HasEnded bus latch c) vs → map (λ w. w.agent) vs ≡ agents_of c → All (λ s. IsQuiescent (state_seen s) → IsComplete plan journal) (map (λ w. w.bus) vs) → IsComplete c journal
    go [] e a h = absurd (some_agent c config.some a)
    go (w ∷ vs) e a h = subst (λ (p : Plan). IsComplete p journal) same (All-head (λ (s : AgentSeat). IsQuiescent (state_seen s) → IsComplete plan journal) w.bus (map (λ (v : Worker). v.bus) vs) h (All-head (HasEnded bus latch c) w vs e).rests.quiet)

-- ---- said of the seats that are given up

module _ (bus latch : TableId) (c : Plan) (ws : List Worker) (seats : List AgentSeat) (cols : List CollectorSeat) (devs : List DeviceSeat)
    (seats_are : seats ≡ map (λ w. w.bus) ws) (cols_are : cols ≡ filter_map col_of ws) (devs_are : devs ≡ filter_map dev_of ws)
    (ended : All (HasEnded bus latch c) ws) (agents : map (λ w. w.agent) ws ≡ agents_of c) where
  pub seats_close : (b : SharedBus) → b.bus ≡ bus → b.plan ≡ c → AreSeatsOf b seats
  seats_close b same plan = subst (λ (xs : List AgentSeat). AreSeatsOf b xs) (sym seats_are) (are_seats bus latch c ws ended agents b same plan)

  pub devs_close : (l : SharedLatch) → l.latch ≡ latch → l.plans ≡ map pulses_in c.devices → (length devs ≡ length l.plans) × All (λ s. s.latch ≡ l.latch) devs
  devs_close l same plans = (
    ap (λ (xs : List DeviceSeat). length xs) devs_are ∙ (dev_count bus latch c ws ended agents ∙ (sym (length-map c.devices pulses_in) ∙ sym (ap (λ (ps : List (List Pulse)). length ps) plans))),
    subst (λ (xs : List DeviceSeat). All (λ s. s.latch ≡ l.latch) xs) (sym devs_are)
        (weaker (λ (s : DeviceSeat). s.latch ≡ latch) (λ s. s.latch ≡ l.latch) (filter_map dev_of ws) (λ s e. e ∙ sym same) (dev_latches bus latch c ws ended agents)),
  )

  pub cols_close : (l : SharedLatch) → l.latch ≡ latch → l.ios ≡ length c.ios → (map (λ s. s.io) cols ≡ range_with_len 0 l.ios) × All (λ s. s.latch ≡ l.latch) cols
  cols_close l same ios = (
    ap (λ (xs : List CollectorSeat). map (λ (s : CollectorSeat). s.io) xs) cols_are ∙ (io_order bus latch c ws ended agents ∙ ap (λ n. range_with_len 0 n) (sym ios)),
    subst (λ (xs : List CollectorSeat). All (λ s. s.latch ≡ l.latch) xs) (sym cols_are)
        (weaker (λ (s : CollectorSeat). s.latch ≡ latch) (λ s. s.latch ≡ l.latch) (filter_map col_of ws) (λ s e. e ∙ sym same) (col_latches bus latch c ws ended agents)),
  )

  pub complete_close : (plan : Plan) (journal : List Entry) → IsConfig c → plan ≡ c → All (λ s. IsQuiescent (state_seen s) → IsComplete plan journal) seats → IsComplete c journal
  complete_close plan journal config same all =
      is_complete bus latch c ws ended agents plan journal config same (subst (λ (xs : List AgentSeat). All (λ s. IsQuiescent (state_seen s) → IsComplete plan journal) xs) seats_are all)

  pub counts_close : (journal : List Entry) (counts : List (List ℕ)) → All (λ s. s.mine ≡ entries_of s.agent journal) seats → counts ≡ map (λ s. s.counts) cols
      → (a pin : ℕ) → a < length c.ios → pin < 24 → get_or (get_or counts a []) pin 0 ≡ collected_count a pin journal
  counts_close journal counts mine are =
      counts_tell bus latch c ws ended agents journal counts (subst (λ (xs : List AgentSeat). All (λ s. s.mine ≡ entries_of s.agent journal) xs) seats_are mine)
      (are ∙ ap (λ (xs : List CollectorSeat). map (λ (s : CollectorSeat). s.counts) xs) cols_are)

  pub accounts_close : (journal : List Entry) (logs : List (List (Pulse × Hit))) → All (λ s. s.mine ≡ entries_of s.agent journal) seats
      → logs ≡ map (λ s. s.log) devs → All (λ s. FollowsPlan s.log s.plan × (s.ended ≡ true → pulses_of s.log ≡ s.plan)) devs
      → All (λ s. s.dry ≡ true → (pin : ℕ) → pin < 24 → new_hits s.io pin logs ≡ get_or s.counts pin 0) cols
      → ((a pin : ℕ) → Any (λ log. IsSome (first_hit a pin log)) logs → Any (λ log. first_hit a pin log ≡ Some New) logs) → AccountsForPulses c journal logs
  accounts_close journal logs mine are follow settled first =
      accounts bus latch c ws ended agents journal logs (subst (λ (xs : List AgentSeat). All (λ s. s.mine ≡ entries_of s.agent journal) xs) seats_are mine)
      (are ∙ ap (λ (xs : List DeviceSeat). map (λ (s : DeviceSeat). s.log) xs) devs_are)
      (subst (λ (xs : List DeviceSeat). All (λ s. FollowsPlan s.log s.plan × (s.ended ≡ true → pulses_of s.log ≡ s.plan)) xs) devs_are follow)
      (subst (λ (xs : List CollectorSeat). All (λ s. s.dry ≡ true → (pin : ℕ) → pin < 24 → new_hits s.io pin logs ≡ get_or s.counts pin 0) xs) cols_are settled)
      first

-- ---- one worker more

to-list : {Y : Type 0} (o : Option Y) → option_to_list o ≡ cons_option o []
to-list None = refl
to-list (Some y) = refl

pub one_more_of : {Y : Type 0} (f : Worker → Option Y) (ys : List Worker) (w : Worker) (old new : List Y) → old ≡ filter_map f ys → new ≡ old ++ option_to_list (f w) → new ≡ filter_map f (ys ++ w ∷ [])
one_more_of {Y = Y} f ys w old new so now =
    now ∙ (ap₂ (λ (xs zs : List Y). xs ++ zs) so (to-list (f w)) ∙ sym (filter_map-append f ys (w ∷ [])))

pub one_more_seat : (ys : List Worker) (w : Worker) (old new : List AgentSeat) → old ≡ map (λ v. v.bus) ys → new ≡ old ++ w.bus ∷ [] → new ≡ map (λ v. v.bus) (ys ++ w ∷ [])
one_more_seat ys w old new so now = now ∙ (ap (λ (xs : List AgentSeat). xs ++ w.bus ∷ []) so ∙ sym (map-append (λ (v : Worker). v.bus) ys (w ∷ [])))
