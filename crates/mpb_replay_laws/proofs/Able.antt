-- Agents that aren't there can't step; so one is the least that may, or none may.
use Rattle.std.proofs.Common.{◌≡◌, ◌⊎◌, inl, inr, ℕ, ◌<◌, ◌≤◌, Bool, true, false, not, List, [], ◌∷◌, length, map, refl, sym, ◌∙◌, arith, Option, Some, None, MatchBool, nat_lt}
use Rattle.std.specs.List.{AllByRecursion}
use Rattle.std.proofs.lemmas.Bool.{ne_eqb, cases_lt, ltb-true}
use Rattle.mpb_spec.specs.declared.agent.Agent.{Agent}
use Rattle.mpb_spec.specs.declared.agent.Agent.TheVariants.{Cpu, Io, Dev}
use Rattle.mpb_spec.specs.declared.agent.Op.{Op}
use Rattle.mpb_spec.specs.declared.entry.Entry.{Entry}
use Rattle.mpb_spec.specs.Numbers.{has}
use Rattle.mpb_spec.specs.State.{BoardState}
use Rattle.mpb_spec.specs.Steps.{next_op}
use Rattle.mpb_spec.specs.May.{MayAny, IsIdle, IsQuiescent}
use Rattle.mpb_spec.specs.Plan.{Plan, CpuPlan}
use Rattle.mpb_spec.specs.Configs.{IsConfig, IsCpuPlan}
use Rattle.mpb_spec.specs.Journal.{final_state_of}
use Rattle.mpb_spec.specs.Asks.{any_of}
use Rattle.mpb_spec.proofs.Quiet.{any_law}
use Rattle.mpb_replay_laws.specs.Asked.{AreIdle}
use Rattle.mpb_replay_laws.specs.Differences.{IsBefore, IsFirstAble}
use Rattle.mpb_replay_laws.proofs.Offers.{absent_none}
use Rattle.mpb_replay_laws.proofs.Firsts.{IsLeast, least_or_none}

no-id : (boot boot_len ios page n : ℕ) (cs : List CpuPlan) → AllByRecursion (IsCpuPlan boot boot_len ios page) cs → 255 ≤ n → has n (map (λ p. p.id) cs) ≡ false
no-id boot boot_len ios page n [] all le = refl
no-id boot boot_len ios page n (c ∷ cs) all le =
    let low : c.id < 255 = all.0.id in
    rw (ne_eqb c.id n (λ e. omega (arith, e, low, le))) (no-id boot boot_len ios page n cs all.1 le)

-- there is no processor with an id from 255 on, nor a place or a device past their numbers
pub idle_cpu : (c : Plan) (journal : List Entry) (id : ℕ) → IsConfig c → 255 ≤ id → IsIdle (final_state_of c journal) (Cpu id)
idle_cpu c journal id is le = absent_none c journal (Cpu id) (no-id c.boot c.boot_len (length c.ios) is.page id c.cpus is.cpus le)

not-lt : (m n : ℕ) → n ≤ m → nat_lt m n ≡ false
not-lt m n le = go (nat_lt m n) refl where
  go : (b : Bool) → nat_lt m n ≡ b → b ≡ false
  go true e = absurd (omega (arith, ltb-true m n e, le))
  go false e = refl

pub idle_io : (c : Plan) (journal : List Entry) (a : ℕ) → length c.ios ≤ a → IsIdle (final_state_of c journal) (Io a)
idle_io c journal a le = absent_none c journal (Io a) (not-lt a (length c.ios) le)

pub idle_dev : (c : Plan) (journal : List Entry) (d : ℕ) → length c.devices ≤ d → IsIdle (final_state_of c journal) (Dev d)
idle_dev c journal d le = absent_none c journal (Dev d) (not-lt d (length c.devices) le)

-- where those that are there are idle, all are
pub all_cpus : (c : Plan) (journal : List Entry) → IsConfig c → AreIdle Cpu 255 (final_state_of c journal) → (id : ℕ) → IsIdle (final_state_of c journal) (Cpu id)
all_cpus c journal is idle id = elim (cases_lt id 255) [ inl lt ↦ idle id lt | inr le ↦ idle_cpu c journal id is le ]

pub all_ios : (c : Plan) (journal : List Entry) → AreIdle Io (length c.ios) (final_state_of c journal) → (a : ℕ) → IsIdle (final_state_of c journal) (Io a)
all_ios c journal idle a = elim (cases_lt a (length c.ios)) [ inl lt ↦ idle a lt | inr le ↦ idle_io c journal a le ]

pub all_devs : (c : Plan) (journal : List Entry) → AreIdle Dev (length c.devices) (final_state_of c journal) → (d : ℕ) → IsIdle (final_state_of c journal) (Dev d)
all_devs c journal idle d = elim (cases_lt d (length c.devices)) [ inl lt ↦ idle d lt | inr le ↦ idle_dev c journal d le ]

pub first_cpu : (s : BoardState) (id : ℕ) → MayAny s (Cpu id) → AreIdle Cpu id s → IsFirstAble s (Cpu id)
first_cpu s id may idle = record { may = may; first = first } where
  first : (h : Agent) → IsBefore h (Cpu id) → IsIdle s h
  first (Cpu i) lt = idle i lt
  first (Io a) lt = absurd lt
  first (Dev d) lt = absurd lt

pub first_io : (c : Plan) (journal : List Entry) (a : ℕ) → IsConfig c → AreIdle Cpu 255 (final_state_of c journal) → MayAny (final_state_of c journal) (Io a) → AreIdle Io a (final_state_of c journal) → IsFirstAble (final_state_of c journal) (Io a)
first_io c journal a is cpus may idle = record { may = may; first = first } where
  first : (h : Agent) → IsBefore h (Io a) → IsIdle (final_state_of c journal) h
  first (Cpu i) lt = all_cpus c journal is cpus i
  first (Io b) lt = idle b lt
  first (Dev d) lt = absurd lt

pub first_dev : (c : Plan) (journal : List Entry) (d : ℕ) → IsConfig c → AreIdle Cpu 255 (final_state_of c journal) → AreIdle Io (length c.ios) (final_state_of c journal) → MayAny (final_state_of c journal) (Dev d) → AreIdle Dev d (final_state_of c journal) → IsFirstAble (final_state_of c journal) (Dev d)
first_dev c journal d is cpus ios may idle = record { may = may; first = first } where
  first : (h : Agent) → IsBefore h (Dev d) → IsIdle (final_state_of c journal) h
  first (Cpu i) lt = all_cpus c journal is cpus i
  first (Io a) lt = all_ios c journal ios a
  first (Dev e) lt = idle e lt

pub all_idle : (c : Plan) (journal : List Entry) → IsConfig c → AreIdle Cpu 255 (final_state_of c journal) → AreIdle Io (length c.ios) (final_state_of c journal) → AreIdle Dev (length c.devices) (final_state_of c journal) → IsQuiescent (final_state_of c journal)
all_idle c journal is cpus ios devs = λ g. go g where
  go : (g : Agent) → IsIdle (final_state_of c journal) g
  go (Cpu id) = all_cpus c journal is cpus id
  go (Io a) = all_ios c journal ios a
  go (Dev d) = all_devs c journal devs d

-- ---- one is the least that may, or none may

none-some : (o : Op) (r : Option Op) → r ≡ None → r ≡ Some o → ⊥
none-some o r e f = (let t : None ≡ Some o = sym e ∙ f in cc)

busy : (s : BoardState) (g : Agent) → MayAny s g → ¬ IsIdle s g
busy s g may idle = none-some may.1.0 (next_op s g may.0) (idle may.0) may.1.1

told : (s : BoardState) (g : Agent) → MayAny s g ⊎ (¬ MayAny s g)
told s g = go (any_of s g) (any_law s g (any_of s g) refl) where
  go : (b : Bool) → MatchBool b (MayAny s g) (IsIdle s g) → MayAny s g ⊎ (¬ MayAny s g)
  go true m = inl m
  go false m = inr (λ may. busy s g may m)

idle-of : (s : BoardState) (g : Agent) → ¬ MayAny s g → IsIdle s g
idle-of s g not = go (any_of s g) (any_law s g (any_of s g) refl) where
  go : (b : Bool) → MatchBool b (MayAny s g) (IsIdle s g) → IsIdle s g
  go true m = absurd (not m)
  go false m = m

idle-below : (s : BoardState) (f : ℕ → Agent) (n : ℕ) → ((m : ℕ) → m < n → ¬ MayAny s (f m)) → AreIdle f n s
idle-below s f n none k lt = idle-of s (f k) (none k lt)

pub able_or_quiet : (c : Plan) (journal : List Entry) → IsConfig c → ((g : Agent) × IsFirstAble (final_state_of c journal) g) ⊎ IsQuiescent (final_state_of c journal)
able_or_quiet c journal is = cpus (least_or_none (λ id. MayAny (final_state_of c journal) (Cpu id)) (λ id. told (final_state_of c journal) (Cpu id)) 255) where
  devs : AreIdle Cpu 255 (final_state_of c journal) → AreIdle Io (length c.ios) (final_state_of c journal) → ((d : ℕ) → d < length c.devices → ¬ MayAny (final_state_of c journal) (Dev d)) ⊎ ((d : ℕ) × (d < length c.devices) × IsLeast (λ k. MayAny (final_state_of c journal) (Dev k)) d) → ((g : Agent) × IsFirstAble (final_state_of c journal) g) ⊎ IsQuiescent (final_state_of c journal)
  devs quiet still (inl none) = inr (all_idle c journal is quiet still (idle-below (final_state_of c journal) Dev (length c.devices) none))
  devs quiet still (inr d) = inl (Dev d.0, first_dev c journal d.0 is quiet still d.2.holds (idle-below (final_state_of c journal) Dev d.0 d.2.first))

  ios : AreIdle Cpu 255 (final_state_of c journal) → ((a : ℕ) → a < length c.ios → ¬ MayAny (final_state_of c journal) (Io a)) ⊎ ((a : ℕ) × (a < length c.ios) × IsLeast (λ k. MayAny (final_state_of c journal) (Io k)) a) → ((g : Agent) × IsFirstAble (final_state_of c journal) g) ⊎ IsQuiescent (final_state_of c journal)
  ios quiet (inl none) = devs quiet (idle-below (final_state_of c journal) Io (length c.ios) none) (least_or_none (λ d. MayAny (final_state_of c journal) (Dev d)) (λ d. told (final_state_of c journal) (Dev d)) (length c.devices))
  ios quiet (inr a) = inl (Io a.0, first_io c journal a.0 is quiet a.2.holds (idle-below (final_state_of c journal) Io a.0 a.2.first))

  cpus : ((id : ℕ) → id < 255 → ¬ MayAny (final_state_of c journal) (Cpu id)) ⊎ ((id : ℕ) × (id < 255) × IsLeast (λ k. MayAny (final_state_of c journal) (Cpu k)) id) → ((g : Agent) × IsFirstAble (final_state_of c journal) g) ⊎ IsQuiescent (final_state_of c journal)
  cpus (inl none) = ios (idle-below (final_state_of c journal) Cpu 255 none) (least_or_none (λ a. MayAny (final_state_of c journal) (Io a)) (λ a. told (final_state_of c journal) (Io a)) (length c.ios))
  cpus (inr id) = inl (Cpu id.0, first_cpu (final_state_of c journal) id.0 id.2.holds (idle-below (final_state_of c journal) Cpu id.0 id.2.first))
