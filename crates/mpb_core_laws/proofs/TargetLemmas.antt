-- The one target of a message of lowest priority.
use Rattle.std.proofs.Common.{◌≡◌, ◌==◌, ℕ, ◌<◌, ◌≤◌, Bool, true, false, ◌&&◌, ◌||◌, cond, List, [], ◌∷◌, map, filter, refl, sym, ap, ◌∙◌, arith, Option, None, Some, is_some, inl, inr, subst}
use Rattle.std.specs.List.{AllByRecursion, list_any}
use Rattle.std.proofs.lemmas.Bool.{eqb-true, eq-eqb, cases_lt}
use Rattle.mpb_spec.specs.declared.apic.Aim.{Aim}
use Rattle.mpb_spec.specs.declared.apic.Destination.{Destination}
use Rattle.mpb_spec.specs.declared.apic.Delivery.{Delivery}
use Rattle.mpb_spec.specs.LocalApic.{ppr}
use Rattle.mpb_spec.specs.Numbers.{IsAscending}
use Rattle.mpb_spec.specs.State.{Processor, BoardState, runs}
use Rattle.mpb_spec.specs.Delivery.{is_named, is_ready, is_first, is_target, delivered_to, delivered, outcomes_at, delivery_outcomes, byte_of}
use Rattle.mpb_spec.specs.Ranks.{rank_of, is_less, lesser, least_rank, rank_sought, is_chosen}
use Rattle.mpb_spec.proofs.Ranks.{Rank, true-less, some-ready, some_less, some-before, not-less-itself, none-passes, all-follow, chosen-targets, same-kept}
use Rattle.mpb_core_laws.specs.Words.{IsOfLowestPriority}

and-parts : (a b : Bool) → (a && b) ≡ true → (a ≡ true) × (b ≡ true)
and-parts true b e = (refl, e)
and-parts false b e = cc

-- a processor that has the rank is chosen by it
own-rank : (to : Destination) (p : Processor) → is_ready to p ≡ true → is_chosen to (Some (rank_of p)) p ≡ true
own-rank to p e = rw (e, eq-eqb (ppr p.apic) (ppr p.apic) refl, eq-eqb p.id p.id refl) refl

-- and one with the least rank is there
least-there : (to : Destination) (ps : List Processor) (r : Rank) → least_rank to ps ≡ Some r → list_any (is_chosen to (Some r)) ps ≡ true
least-there to [] r e = cc
least-there to (p ∷ ps) r e = go (is_ready to p) refl (least_rank to ps) refl e (least-there to ps) where
  first : is_ready to p ≡ true → rank_of p ≡ r → list_any (is_chosen to (Some r)) (p ∷ ps) ≡ true
  first ready same = rw (subst (λ (x : Rank). is_chosen to (Some x) p ≡ true) same (own-rank to p ready)) refl

  later : list_any (is_chosen to (Some r)) ps ≡ true → list_any (is_chosen to (Some r)) (p ∷ ps) ≡ true
  later h = rw h (elim (is_chosen to (Some r) p) as (λ b. (b || true) ≡ true) [ true ↦ refl | false ↦ refl ])

  go : (b : Bool) → is_ready to p ≡ b → (o : Option Rank) → least_rank to ps ≡ o → cond b (Some (lesser (rank_of p) o)) o ≡ Some r → ((x : Rank) → least_rank to ps ≡ Some x → list_any (is_chosen to (Some x)) ps ≡ true) → list_any (is_chosen to (Some r)) (p ∷ ps) ≡ true
  go false w o v h rest = later (rest r (v ∙ h))
  go true w None v h rest = let same : rank_of p ≡ r = cc in first w same
  go true w (Some y) v h rest = by (is_less y (rank_of p)) h where
    by : (b : Bool) → Some (cond b y (rank_of p)) ≡ Some r → list_any (is_chosen to (Some r)) (p ∷ ps) ≡ true
    by true k = let same : y ≡ r = cc in later (subst (λ (x : Rank). list_any (is_chosen to (Some x)) ps ≡ true) same (rest y v))
    by false k = let same : rank_of p ≡ r = cc in first w same

-- a test that only a processor with one id passes
none-after : (f : Processor → Bool) (i : ℕ) (ps : List Processor) → ((p : Processor) → f p ≡ true → p.id ≡ i) → AllByRecursion (λ y. i < y) (map (λ p. p.id) ps) → filter f ps ≡ []
none-after f i [] only above = refl
none-after f i (p ∷ ps) only above = go (f p) refl (none-after f i ps only above.1) where
  go : (b : Bool) → f p ≡ b → filter f ps ≡ [] → cond b (p ∷ filter f ps) (filter f ps) ≡ []
  go true w h = absurd (omega (arith, only p w, above.0))
  go false w h = h

abbrev IsOnly : (Processor → Bool) → List Processor → Type 0
IsOnly f ps = (q : Processor) × (filter f ps ≡ q ∷ []) × (f q ≡ true)

only-one : (f : Processor → Bool) (i : ℕ) (ps : List Processor) → ((p : Processor) → f p ≡ true → p.id ≡ i) → IsAscending (map (λ p. p.id) ps) → list_any f ps ≡ true → IsOnly f ps
only-one f i [] only up some = cc
only-one f i (p ∷ ps) only up some = go (f p) refl some (only-one f i ps only up.1) where
  go : (b : Bool) → f p ≡ b → (b || list_any f ps) ≡ true → (list_any f ps ≡ true → IsOnly f ps) → (q : Processor) × (cond b (p ∷ filter f ps) (filter f ps) ≡ q ∷ []) × (f q ≡ true)
  go true w h rest =
      let above = subst (λ (j : ℕ). AllByRecursion (λ y. j < y) (map (λ (x : Processor). x.id) ps)) (only p w) up.0 in
      (p, ap (λ (l : List Processor). p ∷ l) (none-after f i ps only above), w)
  go false w h rest = rest h

-- no lesser rank: no lower priority, and of the same no lower id
not-lower : (x y : Rank) → is_less x y ≡ false → y.0 ≤ x.0
not-lower x y e = elim (cases_lt x.0 y.0) [
  | inl lt ↦ let t = true-less x y (inl lt) in cc
  | inr le ↦ le
]

not-less-id : (x y : Rank) → is_less x y ≡ false → x.0 ≡ y.0 → y.1 ≤ x.1
not-less-id x y e same = elim (cases_lt x.1 y.1) [
  | inl lt ↦ let t = true-less x y (inr (same, lt)) in cc
  | inr le ↦ le
]

-- where some that is named runs, there is one target, and it is the one of lowest priority
abbrev pub HasOneTarget : Aim → List Processor → Type 0
HasOneTarget aim ps = (q : Processor) × (filter (is_target aim ps) ps ≡ q ∷ []) × IsOfLowestPriority aim.at ps q

pub one-target : (aim : Aim) (ps : List Processor) → aim.lowest ≡ true → IsAscending (map (λ p. p.id) ps) → list_any (is_ready aim.at) ps ≡ true → HasOneTarget aim ps
one-target aim ps low up some = go (least_rank aim.at ps) refl (sym (some-ready aim.at ps) ∙ some) where
  go : (o : Option Rank) → least_rank aim.at ps ≡ o → is_some (least_rank aim.at ps) ≡ true → HasOneTarget aim ps
  go None w h = cc
  go (Some r) w h =
      let sought : rank_sought aim ps ≡ Some r = rw low w in
      let chosen : Processor → Bool = is_chosen aim.at (Some r) in
      let same : filter chosen ps ≡ filter (is_target aim ps) ps = ap (λ (o : Option Rank). filter (is_chosen aim.at o) ps) (sym sought) ∙ same-kept (is_chosen aim.at (rank_sought aim ps)) (is_target aim ps) ps (chosen-targets aim ps) in
      let one = only-one chosen r.1 ps (λ p e. sym (eqb-true r.1 p.id (and-parts (r.0 == ppr p.apic) (r.1 == p.id) (and-parts (is_ready aim.at p) ((r.0 == ppr p.apic) && (r.1 == p.id)) e).1).1)) up (least-there aim.at ps r w) in
      let q = one.0 in
      let is = and-parts (is_ready aim.at q) ((r.0 == ppr q.apic) && (r.1 == q.id)) one.2 in
      let ready = and-parts (is_named aim.at q) (runs q.life) is.0 in
      let equal = and-parts (r.0 == ppr q.apic) (r.1 == q.id) is.1 in
      let priority = eqb-true r.0 (ppr q.apic) equal.0 in
      let id = eqb-true r.1 q.id equal.1 in
      let none : list_any (λ p. is_ready aim.at p && is_less (rank_of p) r) ps ≡ false = some-before aim.at r ps ∙ ap (λ (o : Option Rank). some_less o r) w ∙ not-less-itself r in
      let nothing = none-passes (λ p. is_ready aim.at p && is_less (rank_of p) r) ps none in (
        q,
        sym same ∙ one.1,
        record {
          named = ready.0;
          running = ready.1;
          lowest = all-follow (λ p. (is_ready aim.at p && is_less (rank_of p) r) ≡ false) (λ p. is_ready aim.at p ≡ true → ppr q.apic ≤ ppr p.apic) ps (λ p e y. (let b = not-lower (rank_of p) r (off (is_ready aim.at p) (is_less (rank_of p) r) y e) in omega (arith, b, priority))) nothing;
          least = all-follow (λ p. (is_ready aim.at p && is_less (rank_of p) r) ≡ false) (λ p. is_ready aim.at p ≡ true → ppr p.apic ≡ ppr q.apic → q.id ≤ p.id) ps (λ p e y s. (let b = not-less-id (rank_of p) r (off (is_ready aim.at p) (is_less (rank_of p) r) y e) (s ∙ sym priority) in omega (arith, b, id))) nothing;
        },
      ) where
        off : (a b : Bool) → a ≡ true → (a && b) ≡ false → b ≡ false
        off true b y e = e
        off false b y e = cc

-- where none of them runs, all that are named are targets
none-running : (aim : Aim) (ps : List Processor) → list_any (is_ready aim.at) ps ≡ false → is_target aim ps ≡ is_named aim.at
none-running aim ps none = go aim.lowest where
  go : (b : Bool) → (λ (p : Processor). cond (b && list_any (is_ready aim.at) ps) (is_first aim.at ps p) (is_named aim.at p)) ≡ is_named aim.at
  go true = rw none refl
  go false = refl

pub same-state : (aim : Aim) (d : Delivery) (s : BoardState) → list_any (is_ready aim.at) s.processors ≡ false → delivered aim d s ≡ delivered (record { at = aim.at; lowest = false }) d s
same-state aim d s none = ap (λ (test : Processor → Bool). record s { processors = map (delivered_to s.warm test d) s.processors }) (none-running aim s.processors none)

pub same-outcomes : (aim : Aim) (d : Delivery) (s : BoardState) → list_any (is_ready aim.at) s.processors ≡ false → delivery_outcomes aim d s ≡ delivery_outcomes (record { at = aim.at; lowest = false }) d s
same-outcomes aim d s none = ap (λ (test : Processor → Bool). outcomes_at s.warm test (byte_of aim.at) d s.processors) (none-running aim s.processors none)
