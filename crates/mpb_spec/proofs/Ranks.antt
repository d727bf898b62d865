-- The processor of the least rank is the first of those that are named and run.
use Rattle.std.proofs.Common.{◌≡◌, ◌==◌, ◌⊎◌, ℕ, ◌<◌, Bool, true, false, not, ◌&&◌, ◌||◌, cond, List, [], ◌∷◌, map, filter, refl, sym, ap, ap₂, ◌∙◌, arith, Option, None, Some, is_some, nat_lt, inl, inr}
use Rattle.std.specs.List.{AllByRecursion, list_any}
use Rattle.std.proofs.lemmas.Bool.{eqb-true, eq-eqb, ne_eqb, ltb-true, lt-ltb, le-ltb, cases_lt}
use Rattle.mpb_spec.specs.declared.apic.Aim.{Aim}
use Rattle.mpb_spec.specs.declared.apic.Destination.{Destination}
use Rattle.mpb_spec.specs.LocalApic.{ppr}
use Rattle.mpb_spec.specs.State.{Processor}
use Rattle.mpb_spec.specs.Delivery.{is_named, is_ready, is_first, is_target}
use Rattle.mpb_spec.specs.Ranks.{rank_of, is_less, lesser, least_rank, rank_sought, is_chosen}

abbrev pub Rank : Type 0
Rank = ℕ × ℕ

-- the order in numbers
abbrev pub IsLess : Rank → Rank → Type 0
IsLess x y = (x.0 < y.0) ⊎ ((x.0 ≡ y.0) × (x.1 < y.1))

both-true : (a b c d : Bool) → (a || (b && c)) ≡ true → (a ≡ true) ⊎ ((b ≡ true) × (c ≡ true))
both-true true b c d e = inl refl
both-true false true true d e = inr (refl, refl)
both-true false true false d e = cc
both-true false false c d e = cc

less-true : (x y : Rank) → is_less x y ≡ true → IsLess x y
less-true x y e = elim (both-true (nat_lt x.0 y.0) (x.0 == y.0) (nat_lt x.1 y.1) true e) [
  | inl h ↦ inl (ltb-true x.0 y.0 h)
  | inr h ↦ inr (eqb-true x.0 y.0 h.0, ltb-true x.1 y.1 h.1)
]

pub true-less : (x y : Rank) → IsLess x y → is_less x y ≡ true
true-less x y (inl h) = rw (lt-ltb x.0 y.0 h) refl
true-less x y (inr h) = rw (eq-eqb x.0 y.0 h.0, lt-ltb x.1 y.1 h.1) (elim (nat_lt x.0 y.0) as (λ b. (b || true) ≡ true) [ true ↦ refl | false ↦ refl ])

either : (a b : Bool) → (a ≡ true → b ≡ true) → (b ≡ true → a ≡ true) → a ≡ b
either true true f g = refl
either true false f g = sym (f refl)
either false true f g = g refl
either false false f g = refl

less-goes : (x y z : Rank) → IsLess x y → IsLess y z → IsLess x z
less-goes x y z (inl h) (inl k) = inl (omega arith)
less-goes x y z (inl h) (inr k) = inl (omega (arith, k.0))
less-goes x y z (inr h) (inl k) = inl (omega (arith, h.0))
less-goes x y z (inr h) (inr k) = inr (omega (arith, h.0, k.0), omega (arith, h.1, k.1))

pub not-less-itself : (x : Rank) → is_less x x ≡ false
not-less-itself x = rw (le-ltb x.0 x.0 (omega arith), le-ltb x.1 x.1 (omega arith)) (elim (x.0 == x.0) as (λ b. (b && false) ≡ false) [ true ↦ refl | false ↦ refl ])

-- one of two is less, or both are the same
abbrev AreOrdered : Rank → Rank → Type 0
AreOrdered x y = IsLess x y ⊎ (((x.0 ≡ y.0) × (x.1 ≡ y.1)) ⊎ IsLess y x)

ordered : (x y : Rank) → AreOrdered x y
ordered x y = elim (cases_lt x.0 y.0) [
  | inl a ↦ inl (inl a)
  | inr a ↦ elim (cases_lt y.0 x.0) [
    | inl b ↦ inr (inr (inl b))
    | inr b ↦
        let same : x.0 ≡ y.0 = omega arith in
        elim (cases_lt x.1 y.1) [
          | inl c ↦ inl (inr (same, c))
          | inr c ↦ elim (cases_lt y.1 x.1) [
            | inl d ↦ inr (inr (inr (sym same, d)))
            | inr d ↦ inr (inl (same, omega arith))
          ]
        ]
  ]
]

-- less than the lesser of two is less than both, and less than one of them is more than the lesser
lesser-first : (x y z : Rank) → is_less y x ≡ true → (is_less x z || is_less y z) ≡ is_less y z
lesser-first x y z e = go (is_less x z) refl where
  go : (b : Bool) → is_less x z ≡ b → (b || is_less y z) ≡ is_less y z
  go true h = sym (true-less y z (less-goes y x z (less-true y x e) (less-true x z h)))
  go false h = refl

lesser-second : (x y z : Rank) → is_less y x ≡ false → (is_less x z || is_less y z) ≡ is_less x z
lesser-second x y z e = either (is_less x z || is_less y z) (is_less x z) (λ h. go (is_less x z) refl h) (λ h. rw h refl) where
  no' : IsLess y x → is_less x z ≡ true
  no' l = let t = true-less y x l in cc

  later : is_less y z ≡ true → is_less x z ≡ true
  later h = elim (ordered x y) [
    | inl l ↦ true-less x z (less-goes x y z l (less-true y z h))
    | inr o ↦ elim o [
      | inl same ↦ true-less x z (elim (less-true y z h) [ inl k ↦ inl (omega (arith, same.0)) | inr k ↦ inr (omega (arith, same.0, k.0), omega (arith, same.1, k.1)) ])
      | inr l ↦ no' l
    ]
  ]

  go : (b : Bool) → is_less x z ≡ b → (b || is_less y z) ≡ true → is_less x z ≡ true
  go true h t = h
  go false h t = later t

-- whether a rank, where there is one, is less
abbrev pub some_less : Option Rank → Rank → Bool
some_less None z = false
some_less (Some x) z = is_less x z

lesser-less : (x : Rank) (o : Option Rank) (z : Rank) → (is_less x z || some_less o z) ≡ is_less (lesser x o) z
lesser-less x None z = elim (is_less x z) as (λ b. (b || false) ≡ b) [ true ↦ refl | false ↦ refl ]
lesser-less x (Some y) z = go (is_less y x) refl where
  go : (b : Bool) → is_less y x ≡ b → (is_less x z || is_less y z) ≡ is_less (cond b y x) z
  go true e = lesser-first x y z e
  go false e = lesser-second x y z e

-- some that is named and runs is there, where there is a least rank
pub some-ready : (to : Destination) (ps : List Processor) → list_any (is_ready to) ps ≡ is_some (least_rank to ps)
some-ready to [] = refl
some-ready to (p ∷ ps) = go (is_ready to p) (some-ready to ps) where
  go : (b : Bool) → list_any (is_ready to) ps ≡ is_some (least_rank to ps) → (b || list_any (is_ready to) ps) ≡ is_some (cond b (Some (lesser (rank_of p) (least_rank to ps))) (least_rank to ps))
  go true h = refl
  go false h = h

-- some of these has a lesser rank exactly where the least one is less
pub some-before : (to : Destination) (z : Rank) (ps : List Processor) → list_any (λ q. is_ready to q && is_less (rank_of q) z) ps ≡ some_less (least_rank to ps) z
some-before to z [] = refl
some-before to z (p ∷ ps) = go (is_ready to p) (some-before to z ps) where
  go : (b : Bool) → list_any (λ q. is_ready to q && is_less (rank_of q) z) ps ≡ some_less (least_rank to ps) z → ((b && is_less (rank_of p) z) || list_any (λ q. is_ready to q && is_less (rank_of q) z) ps) ≡ some_less (cond b (Some (lesser (rank_of p) (least_rank to ps))) (least_rank to ps)) z
  go true h = ap (λ b. is_less (rank_of p) z || b) h ∙ lesser-less (rank_of p) (least_rank to ps) z
  go false h = h

-- no member passes a test that none passes
pub none-passes : (f : Processor → Bool) (ps : List Processor) → list_any f ps ≡ false → AllByRecursion (λ p. f p ≡ false) ps
none-passes f [] e = tt
none-passes f (p ∷ ps) e = go (f p) refl e (λ h. none-passes f ps h) where
  go : (b : Bool) → f p ≡ b → (b || list_any f ps) ≡ false → (list_any f ps ≡ false → AllByRecursion (λ p. f p ≡ false) ps) → (f p ≡ false) × AllByRecursion (λ p. f p ≡ false) ps
  go true w h rest = cc
  go false w h rest = (w, rest h)

pub all-follow : (P Q : Processor → Type 0) (ps : List Processor) → ((p : Processor) → P p → Q p) → AllByRecursion P ps → AllByRecursion Q ps
all-follow P Q [] f h = tt
all-follow P Q (p ∷ ps) f h = (f p h.0, all-follow P Q ps f h.1)

all-so : (Q : Processor → Type 0) (ps : List Processor) → ((p : Processor) → Q p) → AllByRecursion Q ps
all-so Q [] f = tt
all-so Q (p ∷ ps) f = (f p, all-so Q ps f)

-- a rank that isn't less than the least one is not above it exactly where it is the same
same-rank : (r x : Rank) → is_less x r ≡ false → ((r.0 == x.0) && (r.1 == x.1)) ≡ not (is_less r x)
same-rank r x e = elim (ordered r x) [
  | inl l ↦ rw (true-less r x l) (differ l)
  | inr o ↦ elim o [
    | inl same ↦ rw (eq-eqb r.0 x.0 same.0, eq-eqb r.1 x.1 same.1, le-ltb r.0 x.0 (omega (arith, same.0)), le-ltb r.1 x.1 (omega (arith, same.1))) refl
    | inr l ↦ let t = true-less x r l in cc
  ]
] where
  differ : IsLess r x → ((r.0 == x.0) && (r.1 == x.1)) ≡ false
  differ (inl h) = rw (ne_eqb r.0 x.0 (λ s. absurd (omega (arith, s)))) refl
  differ (inr h) = rw (ne_eqb r.1 x.1 (λ s. absurd (omega (arith, s, h.1)))) (elim (r.0 == x.0) as (λ b. (b && false) ≡ false) [ true ↦ refl | false ↦ refl ])

-- one processor: chosen by the least rank, it is the first
chosen-first : (to : Destination) (ps : List Processor) (r : Rank) → least_rank to ps ≡ Some r → (p : Processor) → (is_ready to p && is_less (rank_of p) r) ≡ false → is_chosen to (Some r) p ≡ is_first to ps p
chosen-first to ps r w p h = go (is_ready to p) h where
  before : list_any (λ q. is_ready to q && is_less (rank_of q) (rank_of p)) ps ≡ is_less r (rank_of p)
  before = some-before to (rank_of p) ps ∙ ap (λ (o : Option Rank). some_less o (rank_of p)) w

  go : (b : Bool) → (b && is_less (rank_of p) r) ≡ false → (b && ((r.0 == ppr p.apic) && (r.1 == p.id))) ≡ (b && not (list_any (λ q. is_ready to q && is_less (rank_of q) (rank_of p)) ps))
  go true e = same-rank r (rank_of p) e ∙ ap not (sym before)
  go false e = refl

-- for each processor
pub chosen-targets : (aim : Aim) (ps : List Processor) → AllByRecursion (λ p. is_chosen aim.at (rank_sought aim ps) p ≡ is_target aim ps p) ps
chosen-targets aim ps = go aim.lowest (least_rank aim.at ps) refl where
  go : (b : Bool) (o : Option Rank) → least_rank aim.at ps ≡ o → AllByRecursion (λ p. is_chosen aim.at (cond b o None) p ≡ cond (b && list_any (is_ready aim.at) ps) (is_first aim.at ps p) (is_named aim.at p)) ps
  go false o w = all-so (λ p. is_named aim.at p ≡ is_named aim.at p) ps (λ p. refl)
  go true None w = rw (some-ready aim.at ps, w) (all-so (λ p. is_named aim.at p ≡ is_named aim.at p) ps (λ p. refl))
  go true (Some r) w =
      let none : list_any (λ q. is_ready aim.at q && is_less (rank_of q) r) ps ≡ false = some-before aim.at r ps ∙ ap (λ (o : Option Rank). some_less o r) w ∙ not-less-itself r in
      rw (some-ready aim.at ps, w) (all-follow (λ p. (is_ready aim.at p && is_less (rank_of p) r) ≡ false) (λ p. is_chosen aim.at (Some r) p ≡ is_first aim.at ps p) ps (chosen-first aim.at ps r w) (none-passes (λ q. is_ready aim.at q && is_less (rank_of q) r) ps none))

-- tests that agree on each member change and keep the same
pub same-changes : (f g : Processor → Bool) (k : Processor → Processor) (ps : List Processor) → AllByRecursion (λ p. f p ≡ g p) ps → map (λ p. cond (f p) (k p) p) ps ≡ map (λ p. cond (g p) (k p) p) ps
same-changes f g k [] h = refl
same-changes f g k (p ∷ ps) h = ap₂ (λ (b : Bool) (l : List Processor). cond b (k p) p ∷ l) h.0 (same-changes f g k ps h.1)

pub same-kept : (f g : Processor → Bool) (ps : List Processor) → AllByRecursion (λ p. f p ≡ g p) ps → filter f ps ≡ filter g ps
same-kept f g [] h = refl
same-kept f g (p ∷ ps) h = ap₂ (λ (b : Bool) (l : List Processor). cond b (p ∷ l) l) h.0 (same-kept f g ps h.1)
