-- One member of a list set to what it changes to, and the acts of a device by their place.
use Rattle.std.proofs.Common.{◌≡◌, ◌<◌, ◌≤◌, ◌-◌, ◌↔◌, ℕ, zero, suc, Bool, true, false, List, [], ◌∷◌, ◌++◌, length, map, set, get_or, slice_get, refl, sym, ap, ◌∙◌, arith, Option, None, Some, is_some, IsTrue}
use Rattle.mpb_spec.specs.declared.agent.Agent.{Agent}
use Rattle.mpb_spec.specs.declared.agent.Offer.{Offer}
use Rattle.mpb_spec.specs.declared.agent.Op.{Op}
use Rattle.mpb_spec.specs.declared.config.DevWord.{DevWord}
use Rattle.mpb_spec.specs.State.{BoardState, change_at}
use Rattle.mpb_spec.specs.Steps.{next_op}
use Rattle.mpb_spec.specs.May.{MayStep}
use Rattle.mpb_robin.specs.declared.act.Act.{Act}
use Rattle.mpb_robin.specs.declared.act.Act.TheVariants as act
use Rattle.mpb_robin.specs.RoundRobin.{acts_of}

pub set_changes : {X : Type 0} (f : X → X) (n : ℕ) (xs : List X) (y z : X) → n < length xs → y ≡ f (get_or xs n z) → set xs n y ≡ change_at n f xs
set_changes f n [] y z l e = absurd (omega arith)
set_changes f zero (x ∷ xs) y z l e = ap (λ w. w ∷ xs) e
set_changes f (suc n) (x ∷ xs) y z l e = ap (λ ws. x ∷ ws) (set_changes f n xs y z (omega arith) e)

-- the same of what is seen of each member
pub map_changes : {V X : Type 0} (h : V → X) (f : X → X) (n : ℕ) (vs : List V) (w z : V) → n < length vs → h w ≡ f (h (get_or vs n z)) → map h (set vs n w) ≡ change_at n f (map h vs)
map_changes h f n [] w z l e = absurd (omega arith)
map_changes h f zero (v ∷ vs) w z l e = ap (λ y. y ∷ map h vs) e
map_changes h f (suc n) (v ∷ vs) w z l e = ap (λ ys. h v ∷ ys) (map_changes h f n vs w z (omega arith) e)

pub map_at : {V X : Type 0} (h : V → X) (n : ℕ) (vs : List V) (v : V) (z : X) → n < length vs → get_or (map h vs) n z ≡ h (get_or vs n v)
map_at h n [] v z l = absurd (omega arith)
map_at h zero (w ∷ vs) v z l = refl
map_at h (suc n) (w ∷ vs) v z l = map_at h n vs v z (omega arith)

-- ---- room

-- what is seen of a member has grown, so that of each member is as large as before
pub all_as_large : {V : Type 0} (h : V → ℕ) (n : ℕ) (vs : List V) (w z : V) → h (get_or vs n z) ≤ h w → (d : ℕ) → get_or (map h vs) d 0 ≤ get_or (map h (set vs n w)) d 0
all_as_large h n [] w z l d = omega arith
all_as_large h zero (v ∷ vs) w z l zero = l
all_as_large h zero (v ∷ vs) w z l (suc d) = omega arith
all_as_large h (suc n) (v ∷ vs) w z l zero = omega arith
all_as_large h (suc n) (v ∷ vs) w z l (suc d) = all_as_large h n vs w z l d

-- the length of a member of a list of lists
pub length_at : {X : Type 0} (d : ℕ) (xs : List (List X)) → get_or (map (λ x. length x) xs) d 0 ≡ length (get_or xs d [])
length_at d [] = refl
length_at zero (x ∷ xs) = refl
length_at (suc d) (x ∷ xs) = length_at d xs

-- the lengths of members, and of the lists that they show
pub lengths : {X Y : Type 0} (items : Y → List X) (ys : List Y) → map (λ x. length x) (map items ys) ≡ map (λ y. length (items y)) ys
lengths items [] = refl
lengths items (y ∷ ys) = ap (λ l. length (items y) ∷ l) (lengths items ys)

-- ---- acts

word_at : (ws : List DevWord) (k : ℕ) (w : DevWord) → k < length ws → slice_get (map act.Word ws ++ act.End ∷ []) k ≡ Some (act.Word (get_or ws k w))
word_at [] k w l = absurd (omega arith)
word_at (v ∷ ws) zero w l = refl
word_at (v ∷ ws) (suc k) w l = word_at ws k w (omega arith)

pub word_is : (ws : List DevWord) (made : ℕ) (w : DevWord) → 0 < made → made ≤ length ws → Some (act.Word (get_or ws (made - 1) w)) ≡ slice_get (acts_of ws) made
word_is ws zero w some l = absurd (omega arith)
word_is ws (suc k) w some l = ap (λ j. Some (act.Word (get_or ws j w))) (omega arith) ∙ sym (word_at ws k w (omega arith))

end_at : (ws : List DevWord) (k : ℕ) → k ≡ length ws → slice_get (map act.Word ws ++ act.End ∷ []) k ≡ Some act.End
end_at [] zero e = refl
end_at [] (suc k) e = absurd (omega arith)
end_at (v ∷ ws) zero e = absurd (omega arith)
end_at (v ∷ ws) (suc k) e = end_at ws k (omega arith)

pub end_is : (ws : List DevWord) (made : ℕ) → 0 < made → made - 1 ≡ length ws → Some act.End ≡ slice_get (acts_of ws) made
end_is ws zero some e = absurd (omega arith)
end_is ws (suc k) some e = sym (end_at ws k (omega arith))

past_at : (ws : List DevWord) (k : ℕ) → length ws < k → slice_get (map act.Word ws ++ act.End ∷ []) k ≡ None
past_at [] zero l = absurd (omega arith)
past_at [] (suc k) l = refl
past_at (v ∷ ws) zero l = absurd (omega arith)
past_at (v ∷ ws) (suc k) l = past_at ws k (omega arith)

pub past_is : (ws : List DevWord) (made : ℕ) → 0 < made → length ws < made - 1 → ◌≡◌ {A = Option Act} None (slice_get (acts_of ws) made)
past_is ws zero some l = absurd (omega arith)
past_is ws (suc k) some l = sym (past_at ws k (omega arith))

-- ---- asking

none_some : (o : Op) → None ≡ Some o → ⊥
none_some o e = cc

pub may_is : (s : BoardState) (g : Agent) (f : Offer) (b : Bool) → (IsTrue b ↔ MayStep s g f) → b ≡ is_some (next_op s g f)
may_is s g f b h = go b (next_op s g f) refl h where
  go : (b : Bool) (x : Option Op) → next_op s g f ≡ x → (IsTrue b ↔ MayStep s g f) → b ≡ is_some x
  go true (Some o) w h = refl
  go true None w h = absurd (let m = h.0 refl in none_some m.0 (sym w ∙ m.1))
  go false (Some o) w h = let t = h.1 (o, w) in cc
  go false None w h = refl
