-- The processor with an id, and what stands at an index.
use Rattle.std.proofs.Common.{◌≡◌, ◌==◌, ℕ, zero, suc, ◌<◌, ◌≤◌, Bool, true, false, cond, List, [], ◌∷◌, length, get_or, set, refl, sym, ap, arith, Option, Some, None, slice_get, option_map}
use Rattle.mpb_spec.specs.State.{Processor, processor_of, place_of, change_processor, change_at}

-- found at a place: it is there, and a write there changes it
pub record IsFound (id : ℕ) (ps : List Processor) (i : ℕ) : Type 0 where
  pub within : i < length ps
  pub here : (d : Processor) → processor_of id ps ≡ Some (get_or ps i d)
  pub changed : (f : Processor → Processor) (d y : Processor) → y ≡ f (get_or ps i d) → set ps i y ≡ change_processor id f ps

pub found : (id : ℕ) (ps : List Processor) (i : ℕ) → Some i ≡ place_of id ps → IsFound id ps i
found id [] i e = cc
found id (p ∷ ps) i e = go (p.id == id) (place_of id ps) refl refl e (λ j h. found id ps j h) where
  go : (b : Bool) (o : Option ℕ) → (p.id == id) ≡ b → place_of id ps ≡ o → Some i ≡ cond b (Some 0) (option_map suc o) → ((j : ℕ) → Some j ≡ place_of id ps → IsFound id ps j) → IsFound id (p ∷ ps) i
  go true o b w e rest =
      let zero_is : i ≡ 0 = cc in
      rw zero_is (record { within = omega arith; here = λ d. rw b refl; changed = λ f d y h. rw b (ap (λ (x : Processor). x ∷ ps) h) })
  go false None b w e rest = cc
  go false (Some j) b w e rest =
      let next : i ≡ suc j = cc in
      let r = rest j (sym w) in
      rw next (record {
        within = omega (arith, r.within);
        here = λ d. rw b (r.here d);
        changed = λ f d y h. rw b (ap (λ (l : List Processor). p ∷ l) (r.changed f d y h));
      })

-- found nowhere: there is none, and none changes
pub none_found : (id : ℕ) (ps : List Processor) → None ≡ place_of id ps → processor_of id ps ≡ None
none_found id [] e = refl
none_found id (p ∷ ps) e = go (p.id == id) (place_of id ps) refl refl e (none_found id ps) where
  go : (b : Bool) (o : Option ℕ) → (p.id == id) ≡ b → place_of id ps ≡ o → None ≡ cond b (Some 0) (option_map suc o) → (None ≡ place_of id ps → processor_of id ps ≡ None) → cond b (Some p) (processor_of id ps) ≡ None
  go true o b w e rest = cc
  go false None b w e rest = rest (sym w)
  go false (Some j) b w e rest = cc

pub none_changed : (id : ℕ) (f : Processor → Processor) (ps : List Processor) → None ≡ place_of id ps → ps ≡ change_processor id f ps
none_changed id f [] e = refl
none_changed id f (p ∷ ps) e = go (p.id == id) (place_of id ps) refl refl e (none_changed id f ps) where
  go : (b : Bool) (o : Option ℕ) → (p.id == id) ≡ b → place_of id ps ≡ o → None ≡ cond b (Some 0) (option_map suc o) → (None ≡ place_of id ps → ps ≡ change_processor id f ps) → p ∷ ps ≡ cond b (f p ∷ ps) (p ∷ change_processor id f ps)
  go true o b w e rest = cc
  go false None b w e rest = ap (λ (l : List Processor). p ∷ l) (rest (sym w))
  go false (Some j) b w e rest = cc

-- what stands at an index: a write there changes it
pub changed_at : {X : Type 0} (n : ℕ) (f : X → X) (xs : List X) (d y : X) → n < length xs → y ≡ f (get_or xs n d) → set xs n y ≡ change_at n f xs
changed_at n f [] d y lt e = absurd (omega arith)
changed_at zero f (x ∷ xs) d y lt e = ap (λ z. z ∷ xs) e
changed_at {X = X} (suc n) f (x ∷ xs) d y lt e = ap (λ (l : List X). x ∷ l) (changed_at n f xs d y (omega arith) e)

pub changed_beyond : {X : Type 0} (n : ℕ) (f : X → X) (xs : List X) → length xs ≤ n → xs ≡ change_at n f xs
changed_beyond n f [] le = refl
changed_beyond zero f (x ∷ xs) le = absurd (omega arith)
changed_beyond {X = X} (suc n) f (x ∷ xs) le = ap (λ (l : List X). x ∷ l) (changed_beyond n f xs (omega arith))

pub got_at : {X : Type 0} (n : ℕ) (xs : List X) (d : X) → n < length xs → slice_get xs n ≡ Some (get_or xs n d)
got_at n [] d lt = absurd (omega arith)
got_at zero (x ∷ xs) d lt = refl
got_at (suc n) (x ∷ xs) d lt = got_at n xs d (omega arith)

pub got_beyond : {X : Type 0} (n : ℕ) (xs : List X) → length xs ≤ n → slice_get xs n ≡ None
got_beyond n [] le = refl
got_beyond zero (x ∷ xs) le = absurd (omega arith)
got_beyond (suc n) (x ∷ xs) le = got_beyond n xs (omega arith)

pub got_within : {X : Type 0} (n : ℕ) (xs : List X) (x : X) → slice_get xs n ≡ Some x → n < length xs
got_within n [] x e = cc
got_within zero (y ∷ xs) x e = omega arith
got_within (suc n) (y ∷ xs) x e = omega (arith, got_within n xs x e)
