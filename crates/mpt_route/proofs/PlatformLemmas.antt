-- The first bus with each id, one more bus at a time.
use Rattle.std.proofs.Common.{◌≡◌, ℕ, ◌+◌, ◌<◌, Bool, true, false, cond, List, [], ◌∷◌, ◌++◌, length, map, append-nil, take, get_or, set, replicate, sym, refl, ap, ◌∙◌, arith}
use Rattle.std.specs.Prelude.{Option, Some, None, ◌==◌, if◌then◌else◌, find, option_map, is_some, filter}
use Rattle.std.specs.List.{range_with_len}
use Rattle.std.specs.Option.{option_or}
use Rattle.std.proofs.lemmas.List.{take_more, get_or-replicate}
use Rattle.std.proofs.Math.ListN.{length-set, length-replicate}
use Rattle.std.proofs.lemmas.List.Folds.{find-append}
use Rattle.mpt_spec.specs.declared.entry.Bus.{Bus}
use Rattle.mpt_spec.specs.declared.entry.IntEntry.{IntEntry}
use Rattle.mpt_route.specs.Defaults.{interrupt, int_row, is_connected}
use Rattle.mpt_route.specs.declared.bus.BusKind.{BusKind}
use Rattle.mpt_route.specs.Sense.{bus_kind_of}
use Rattle.mpt_route.specs.Routes.{bus_kind_in}
use Rattle.mpt_route.specs.Index.{IsTableOf}
use Rattle.mpt_route.proofs.ListLemmas.{set_first, keep_first, chosen_more}

pub bus_more : (bs : List Bus) (i id : ℕ) (d : Bus) → i < length bs → bus_kind_in (take (i + 1) bs) id ≡ option_or (bus_kind_in (take i bs) id) (if (get_or bs i d).id == id then Some (bus_kind_of (get_or bs i d).name) else None)
bus_more bs i id d l =
    ap (λ (xs : List Bus). bus_kind_in xs id) (take_more bs i d l)
    ∙ ap (option_map (λ (b : Bus). bus_kind_of b.name)) (find-append (λ (b : Bus). b.id == id) (take i bs) (get_or bs i d ∷ []))
    ∙ cases (find (λ (b : Bus). b.id == id) (take i bs)) ((get_or bs i d).id == id) (get_or bs i d)
  where
    cases : (o : Option Bus) (t : Bool) (x : Bus) → option_map (λ (b : Bus). bus_kind_of b.name) (option_or o (cond t (Some x) None)) ≡ option_or (option_map (λ (b : Bus). bus_kind_of b.name) o) (cond t (Some (bus_kind_of x.name)) None)
    cases None true x = refl
    cases None false x = refl
    cases (Some y) t x = refl

-- the first bus with an id is noted
pub notes_bus : (t new : List (Option BusKind)) (bs : List Bus) (i k : ℕ) (d : Bus) (y : BusKind) → i < length bs → k ≡ (get_or bs i d).id → y ≡ bus_kind_of (get_or bs i d).name → k < 256 → get_or t k None ≡ None
    → new ≡ set t k (Some y) → IsTableOf 256 t (bus_kind_in (take i bs)) → IsTableOf 256 new (bus_kind_in (take (i + 1) bs))
notes_bus t new bs i k d y l ke ye small none ne h = record {
  whole = ap length ne ∙ length-set t k (Some y) ∙ h.whole;
  members = λ id s. ap (λ (xs : List (Option BusKind)). get_or xs id None) ne ∙ set_first t k id y (let w : length t ≡ 256 = h.whole in omega arith) none
      ∙ ap (λ (o : Option BusKind). option_or o (if k == id then Some y else None)) (h.members id s)
      ∙ ap (λ (j : ℕ). option_or (bus_kind_in (take i bs) id) (if j == id then Some y else None)) ke
      ∙ ap (λ (z : BusKind). option_or (bus_kind_in (take i bs) id) (if (get_or bs i d).id == id then Some z else None)) ye
      ∙ sym (bus_more bs i id d l);
}

-- a later one changes nothing
pub keeps_bus : (t new : List (Option BusKind)) (bs : List Bus) (i k : ℕ) (d : Bus) (z : BusKind) → i < length bs → k ≡ (get_or bs i d).id → get_or t k None ≡ Some z
    → new ≡ t → IsTableOf 256 t (bus_kind_in (take i bs)) → IsTableOf 256 new (bus_kind_in (take (i + 1) bs))
keeps_bus t new bs i k d z l ke there ne h = record {
  whole = ap length ne ∙ h.whole;
  members = λ id s. ap (λ (xs : List (Option BusKind)). get_or xs id None) ne ∙ keep_first t k id (bus_kind_of (get_or bs i d).name) z there
      ∙ ap (λ (o : Option BusKind). option_or o (if k == id then Some (bus_kind_of (get_or bs i d).name) else None)) (h.members id s)
      ∙ ap (λ (j : ℕ). option_or (bus_kind_in (take i bs) id) (if j == id then Some (bus_kind_of (get_or bs i d).name) else None)) ke
      ∙ sym (bus_more bs i id d l);
}

-- an empty table, before the first bus
pub no_bus : (t : List (Option BusKind)) → t ≡ replicate 256 None → IsTableOf 256 t (bus_kind_in [])
no_bus t e = record {
  whole = ap length e ∙ length-replicate {A = Option BusKind} 256 None;
  members = λ id s. ap (λ (xs : List (Option BusKind)). get_or xs id None) e ∙ get_or-replicate 256 id None None s;
}

pub none_of : {X : Type 0} (o : Option X) → is_some o ≡ false → o ≡ None
none_of None h = refl
none_of (Some x) h = absurd (cc)

pub some_of : {X : Type 0} (o : Option X) → is_some o ≡ true → (x : X) × (o ≡ Some x)
some_of None h = absurd (cc)
some_of (Some x) h = (x, refl)

-- the INT rows of the IRQs below one more
pub int_grows : (n i : ℕ) (old new : List IntEntry) (r : IntEntry) → is_connected n i ≡ true → r ≡ int_row i → old ≡ interrupt 3 0 2 0 ∷ map int_row (filter (is_connected n) (range_with_len 0 i))
    → new ≡ old ++ r ∷ [] → new ≡ interrupt 3 0 2 0 ∷ map int_row (filter (is_connected n) (range_with_len 0 (i + 1)))
int_grows n i old new r t re was now =
    now ∙ ap (λ (xs : List IntEntry). xs ++ r ∷ []) was ∙ ap (λ (x : IntEntry). (interrupt 3 0 2 0 ∷ map int_row (filter (is_connected n) (range_with_len 0 i))) ++ x ∷ []) re
    ∙ ap (λ (xs : List IntEntry). interrupt 3 0 2 0 ∷ xs) (sym (chosen_more int_row (is_connected n) i ∙ ap (λ (b : Bool). map int_row (filter (is_connected n) (range_with_len 0 i)) ++ cond b (int_row i ∷ []) []) t))

pub int_passes : (n i : ℕ) (old new : List IntEntry) → is_connected n i ≡ false → old ≡ interrupt 3 0 2 0 ∷ map int_row (filter (is_connected n) (range_with_len 0 i))
    → new ≡ old → new ≡ interrupt 3 0 2 0 ∷ map int_row (filter (is_connected n) (range_with_len 0 (i + 1)))
int_passes n i old new t was now =
    now ∙ was
    ∙ ap (λ (xs : List IntEntry). interrupt 3 0 2 0 ∷ xs) (sym (chosen_more int_row (is_connected n) i ∙ ap (λ (b : Bool). map int_row (filter (is_connected n) (range_with_len 0 i)) ++ cond b (int_row i ∷ []) []) t ∙ append-nil (map int_row (filter (is_connected n) (range_with_len 0 i)))))
