-- A table has one spelling in bytes.
use Rattle.std.proofs.Common.{◌≡◌, ℕ, zero, suc, ◌+◌, ◌*◌, ◌-◌, ◌%◌, ◌<◌, ◌≤◌, ◌⊎◌, List, [], ◌∷◌, length, set, sum, get_or, sym, refl, ap, ◌∙◌, subst, inl, inr, arith, length-set}
use Rattle.std.specs.Prelude.{slice_index}
use Rattle.std.proofs.lemmas.Bool.{cases_lt}
use Rattle.std.proofs.lemmas.List.{get_or-set_same, get_or-set_other}
use Rattle.std.proofs.lemmas.List.Sums.{sum_by-set}
use Rattle.std.proofs.lemmas.Grind.{same_number_lists}
use Rattle.mpt_base.specs.Bytes.{part, number_at, SumsToZero, IsByteList}
use Rattle.mpt_spec.proofs.CallerLemmas.{slice_index-part}
use Rattle.mpf_pir.specs.declared.table.Slot.{Slot}
use Rattle.mpf_pir.specs.declared.table.Pir.{Pir}
use Rattle.mpf_pir.specs.Layout.{IsSlotAt, AreSlots, IsHeader, IsPir}
use Rattle.mpf_pir.proofs.LayoutLemmas.{AreSlots-size}

-- the low byte of two equal numbers, and what is above it
low : (x y m n : ℕ) → x < 256 → y < 256 → x + 256 * m ≡ y + 256 * n → x ≡ y
low x y m n h k e = omega arith

high : (x y m n : ℕ) → x < 256 → y < 256 → x + 256 * m ≡ y + 256 * n → m ≡ n
high x y m n h k e = omega arith

-- a byte that completes a sum
last : (s t x y : ℕ) → s + x ≡ t + y → s % 256 ≡ 0 → t % 256 ≡ 0 → x < 256 → y < 256 → y ≡ x
last s t x y e p q h k = omega arith

split : (i k : ℕ) → i ≤ k → (k ≡ i) ⊎ (suc i ≤ k)
split i k l = grind arith

module _ (a b : List ℕ) (in_a : IsByteList a) (in_b : IsByteList b) where
  -- the same bytes from one place to before another
  abbrev Same : ℕ → ℕ → Type 0
  Same from to = (i : ℕ) → from ≤ i → i < to → slice_index a i ≡ slice_index b i

  join : (from mid to : ℕ) → Same from mid → Same mid to → Same from to
  join from mid to h k i l u = go (cases_lt i mid)
    where
      go : (i < mid) ⊎ (mid ≤ i) → slice_index a i ≡ slice_index b i
      go (inl q) = h i l q
      go (inr q) = k i q u

  same_byte : (i to : ℕ) → to ≡ i + 1 → slice_index a i ≡ slice_index b i → Same i to
  same_byte i to t e k l u = let here : k ≡ i = omega arith in subst (λ m. slice_index a m ≡ slice_index b m) (sym here) e

  same_number : (n i to : ℕ) → to ≡ i + n → number_at n a i ≡ number_at n b i → Same i to
  same_number zero i to t e k l u = absurd (omega arith)
  same_number (suc n) i to t e k l u =
      let rest : number_at n a (suc i) ≡ number_at n b (suc i) = high (slice_index a i) (slice_index b i) (number_at n a (suc i)) (number_at n b (suc i)) (in_a i) (in_b i) e in
      go (split i k l) (λ q. same_number n (suc i) to (omega arith) rest k q u)
    where
      go : (k ≡ i) ⊎ (suc i ≤ k) → (suc i ≤ k → slice_index a k ≡ slice_index b k) → slice_index a k ≡ slice_index b k
      go (inl q) later = subst (λ m. slice_index a m ≡ slice_index b m) (sym q) (low (slice_index a i) (slice_index b i) (number_at n a (suc i)) (number_at n b (suc i)) (in_a i) (in_b i) e)
      go (inr q) later = later q

  same_part : (n i to : ℕ) → to ≡ i + n → part a i n ≡ part b i n → Same i to
  same_part n i to t e k l u =
      let here : i + (k - i) ≡ k = omega arith in
      ap (λ m. slice_index a m) (sym here) ∙ sym (slice_index-part a i n (k - i) (omega arith)) ∙ ap (λ xs. slice_index xs (k - i)) e ∙ slice_index-part b i n (k - i) (omega arith) ∙ ap (λ m. slice_index b m) here

  same_slot : (s : Slot) (i : ℕ) → IsSlotAt s a i → IsSlotAt s b i → Same i (i + 16)
  same_slot s i h k =
      let link : (m : ℕ) → slice_index (slice_index a (i + 2) ∷ slice_index a (i + 5) ∷ slice_index a (i + 8) ∷ slice_index a (i + 11) ∷ []) m ≡ slice_index (slice_index b (i + 2) ∷ slice_index b (i + 5) ∷ slice_index b (i + 8) ∷ slice_index b (i + 11) ∷ []) m =
      λ m. ap (λ xs. slice_index xs m) (sym h.links ∙ k.links) in
      let irq : (m : ℕ) → slice_index (number_at 2 a (i + 3) ∷ number_at 2 a (i + 6) ∷ number_at 2 a (i + 9) ∷ number_at 2 a (i + 12) ∷ []) m ≡ slice_index (number_at 2 b (i + 3) ∷ number_at 2 b (i + 6) ∷ number_at 2 b (i + 9) ∷ number_at 2 b (i + 12) ∷ []) m =
      λ m. ap (λ xs. slice_index xs m) (sym h.irqs ∙ k.irqs) in
      join i (i + 1) (i + 16) (same_byte i (i + 1) refl (sym h.bus ∙ k.bus))
      (join (i + 1) (i + 2) (i + 16) (same_byte (i + 1) (i + 2) (omega arith) (sym h.device ∙ k.device))
      (join (i + 2) (i + 3) (i + 16) (same_byte (i + 2) (i + 3) (omega arith) (link 0))
      (join (i + 3) (i + 5) (i + 16) (same_number 2 (i + 3) (i + 5) (omega arith) (irq 0))
      (join (i + 5) (i + 6) (i + 16) (same_byte (i + 5) (i + 6) (omega arith) (link 1))
      (join (i + 6) (i + 8) (i + 16) (same_number 2 (i + 6) (i + 8) (omega arith) (irq 1))
      (join (i + 8) (i + 9) (i + 16) (same_byte (i + 8) (i + 9) (omega arith) (link 2))
      (join (i + 9) (i + 11) (i + 16) (same_number 2 (i + 9) (i + 11) (omega arith) (irq 2))
      (join (i + 11) (i + 12) (i + 16) (same_byte (i + 11) (i + 12) (omega arith) (link 3))
      (join (i + 12) (i + 14) (i + 16) (same_number 2 (i + 12) (i + 14) (omega arith) (irq 3))
      (join (i + 14) (i + 15) (i + 16) (same_byte (i + 14) (i + 15) (omega arith) (sym h.number ∙ k.number))
      (same_byte (i + 15) (i + 16) (omega arith) (sym h.reserved ∙ k.reserved))))))))))))

  same_slots : (ss : List Slot) (i to to_b : ℕ) → AreSlots ss a i to → AreSlots ss b i to_b → Same i to
  same_slots [] i to to_b h k = λ m l u. absurd (omega (arith, h))
  same_slots (s ∷ ss) i to to_b h k = join i (i + 16) to (same_slot s i h.0 k.0) (same_slots ss (i + 16) to to_b h.1 k.1)

  same_header : (t : Pir) (total : ℕ) → IsHeader t total a → IsHeader t total b → Same 0 31
  same_header t total h k =
      join 0 4 31 (same_part 4 0 4 refl (h.signature ∙ sym k.signature))
      (join 4 6 31 (same_part 2 4 6 refl (h.version ∙ sym k.version))
      (join 6 8 31 (same_number 2 6 8 refl (h.size ∙ sym k.size))
      (join 8 9 31 (same_byte 8 9 refl (sym h.router_bus ∙ k.router_bus))
      (join 9 10 31 (same_byte 9 10 refl (sym h.router_function ∙ k.router_function))
      (join 10 12 31 (same_number 2 10 12 refl (sym h.exclusive ∙ k.exclusive))
      (join 12 16 31 (same_number 4 12 16 refl (sym h.compatible ∙ k.compatible))
      (join 16 20 31 (same_number 4 16 20 refl (sym h.miniport ∙ k.miniport)) (same_part 11 20 31 refl (sym h.reserved ∙ k.reserved)))))))))

  -- all but one byte, and the sums
  same_whole : (at : ℕ) → length a ≡ length b → at < length a → Same 0 at → Same (suc at) (length a) → SumsToZero a → SumsToZero b → a ≡ b
  same_whole at long inside before after sum_a sum_b =
      let changed : List ℕ = set a at (slice_index b at) in
      let size : length changed ≡ length a = length-set a at (slice_index b at) in
      let whole : changed ≡ b = same_number_lists changed b (size ∙ long) (λ k l. go k (omega arith) (three k)) in
      let sums = sum_by-set (λ (x : ℕ). x) a at (slice_index b at) 0 inside in
      let total : sum changed ≡ sum b = ap sum whole in
      let here : slice_index b at ≡ slice_index a at = last (sum b) (sum a) (slice_index a at) (slice_index b at) (omega (arith, sums, total)) sum_b sum_a (in_a at) (in_b at) in
      same_number_lists a b long (λ k l. own k l here (three k))
    where
      three : (k : ℕ) → (k < at) ⊎ ((k ≡ at) ⊎ (suc at ≤ k))
      three k = grind arith

      go : (k : ℕ) → k < length a → (k < at) ⊎ ((k ≡ at) ⊎ (suc at ≤ k)) → get_or (set a at (slice_index b at)) k 0 ≡ get_or b k 0
      go k l (inl q) = get_or-set_other a at k (slice_index b at) 0 (λ (e : k ≡ at). omega arith) ∙ before k (omega arith) q
      go k l (inr (inl q)) = subst (λ m. get_or (set a at (slice_index b at)) m 0 ≡ get_or b m 0) (sym q) (get_or-set_same a at (slice_index b at) 0 inside)
      go k l (inr (inr q)) = get_or-set_other a at k (slice_index b at) 0 (λ (e : k ≡ at). omega arith) ∙ after k q l

      own : (k : ℕ) → k < length a → slice_index b at ≡ slice_index a at → (k < at) ⊎ ((k ≡ at) ⊎ (suc at ≤ k)) → get_or a k 0 ≡ get_or b k 0
      own k l e (inl q) = before k (omega arith) q
      own k l e (inr (inl q)) = subst (λ m. get_or a m 0 ≡ get_or b m 0) (sym q) (sym e)
      own k l e (inr (inr q)) = after k q l

-- bytes that are one table are the same bytes
pub IsPir-bytes_one : (t : Pir) (a b : List ℕ) → IsByteList a → IsByteList b → IsPir t a → IsPir t b → a ≡ b
IsPir-bytes_one t a b in_a in_b h k =
    let size_a : 32 + 16 * length t.slots ≡ length a = AreSlots-size t.slots a 32 (length a) h.slots in
    let size_b : 32 + 16 * length t.slots ≡ length b = AreSlots-size t.slots b 32 (length b) k.slots in
    let long : length a ≡ length b = sym size_a ∙ size_b in
    same_whole a b in_a in_b 31 long (omega arith) (same_header a b in_a in_b t (length a) h.header (subst (λ n. IsHeader t n b) (sym long) k.header))
    (same_slots a b in_a in_b t.slots 32 (length a) (length b) h.slots k.slots) h.checksum k.checksum
