-- The written bytes are the table.
use Rattle.std.proofs.Common.{refl, ◌≡◌, ◌≢◌, ℕ, ◌+◌, ◌*◌, ◌^◌, ◌<◌, ◌≤◌, List, [], ◌∷◌, ◌++◌, length, take, drop, set, get_or, sym, ap, ◌∙◌, subst, arith, length-append, length-set}
use Rattle.std.specs.Prelude.{slice_index}
use Rattle.std.proofs.lemmas.List.{take-append-le, take_all, get_or-set_other}
use Rattle.std.specs.Int.{to_le_bytes, w16}
use Rattle.mpt_base.specs.Bytes.{SumsToZero, number_at}
use Rattle.mpt_spec.proofs.ByteLemmas.{number_at-to_le_bytes_2}
use Rattle.mpf_pir.specs.declared.table.Pir.{Pir}
use Rattle.mpf_pir.specs.declared.table.Slot.{Slot}
use Rattle.mpf_pir.specs.Layout.{IsSlotAt, AreSlots, IsHeader, IsPir}
use Rattle.mpf_pir.specs.Spelling.{IsHeaderValue, IsSlotValue, IsOpenPir, header_bytes, slot_bytes}
use Rattle.mpf_pir.proofs.LayoutLemmas.{Agree, AreSlots-size, AreSlots-agree, IsHeader-agree, before-agree, behind-agree, header-written}

-- a list of four by its members
four : (xs : List ℕ) → length xs ≡ 4 → xs ≡ slice_index xs 0 ∷ slice_index xs 1 ∷ slice_index xs 2 ∷ slice_index xs 3 ∷ []
four [] h = absurd (omega arith)
four (a ∷ []) h = absurd (omega arith)
four (a ∷ b ∷ []) h = absurd (omega arith)
four (a ∷ b ∷ c ∷ []) h = absurd (omega arith)
four (a ∷ b ∷ c ∷ d ∷ []) h = refl
four (a ∷ b ∷ c ∷ d ∷ e ∷ xs) h = absurd (omega arith)

-- the written slot is the slot
pub slot-written : (s : Slot) → IsSlotValue s → IsSlotAt s (slot_bytes s) 0
slot-written s v =
    let two : (pin : ℕ) → slice_index s.irqs pin ≡ number_at 2 (to_le_bytes w16 (slice_index s.irqs pin)) 0 =
    λ pin. sym (number_at-to_le_bytes_2 (slice_index s.irqs pin) (v.small pin)) in
    record {
      bus = refl;
      device = refl;
      links = four s.links v.links;
      irqs = four s.irqs v.irqs ∙ (λ i. two 0 i ∷ two 1 i ∷ two 2 i ∷ two 3 i ∷ []);
      number = refl;
      reserved = refl;
    }

-- the header, a place for the checksum, and the slots
pub opened : (t : Pir) (total : ℕ) (body : List ℕ) → length t.slots ≤ 4093 → total ≡ 32 + 16 * length t.slots → IsHeaderValue t → length body ≡ 16 * length t.slots → AreSlots t.slots body 0 (length body)
    → IsOpenPir t ((header_bytes t total ++ 0 ∷ []) ++ body)
opened t total body few size v long slots =
    let small : total < 2 ^ 16 = omega arith in
    let head = header-written t total small v in
    let front : List ℕ = header_bytes t total ++ 0 ∷ [] in
    let all : List ℕ = front ++ body in
    let head_long : length (header_bytes t total) ≡ 31 = head.1 in
    let front_long : length front ≡ 32 = omega (arith, length-append (header_bytes t total) (0 ∷ [])) in
    let whole : length all ≡ 32 + length body = omega (arith, length-append front body) in
    let named : total ≡ length all = omega arith in
    let in_front : IsHeader t total front =
    IsHeader-agree (header_bytes t total) front t total (subst (λ n. Agree (header_bytes t total) front 0 0 n) head_long (before-agree (header_bytes t total) (0 ∷ []))) (omega arith) (omega arith) head.0 in
    let in_all : IsHeader t total all = IsHeader-agree front all t total (λ i l u. before-agree front body i l (omega arith)) (omega arith) (omega arith) in_front in
    record {
      header = subst (λ n. IsHeader t n all) named in_all;
      slots = AreSlots-agree body all 32 0 (length body) 32 (length all) t.slots (behind-agree front body 32 0 (length body) (sym front_long)) (omega arith) whole slots;
    }

-- and a checksum in its place
pub sealed : (t : Pir) (bytes : List ℕ) (c : ℕ) → IsOpenPir t bytes → SumsToZero (set bytes 31 c) → IsPir t (set bytes 31 c)
sealed t bytes c h s =
    let size : 32 + 16 * length t.slots ≡ length bytes = AreSlots-size t.slots bytes 32 (length bytes) h.slots in
    let long : length (set bytes 31 c) ≡ length bytes = length-set bytes 31 c in
    let other : (i : ℕ) → i ≢ 31 → slice_index bytes i ≡ slice_index (set bytes 31 c) (0 + i) =
    λ i n. let same : 0 + i ≡ i = omega arith in sym (ap (λ m. get_or (set bytes 31 c) m 0) same ∙ get_or-set_other bytes 31 i c 0 n) in
    record {
      header = subst (λ n. IsHeader t n (set bytes 31 c)) (sym long) (IsHeader-agree bytes (set bytes 31 c) t (length bytes) (λ i l u. other i (λ (e : i ≡ 31). omega arith)) (omega arith) (omega arith) h.header);
      checksum = s;
      slots = AreSlots-agree bytes (set bytes 31 c) 0 32 (length bytes) 32 (length (set bytes 31 c)) t.slots (λ i l u. other i (λ (e : i ≡ 31). omega arith)) (omega arith) (omega arith) h.slots;
    }

-- what was written through a slice of a whole vector is what the vector has
pub written_back : (len : ℕ) (new items : List ℕ) → len ≡ length items → length new ≡ length items → take len (new ++ drop (length new) items) ≡ new
written_back len new items h k =
    let low : len ≤ length new = omega arith in
    let same : len ≡ length new = omega arith in
    take-append-le len new (drop (length new) items) low ∙ take_all len new (omega arith)
