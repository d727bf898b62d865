-- Every list of bytes is a PCI IRQ routing table, or has a first fault; and two first faults are one.
use Rattle.std.proofs.Common.{◌≡◌, ℕ, zero, suc, ◌+◌, ◌*◌, ◌-◌, ◌/◌, ◌%◌, ◌<◌, ◌≤◌, ◌⊎◌, List, [], ◌∷◌, length, sum, sym, refl, ap, ◌∙◌, inl, inr, arith}
use Rattle.std.specs.Prelude.{slice_index, codes}
use Rattle.std.proofs.lemmas.Bool.{cases_lt}
use Rattle.mpt_base.specs.Bytes.{part, number_at, SumsToZero}
use Rattle.mpt_laws.proofs.EntryJudgment.{Decided, decided-eq, decided-list}
use Rattle.mpf_pir.specs.declared.table.Slot.{Slot}
use Rattle.mpf_pir.specs.declared.table.PirReason.{PirReason}
use Rattle.mpf_pir.specs.declared.table.PirReason.TheVariants as why
use Rattle.mpf_pir.specs.Layout.{IsSlotAt, AreSlots}
use Rattle.mpf_pir.specs.Faults.{pir_reason_number, HasPirFaultAt, pir_fault_order, IsFirstPirFault}
use Rattle.mpf_laws.specs.Laws.{HasPir, HasFirstPirFault}

-- the slot at a place
slot_at : List ℕ → ℕ → Slot
slot_at bytes at = record {
  bus = slice_index bytes at;
  device = slice_index bytes (at + 1);
  links = slice_index bytes (at + 2) ∷ slice_index bytes (at + 5) ∷ slice_index bytes (at + 8) ∷ slice_index bytes (at + 11) ∷ [];
  irqs = number_at 2 bytes (at + 3) ∷ number_at 2 bytes (at + 6) ∷ number_at 2 bytes (at + 9) ∷ number_at 2 bytes (at + 12) ∷ [];
  number = slice_index bytes (at + 14);
  reserved = slice_index bytes (at + 15);
}

slot_at-there : (bytes : List ℕ) (at : ℕ) → IsSlotAt (slot_at bytes at) bytes at
unfolding slot_at
slot_at-there bytes at = record { bus = refl; device = refl; links = refl; irqs = refl; number = refl; reserved = refl }

-- so many slots from a place on
slots_from : (n : ℕ) (bytes : List ℕ) (from to : ℕ) → from + 16 * n ≡ to → (ss : List Slot) × AreSlots ss bytes from to
slots_from zero bytes from to e = ([], omega arith)
slots_from (suc n) bytes from to e =
    let rest = slots_from n bytes (from + 16) to (omega arith) in
    (slot_at bytes from ∷ rest.0, (slot_at-there bytes from, rest.1))

-- no fault is before this one
none_before_short : (bytes : List ℕ) (j : ℕ) (w : PirReason) → HasPirFaultAt bytes j w → pir_fault_order 0 why.Short ≤ pir_fault_order j w
none_before_short bytes j why.Short h = omega arith
none_before_short bytes j why.BadSignature h = omega arith
none_before_short bytes j why.BadVersion h = omega arith
none_before_short bytes j why.BadSize h = omega arith
none_before_short bytes j why.BadSum h = omega arith

pub none_before_signature : (bytes : List ℕ) → 32 ≤ length bytes → (j : ℕ) (w : PirReason) → HasPirFaultAt bytes j w → pir_fault_order 0 why.BadSignature ≤ pir_fault_order j w
none_before_signature bytes l j why.Short h = absurd (omega (arith, h.1))
none_before_signature bytes l j why.BadSignature h = omega arith
none_before_signature bytes l j why.BadVersion h = omega arith
none_before_signature bytes l j why.BadSize h = omega arith
none_before_signature bytes l j why.BadSum h = omega arith

none_before_version : (bytes : List ℕ) → 32 ≤ length bytes → part bytes 0 4 ≡ codes "$PIR" → (j : ℕ) (w : PirReason) → HasPirFaultAt bytes j w → pir_fault_order 4 why.BadVersion ≤ pir_fault_order j w
none_before_version bytes l g j why.Short h = absurd (omega (arith, h.1))
none_before_version bytes l g j why.BadSignature h = absurd (h.2 g)
none_before_version bytes l g j why.BadVersion h = omega (arith, h.0)
none_before_version bytes l g j why.BadSize h = omega (arith, h.0)
none_before_version bytes l g j why.BadSum h = omega (arith, h.0)

none_before_size : (bytes : List ℕ) → 32 ≤ length bytes → part bytes 0 4 ≡ codes "$PIR" → part bytes 4 2 ≡ 0 ∷ 1 ∷ [] → (j : ℕ) (w : PirReason) → HasPirFaultAt bytes j w → pir_fault_order 6 why.BadSize ≤ pir_fault_order j w
none_before_size bytes l g v j why.Short h = absurd (omega (arith, h.1))
none_before_size bytes l g v j why.BadSignature h = absurd (h.2 g)
none_before_size bytes l g v j why.BadVersion h = absurd (h.2 v)
none_before_size bytes l g v j why.BadSize h = omega (arith, h.0)
none_before_size bytes l g v j why.BadSum h = omega (arith, h.0)

-- a header whose size is right
record HasSizedHeader (bytes : List ℕ) : Type 0 where
  whole : 32 ≤ length bytes
  signature : part bytes 0 4 ≡ codes "$PIR"
  version : part bytes 4 2 ≡ 0 ∷ 1 ∷ []
  multiple : number_at 2 bytes 6 % 16 ≡ 0
  size : number_at 2 bytes 6 ≡ length bytes

none_before_sum : (bytes : List ℕ) → HasSizedHeader bytes → (j : ℕ) (w : PirReason) → HasPirFaultAt bytes j w → pir_fault_order 31 why.BadSum ≤ pir_fault_order j w
none_before_sum bytes s j why.Short h = absurd (omega (arith, s.whole, h.1))
none_before_sum bytes s j why.BadSignature h = absurd (h.2 s.signature)
none_before_sum bytes s j why.BadVersion h = absurd (h.2 s.version)
none_before_sum bytes s j why.BadSize (e, w, inl h) = absurd (h s.multiple)
none_before_sum bytes s j why.BadSize (e, w, inr h) = absurd (h s.size)
none_before_sum bytes s j why.BadSum h = omega (arith, h.0)

-- bytes of a multiple of 16 that are no fewer than 32 are a header and slots
slot_count : (n : ℕ) → 32 ≤ n → n % 16 ≡ 0 → (k : ℕ) × (32 + 16 * k ≡ n)
slot_count n l m = (n / 16 - 2, omega arith)

whole_table : (bytes : List ℕ) → HasSizedHeader bytes → SumsToZero bytes → HasPir bytes
whole_table bytes s c =
    let count = slot_count (length bytes) s.whole (ap (λ n. n % 16) (sym s.size) ∙ s.multiple) in
    let slots = slots_from count.0 bytes 32 (length bytes) count.1 in (
      record {
        router_bus = slice_index bytes 8;
        router_function = slice_index bytes 9;
        exclusive = number_at 2 bytes 10;
        compatible = number_at 4 bytes 12;
        miniport = number_at 4 bytes 16;
        reserved = part bytes 20 11;
        slots = slots.0;
      },
      record {
        header = record { signature = s.signature; version = s.version; size = s.size; router_bus = refl; router_function = refl; exclusive = refl; compatible = refl; miniport = refl; reserved = refl };
        checksum = c;
        slots = slots.1;
      },
    )

-- every list of bytes is a table, or has a first fault
pub pir-judged : (bytes : List ℕ) → HasPir bytes ⊎ HasFirstPirFault bytes
pir-judged bytes = by_whole (cases_lt (length bytes) 32)
  where
    by_sum : HasSizedHeader bytes → Decided (sum bytes % 256 ≡ 0) → HasPir bytes ⊎ HasFirstPirFault bytes
    by_sum s (inl c) = inl (whole_table bytes s c)
    by_sum s (inr n) = inr (31, why.BadSum, record { stands = (refl, s.whole, n); least = none_before_sum bytes s })

    by_size : 32 ≤ length bytes → part bytes 0 4 ≡ codes "$PIR" → part bytes 4 2 ≡ 0 ∷ 1 ∷ [] → Decided (number_at 2 bytes 6 % 16 ≡ 0) → Decided (number_at 2 bytes 6 ≡ length bytes) → HasPir bytes ⊎ HasFirstPirFault bytes
    by_size l g v (inr n) _ = inr (6, why.BadSize, record { stands = (refl, l, inl n); least = none_before_size bytes l g v })
    by_size l g v (inl m) (inr n) = inr (6, why.BadSize, record { stands = (refl, l, inr n); least = none_before_size bytes l g v })
    by_size l g v (inl m) (inl e) = by_sum (record { whole = l; signature = g; version = v; multiple = m; size = e }) (decided-eq (sum bytes % 256) 0)

    by_version : 32 ≤ length bytes → part bytes 0 4 ≡ codes "$PIR" → Decided (part bytes 4 2 ≡ 0 ∷ 1 ∷ []) → HasPir bytes ⊎ HasFirstPirFault bytes
    by_version l g (inr n) = inr (4, why.BadVersion, record { stands = (refl, l, n); least = none_before_version bytes l g })
    by_version l g (inl v) = by_size l g v (decided-eq (number_at 2 bytes 6 % 16) 0) (decided-eq (number_at 2 bytes 6) (length bytes))

    by_signature : 32 ≤ length bytes → Decided (part bytes 0 4 ≡ codes "$PIR") → HasPir bytes ⊎ HasFirstPirFault bytes
    by_signature l (inr n) = inr (0, why.BadSignature, record { stands = (refl, l, n); least = none_before_signature bytes l })
    by_signature l (inl g) = by_version l g (decided-list (part bytes 4 2) (0 ∷ 1 ∷ []))

    by_whole : (length bytes < 32) ⊎ (32 ≤ length bytes) → HasPir bytes ⊎ HasFirstPirFault bytes
    by_whole (inl short) = inr (0, why.Short, record { stands = (refl, short); least = none_before_short bytes })
    by_whole (inr l) = by_signature l (decided-list (part bytes 0 4) (codes "$PIR"))

-- two faults at one order are one
number_low : (w : PirReason) → (31 ≤ pir_reason_number w) × (pir_reason_number w < 64)
number_low why.Short = (omega arith, omega arith)
number_low why.BadSignature = (omega arith, omega arith)
number_low why.BadVersion = (omega arith, omega arith)
number_low why.BadSize = (omega arith, omega arith)
number_low why.BadSum = (omega arith, omega arith)

order_place : (k j : ℕ) (w v : PirReason) → pir_fault_order k w ≡ pir_fault_order j v → (k ≡ j) × (pir_reason_number w ≡ pir_reason_number v)
order_place k j w v e = (omega (arith, number_low w, number_low v), omega (arith, number_low w, number_low v))

number_one : (w v : PirReason) → pir_reason_number w ≡ pir_reason_number v → w ≡ v
number_one why.Short why.Short e = refl
number_one why.BadSignature why.BadSignature e = refl
number_one why.BadVersion why.BadVersion e = refl
number_one why.BadSize why.BadSize e = refl
number_one why.BadSum why.BadSum e = refl
number_one _ _ e = absurd (omega arith)

pub IsFirstPirFault-unique : (bytes : List ℕ) (k j : ℕ) (w v : PirReason) → IsFirstPirFault bytes k w → IsFirstPirFault bytes j v → (k ≡ j) × (w ≡ v)
IsFirstPirFault-unique bytes k j w v f g =
    let up = f.least j v g.stands in
    let down = g.least k w f.stands in
    let e = order_place k j w v (omega arith) in
    (e.0, number_one w v e.1)
