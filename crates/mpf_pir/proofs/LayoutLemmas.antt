-- Where slots, a header and a table stand: in one way, also among other bytes.
use Rattle.std.proofs.Common.{◌≡◌, ℕ, zero, suc, ◌+◌, ◌*◌, ◌-◌, ◌^◌, ◌<◌, ◌≤◌, List, [], ◌∷◌, ◌++◌, length, get_or, sym, refl, ap, ◌∙◌, subst, arith}
use Rattle.std.specs.Prelude.{slice_index}
use Rattle.std.proofs.Math.ListN.{get_or-append}
use Rattle.std.proofs.lemmas.List.{get_or-append_right}
use Rattle.std.proofs.lemmas.Grind.{same_number_lists}
use Rattle.mpt_base.specs.Bytes.{part, number_at}
use Rattle.mpt_spec.proofs.ByteLemmas.{number_at-to_le_bytes_2, number_at-to_le_bytes_4, take_whole}
use Rattle.mpt_spec.proofs.CallerLemmas.{slice_index-part}
use Rattle.mpt_spec.proofs.SpellingLemmas.{length-part}
use Rattle.mpf_pir.specs.declared.table.Slot.{Slot}
use Rattle.mpf_pir.specs.declared.table.Pir.{Pir}
use Rattle.mpf_pir.specs.Layout.{IsSlotAt, AreSlots, IsHeader, IsPir}
use Rattle.mpf_pir.specs.Spelling.{IsHeaderValue, header_bytes}

-- slots end to end have 16 bytes each
pub AreSlots-size : (ss : List Slot) (bytes : List ℕ) (from to : ℕ) → AreSlots ss bytes from to → from + 16 * length ss ≡ to
AreSlots-size [] bytes from to h = omega (arith, h)
AreSlots-size (s ∷ ss) bytes from to h = omega (arith, AreSlots-size ss bytes (from + 16) to h.1)

-- one more at the end
pub AreSlots-push : (ss : List Slot) (s : Slot) (bytes : List ℕ) (from mid : ℕ) → AreSlots ss bytes from mid → IsSlotAt s bytes mid → AreSlots (ss ++ s ∷ []) bytes from (mid + 16)
AreSlots-push [] s bytes from mid h is = (subst (λ k. IsSlotAt s bytes k) (sym h) is, ap (λ k. k + 16) h)
AreSlots-push (x ∷ ss) s bytes from mid h is = (h.0, AreSlots-push ss s bytes (from + 16) mid h.1 is)

-- what stands at a place is one slot
pub IsSlotAt-one : (s u : Slot) (bytes : List ℕ) (at : ℕ) → IsSlotAt s bytes at → IsSlotAt u bytes at → s ≡ u
IsSlotAt-one s u bytes at a b = λ i. record {
  bus = (a.bus ∙ sym b.bus) i;
  device = (a.device ∙ sym b.device) i;
  links = (a.links ∙ sym b.links) i;
  irqs = (a.irqs ∙ sym b.irqs) i;
  number = (a.number ∙ sym b.number) i;
  reserved = (a.reserved ∙ sym b.reserved) i;
}

past : (from n to : ℕ) → from + 16 + 16 * n ≡ to → from ≡ to → ⊥
past from n to h e = omega arith

-- and between two places stands one list of slots
pub AreSlots-one : (ss us : List Slot) (bytes : List ℕ) (from to : ℕ) → AreSlots ss bytes from to → AreSlots us bytes from to → ss ≡ us
AreSlots-one [] [] bytes from to a b = refl
AreSlots-one [] (u ∷ us) bytes from to a b = absurd (past from (length us) to (AreSlots-size us bytes (from + 16) to b.1) a)
AreSlots-one (s ∷ ss) [] bytes from to a b = absurd (past from (length ss) to (AreSlots-size ss bytes (from + 16) to a.1) b)
AreSlots-one (s ∷ ss) (u ∷ us) bytes from to a b =
    let first : s ≡ u = IsSlotAt-one s u bytes from a.0 b.0 in
    let rest : ss ≡ us = AreSlots-one ss us bytes (from + 16) to a.1 b.1 in
    λ i. first i ∷ rest i

-- bytes are one table
pub IsPir-one : (t u : Pir) (bytes : List ℕ) → IsPir t bytes → IsPir u bytes → t ≡ u
IsPir-one t u bytes a b =
    let slots : t.slots ≡ u.slots = AreSlots-one t.slots u.slots bytes 32 (length bytes) a.slots b.slots in
    λ i. record {
      router_bus = (a.header.router_bus ∙ sym b.header.router_bus) i;
      router_function = (a.header.router_function ∙ sym b.header.router_function) i;
      exclusive = (a.header.exclusive ∙ sym b.header.exclusive) i;
      compatible = (a.header.compatible ∙ sym b.header.compatible) i;
      miniport = (a.header.miniport ∙ sym b.header.miniport) i;
      reserved = (a.header.reserved ∙ sym b.header.reserved) i;
      slots = slots i;
    }

-- two lists have the same members from one place to before another, the second k places further on
abbrev pub Agree : List ℕ → List ℕ → ℕ → ℕ → ℕ → Type 0
Agree a b k from to = (i : ℕ) → from ≤ i → i < to → slice_index a i ≡ slice_index b (k + i)

module _ (a b : List ℕ) (k from to : ℕ) (h : Agree a b k from to) where
  byte : (i j : ℕ) → from ≤ i → i < to → j ≡ k + i → slice_index a i ≡ slice_index b j
  byte i j l u e = h i l u ∙ ap (λ m. slice_index b m) (sym e)

  number : (n i j : ℕ) → from ≤ i → i + n ≤ to → j ≡ k + i → number_at n a i ≡ number_at n b j
  number zero i j l u e = refl
  number (suc n) i j l u e =
      let first : slice_index a i ≡ slice_index b j = byte i j l (omega arith) e in
      let rest : number_at n a (suc i) ≡ number_at n b (suc j) = number n (suc i) (suc j) (omega arith) (omega arith) (omega arith) in
      λ m. first m + 256 * rest m

  run : (n i j : ℕ) → from ≤ i → i + n ≤ to → j ≡ k + i → to ≤ length a → j + n ≤ length b → part a i n ≡ part b j n
  run n i j l u e w v =
      let long : length (part a i n) ≡ n = length-part a i n (omega arith) in
      let long_b : length (part b j n) ≡ n = length-part b j n v in
      same_number_lists (part a i n) (part b j n) (long ∙ sym long_b) (λ m q. slice_index-part a i n m (omega arith) ∙ byte (i + m) (j + m) (omega arith) (omega arith) (omega arith) ∙ sym (slice_index-part b j n m (omega arith)))

  -- a slot there stands in the other too
  slot : (s : Slot) (i j : ℕ) → from ≤ i → i + 16 ≤ to → j ≡ k + i → IsSlotAt s a i → IsSlotAt s b j
  slot s i j l u e is = record {
    bus = is.bus ∙ byte i j l (omega arith) e;
    device = is.device ∙ byte (i + 1) (j + 1) (omega arith) (omega arith) (omega arith);
    links = is.links ∙ (λ m. byte (i + 2) (j + 2) (omega arith) (omega arith) (omega arith) m ∷ byte (i + 5) (j + 5) (omega arith) (omega arith) (omega arith) m
        ∷ byte (i + 8) (j + 8) (omega arith) (omega arith) (omega arith) m ∷ byte (i + 11) (j + 11) (omega arith) (omega arith) (omega arith) m ∷ []);
    irqs = is.irqs ∙ (λ m. number 2 (i + 3) (j + 3) (omega arith) (omega arith) (omega arith) m ∷ number 2 (i + 6) (j + 6) (omega arith) (omega arith) (omega arith) m
        ∷ number 2 (i + 9) (j + 9) (omega arith) (omega arith) (omega arith) m ∷ number 2 (i + 12) (j + 12) (omega arith) (omega arith) (omega arith) m ∷ []);
    number = is.number ∙ byte (i + 14) (j + 14) (omega arith) (omega arith) (omega arith);
    reserved = is.reserved ∙ byte (i + 15) (j + 15) (omega arith) (omega arith) (omega arith);
  }

  slots_from : (ss : List Slot) (i j l m : ℕ) → from ≤ i → l ≤ to → j ≡ k + i → m ≡ k + l → AreSlots ss a i l → AreSlots ss b j m
  slots_from [] i j l m low high e f is = e ∙ ap (λ x. k + x) is ∙ sym f
  slots_from (s ∷ ss) i j l m low high e f is =
      let size : i + 16 + 16 * length ss ≡ l = AreSlots-size ss a (i + 16) l is.1 in
      (slot s i j low (omega arith) e is.0, slots_from ss (i + 16) (j + 16) l m (omega arith) high (omega arith) f is.1)

-- slots among bytes that agree
pub AreSlots-agree : (a b : List ℕ) (k from to from_b to_b : ℕ) (ss : List Slot) → Agree a b k from to → from_b ≡ k + from → to_b ≡ k + to → AreSlots ss a from to → AreSlots ss b from_b to_b
AreSlots-agree a b k from to from_b to_b ss h e f is = slots_from a b k from to h ss from from_b to to_b (omega arith) (omega arith) e f is

pub IsSlotAt-agree : (a b : List ℕ) (k from to from_b : ℕ) (s : Slot) → Agree a b k from to → from + 16 ≤ to → from_b ≡ k + from → IsSlotAt s a from → IsSlotAt s b from_b
IsSlotAt-agree a b k from to from_b s h l e is = slot a b k from to h s from from_b (omega arith) l e is

-- a header among bytes that begin alike
pub IsHeader-agree : (a b : List ℕ) (t : Pir) (total : ℕ) → Agree a b 0 0 31 → 31 ≤ length a → 31 ≤ length b → IsHeader t total a → IsHeader t total b
IsHeader-agree a b t total h la lb is = record {
  signature = sym (run a b 0 0 31 h 4 0 0 (omega arith) (omega arith) refl la (omega arith)) ∙ is.signature;
  version = sym (run a b 0 0 31 h 2 4 4 (omega arith) (omega arith) refl la (omega arith)) ∙ is.version;
  size = sym (number a b 0 0 31 h 2 6 6 (omega arith) (omega arith) refl) ∙ is.size;
  router_bus = is.router_bus ∙ byte a b 0 0 31 h 8 8 (omega arith) (omega arith) refl;
  router_function = is.router_function ∙ byte a b 0 0 31 h 9 9 (omega arith) (omega arith) refl;
  exclusive = is.exclusive ∙ number a b 0 0 31 h 2 10 10 (omega arith) (omega arith) refl;
  compatible = is.compatible ∙ number a b 0 0 31 h 4 12 12 (omega arith) (omega arith) refl;
  miniport = is.miniport ∙ number a b 0 0 31 h 4 16 16 (omega arith) (omega arith) refl;
  reserved = is.reserved ∙ run a b 0 0 31 h 11 20 20 (omega arith) (omega arith) refl la (omega arith);
}

-- bytes before and behind others
pub before-agree : (a b : List ℕ) → Agree a (a ++ b) 0 0 (length a)
before-agree a b i l u = let same : 0 + i ≡ i = omega arith in sym (ap (λ m. get_or (a ++ b) m 0) same ∙ get_or-append a b 0 i u)

pub behind-agree : (a b : List ℕ) (k from to : ℕ) → k ≡ length a → Agree b (a ++ b) k from to
behind-agree a b k from to e i l u =
    let same : k + i - k ≡ i = omega arith in
    sym (get_or-append_right a b k (k + i) 0 (sym e) (omega arith) ∙ ap (λ m. get_or b m 0) same)

-- the written header is the header
pub header-written : (t : Pir) (total : ℕ) → total < 2 ^ 16 → IsHeaderValue t → IsHeader t total (header_bytes t total) × (length (header_bytes t total) ≡ 31)
header-written t total h v = (
  record {
    signature = refl;
    version = refl;
    size = number_at-to_le_bytes_2 total h;
    router_bus = refl;
    router_function = refl;
    exclusive = sym (number_at-to_le_bytes_2 t.exclusive v.exclusive);
    compatible = sym (number_at-to_le_bytes_4 t.compatible v.compatible);
    miniport = sym (number_at-to_le_bytes_4 t.miniport v.miniport);
    reserved = sym (take_whole 11 t.reserved v.reserved);
  },
  omega (arith, v.reserved),
)
