use Rattle.std.proofs.Common.{◌≡◌, ◌+◌, ℕ, List, [], ◌∷◌, ◌++◌, length, length-append, get_or, take, subst, sym, ap, arith}
use Rattle.std.proofs.lemmas.List.{take_more}
use Rattle.mpf_pir.specs.declared.table.Slot.{Slot}
use Rattle.mpf_pir.specs.Layout.{IsSlotAt, AreSlots}
use Rattle.mpf_pir.proofs.WrittenLemmas.{slot-written}
use Rattle.mpf_pir.proofs.LayoutLemmas.{AreSlots-push, AreSlots-agree, IsSlotAt-agree, before-agree, behind-agree}
use Rattle.mpf_pir.proofs.writing.slots_bytes.Goals as goal

-- what the code's indexing names past the end
d : Slot
d = record { bus = 0; device = 0; links = []; irqs = []; number = 0; reserved = 0 }

pushed : (ss : List Slot) (s : Slot) (old piece new : List ℕ) → length piece ≡ 16 → new ≡ old ++ piece → IsSlotAt s piece 0 → AreSlots ss old 0 (length old) → AreSlots (ss ++ s ∷ []) new 0 (length new)
pushed ss s old piece new long e is h =
    let whole : length (old ++ piece) ≡ length old + 16 = omega (arith, length-append old piece) in
    subst (λ (xs : List ℕ). AreSlots (ss ++ s ∷ []) xs 0 (length xs)) (sym e)
    (subst (λ n. AreSlots (ss ++ s ∷ []) (old ++ piece) 0 n) (sym whole)
    (AreSlots-push ss s (old ++ piece) 0 (length old) (AreSlots-agree old (old ++ piece) 0 0 (length old) 0 (length old) ss (before-agree old piece) (omega arith) (omega arith) h)
    (IsSlotAt-agree piece (old ++ piece) (length old) 0 16 (length old) s (behind-agree old piece (length old) 0 16 (omega arith)) (omega arith) (omega arith) is)))

pub loop-slot-preserved : goal.loop-slot-preserved
unfolding d
loop-slot-preserved c =
    let ss = c.args.slots.now in
    let i = c.loop-slot.slot-index in
    record {
      slots = subst (λ xs. AreSlots xs c.append.new.out.items 0 (length c.append.new.out.items)) (sym (take_more ss i d (omega (arith, c.loop-slot-test.true))))
          (pushed (take i ss) (get_or ss i d) c.loop-slot.out.items c.slot_bytes.result c.append.new.out.items (omega arith) c.in-Ok.ensures.ok (subst (λ xs. IsSlotAt (get_or ss i d) xs 0) (sym c.slot_bytes.ensures) (slot-written (get_or ss i d) c.slot_value.ensures)) c.loop-slot.invariant.slots);
      size = omega (arith, c.loop-slot.invariant.size, ap length c.in-Ok.ensures.ok, length-append c.loop-slot.out.items c.slot_bytes.result);
    }
