use Rattle.std.proofs.Common.{◌≡◌, ◌<◌, ◌≤◌, ℕ, List, [], length, get_or, ap, sym, subst, refl, not, ◌∙◌, arith}
use Rattle.std.specs.Prelude.{None}
use Rattle.std.proofs.lemmas.List.{get_or_read, take_all}
use Rattle.mpt_route.specs.Index.{IsTableOf}
use Rattle.mpt_route.proofs.PlatformLemmas.{none_of, some_of}
use Rattle.mpf_pir.specs.declared.table.Slot.{Slot}
use Rattle.mpf_pir.specs.Progress.{slot_number, links_of}
use Rattle.mpf_pir.proofs.TableLemmas.{found_at, notes_found, keeps_found, empty_table}
use Rattle.mpf_pir.proofs.comparing.first_slots.Goals as goal
use Rattle.mpf_pir.proofs.comparing.first_slots.Goals.{then-is_none, else-is_none}

-- what the code's indexing names past the end
d : Slot
d = record { bus = 0; device = 0; links = []; irqs = []; number = 0; reserved = 0 }

pub loop-slot-init : goal.loop-slot-init
loop-slot-init c = empty_table {Y = List ℕ} 8192 c.in-Ok.table.items (found_at {Y = List ℕ} slot_number (λ (s : Slot). s.links) []) c.in-Ok.ensures (λ n. refl)

pub loop-slot-preserved : goal.loop-slot-preserved
unfolding d
loop-slot-preserved c =
    let xs = c.args.slots.now in
    let i = c.loop-slot.slot-index in
    let inside : i < length xs = omega (arith, c.loop-slot-test.true) in
    let t = c.loop-slot.table.items in
    let k = c.slot_number-number.result in
    let whole : length t ≡ 8192 = c.loop-slot.invariant.whole in
    let small : k < 8192 = c.slot_number-number.ensures.below in
    let read : c.index.result.now ≡ get_or t k None = get_or_read t k c.index.result.now (omega arith) c.index.ensures None in
    elim c.if-is_none.branch [
      | then-is_none w ↦ notes_found {Y = List ℕ} slot_number (λ (s : Slot). s.links) 8192 t c.if-is_none.table.items xs i k d (get_or xs i d).links inside c.slot_number-number.ensures.value refl small
          (sym read ∙ none_of c.index.result.now (c.is_none.ensures ∙ ap not w.if-is_none.true)) (ap (λ v. v.items) w.table-is) c.loop-slot.invariant
      | else-is_none w ↦ let z = some_of c.index.result.now (c.is_none.ensures ∙ ap not w.if-is_none.false) in
          keeps_found {Y = List ℕ} slot_number (λ (s : Slot). s.links) 8192 t c.if-is_none.table.items xs i k d z.0 inside c.slot_number-number.ensures.value (sym read ∙ z.1) (ap (λ v. v.items) w.table-is) c.loop-slot.invariant
    ]

pub returns : goal.returns
returns c =
    let past : length c.args.slots.now ≤ c.loop-slot.slot-index = omega (arith, c.loop-slot-test.false) in
    subst (λ (xs : List Slot). IsTableOf 8192 c.loop-slot.table.items (links_of xs)) (take_all c.loop-slot.slot-index c.args.slots.now past) c.loop-slot.invariant
