use Rattle.std.proofs.Common.{◌≡◌, ◌<◌, List, [], ◌∷◌, ◌++◌, length, length-append, get_or, ap, sym, subst, ◌∙◌, arith}
use Rattle.std.specs.List.{AllByRecursion}
use Rattle.std.specs.Prelude.{Option, None, filter}
use Rattle.std.proofs.lemmas.List.{take_all}
use Rattle.mpt_spec.specs.declared.entry.IntEntry.{IntEntry}
use Rattle.mpf_pir.specs.Pins.{is_on_pci}
use Rattle.mpt_route.specs.declared.bus.BusKind.{BusKind}
use Rattle.mpt_route.specs.Routes.{bus_kind_in}
use Rattle.mpf_pir.specs.Index.{is_int_on, HasBytePin}
use Rattle.mpf_pir.proofs.WiringLemmas.{all_push}
use Rattle.mpf_pir.proofs.TableLemmas.{passes_more, fails_more}
use Rattle.mpf_pir.proofs.pins.pci_ints_by.Goals as goal
use Rattle.mpf_pir.proofs.pins.pci_ints_by.Goals.{then-is_int_on+in_ok-push, else-is_int_on}

-- what the code's indexing names past the end
d : IntEntry
d = record { kind = 0; flags = 0; bus = 0; irq = 0; dest = 0; pin = 0 }

pub loop-e-preserved : goal.loop-e-preserved
unfolding d
loop-e-preserved c =
    let p = c.args.p.now in
    let es = c.as_slice-e-items.result.now in
    let i = c.loop-e.e-index in
    let inside : i < length es = omega (arith, c.loop-e-test.true) in
    let e : IntEntry = get_or es i d in
    let table : List (Option BusKind) = c.args.buses.now in
    let small : e.bus < 256 = c.is_int_on.ensures.bus in
    let read : get_or table e.bus None ≡ bus_kind_in p.buses e.bus = c.requires.members e.bus small in
    let test : c.is_int_on.result ≡ is_on_pci p e = c.is_int_on.ensures.value ∙ ap (λ o. is_int_on o e) read in
    elim c.if-is_int_on.branch [
      | then-is_int_on+in_ok-push w ↦
          let pushed : c.if-is_int_on.ints.items ≡ c.loop-e.ints.items ++ e ∷ [] = ap (λ v. v.items) w.ints-is ∙ w.in_ok-push.ensures.items in
          record {
            chosen = passes_more (is_on_pci p) es c.loop-e.ints.items c.if-is_int_on.ints.items i d inside (sym test ∙ w.if-is_int_on.true) c.loop-e.invariant.chosen pushed;
            few = omega (arith, ap length pushed, length-append c.loop-e.ints.items (e ∷ []), c.loop-e.invariant.few);
            bytes = subst (AllByRecursion HasBytePin) (sym pushed) (all_push HasBytePin c.loop-e.ints.items e c.loop-e.invariant.bytes c.is_int_on.ensures.pin);
          }
      | else-is_int_on w ↦
          let kept : c.if-is_int_on.ints.items ≡ c.loop-e.ints.items = ap (λ v. v.items) w.ints-is in
          record {
            chosen = fails_more (is_on_pci p) es c.loop-e.ints.items c.if-is_int_on.ints.items i d inside (sym test ∙ w.if-is_int_on.false) c.loop-e.invariant.chosen kept;
            few = omega (arith, ap length kept, c.loop-e.invariant.few);
            bytes = subst (AllByRecursion HasBytePin) (sym kept) c.loop-e.invariant.bytes;
          }
    ]

pub loop-e-init : goal.loop-e-init
loop-e-init c =
    let empty = c.new-ints.ensures.items in
    record {
      chosen = empty;
      few = omega (arith, ap length empty);
      bytes = subst (AllByRecursion HasBytePin) (sym empty) tt;
    }

pub returns : goal.returns
returns c =
    let p = c.args.p.now in
    let all = take_all c.loop-e.e-index c.as_slice-e-items.result.now c.loop-e-test.false ∙ c.as_slice-e-items.ensures in
    record {
      ints = c.loop-e.invariant.chosen ∙ ap (filter (is_on_pci p)) all;
      few = omega (arith, c.loop-e.invariant.few, c.loop-e.auto.e-index-end, ap length c.as_slice-e-items.ensures);
      bytes = c.loop-e.invariant.bytes;
    }
