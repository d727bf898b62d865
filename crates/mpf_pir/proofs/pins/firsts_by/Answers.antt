use Rattle.std.proofs.Common.{◌≡◌, ◌<◌, ℕ, List, [], ◌∷◌, ◌++◌, length, length-append, get_or, ap, sym, subst, not, replicate, refl, ◌∙◌, arith}
use Rattle.std.specs.Prelude.{Option, None}
use Rattle.std.proofs.lemmas.List.{get_or_read, take_all}
use Rattle.mpt_spec.specs.declared.entry.IntEntry.{IntEntry}
use Rattle.mpt_route.specs.Index.{IsTableOf}
use Rattle.mpt_route.proofs.PlatformLemmas.{none_of, some_of}
use Rattle.mpf_pir.specs.Index.{number_by, count_by, AreFirsts}
use Rattle.mpf_pir.proofs.FirstLemmas.{first_new, place_new, first_old, place_old, place_at}
use Rattle.mpf_pir.proofs.TableLemmas.{empty_table}
use Rattle.mpf_pir.proofs.pins.firsts_by.Goals as goal
use Rattle.mpf_pir.proofs.pins.firsts_by.Goals.{then-is_none+in_ok-push, else-is_none}

-- what the code's indexing names past the end
d : IntEntry
d = record { kind = 0; flags = 0; bus = 0; irq = 0; dest = 0; pin = 0 }

pub loop-e-preserved : goal.loop-e-preserved
unfolding d
loop-e-preserved c =
    let es = c.args.entries.now in
    let i = c.loop-e.e-index in
    let inside : i < length es = omega (arith, c.loop-e-test.true) in
    let key : IntEntry → ℕ = number_by c.args.by in
    let found : List IntEntry = c.loop-e.found.items in
    let places : List (Option ℕ) = c.loop-e.places.items in
    let k = c.number-number.result in
    let whole : length places ≡ count_by c.args.by = c.loop-e.invariant.are.table.whole in
    let small : k < count_by c.args.by = c.number-number.ensures.below in
    let read : c.index.result.now ≡ get_or places k None = get_or_read places k c.index.result.now (omega arith) c.index.ensures None in
    elim c.if-is_none.branch [
      | then-is_none+in_ok-push w ↦
          let none : get_or places k None ≡ None = sym read ∙ none_of c.index.result.now (c.is_none.ensures ∙ ap not w.if-is_none.true) in
          let pushed : c.if-is_none.found.items ≡ found ++ get_or es i d ∷ [] = ap (λ v. v.items) w.found-is ∙ w.in_ok-push.ensures.items in
          record {
            are = record {
              firsts_are = pushed ∙ first_new key (count_by c.args.by) es found places i k d inside c.number-number.ensures.value small none c.loop-e.invariant.are.firsts_are c.loop-e.invariant.are.table;
              table = subst (λ ys. IsTableOf (count_by c.args.by) c.if-is_none.places.items (place_at key ys)) (sym pushed)
                  (place_new key (count_by c.args.by) found places c.if-is_none.places.items k w.len.result (get_or es i d) c.number-number.ensures.value small none (omega arith) (ap (λ v. v.items) w.places-is) c.loop-e.invariant.are.table);
            };
            few = omega (arith, ap length pushed, length-append found (get_or es i d ∷ []), c.loop-e.invariant.few);
          }
      | else-is_none w ↦
          let z = some_of c.index.result.now (c.is_none.ensures ∙ ap not w.if-is_none.false) in
          let kept : c.if-is_none.found.items ≡ found = ap (λ v. v.items) w.found-is in
          record {
            are = record {
              firsts_are = kept ∙ first_old key (count_by c.args.by) es found places i k z.0 d inside c.number-number.ensures.value small (sym read ∙ z.1) c.loop-e.invariant.are.firsts_are c.loop-e.invariant.are.table;
              table = place_old key (count_by c.args.by) found c.if-is_none.found.items places c.if-is_none.places.items kept (ap (λ v. v.items) w.places-is) c.loop-e.invariant.are.table;
            };
            few = omega (arith, ap length kept, c.loop-e.invariant.few);
          }
    ]

pub returns : goal.returns
returns c = record {
  are = subst (λ (es : List IntEntry). AreFirsts c.args.by es c.loop-e.found.items c.loop-e.places.items) (take_all c.loop-e.e-index c.args.entries.now c.loop-e-test.false) c.loop-e.invariant.are;
  few = omega (arith, c.loop-e.invariant.few, c.loop-e.auto.e-index-end);
}

pub index-requires : goal.index-requires
index-requires c = omega (arith, c.number-number.ensures.below, c.loop-e.invariant.are.table.whole)

pub index_mut-requires : goal.index_mut-requires
index_mut-requires c = omega (arith, c.number-number.ensures.below, c.loop-e.invariant.are.table.whole)

pub loop-e-init : goal.loop-e-init
loop-e-init c =
    let key : IntEntry → ℕ = number_by c.args.by in
    let n = count_by c.args.by in
    let empty = c.new-found.ensures.items in
    record {
      are = record {
        firsts_are = empty;
        table = subst (λ (found : List IntEntry). IsTableOf n c.in-Ok.places.items (place_at key found)) (sym empty) (empty_table n c.in-Ok.places.items (place_at key []) (c.in-Ok.ensures ∙ ap (λ m. replicate m None) c.count.ensures) (λ k. refl));
      };
      few = omega (arith, ap length empty);
    }
