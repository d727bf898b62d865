use Rattle.std.proofs.Common.{◌≡◌, ◌<◌, length, get_or, refl, sym, subst, ap, arith}
use Rattle.std.specs.Prelude.{Some, slice_get}
use Rattle.std.proofs.lemmas.Option.{slice_get_read, slice_get-get_or}
use Rattle.mpt_rules.specs.declared.rule.Rule.TheVariants as rule
use Rattle.mpt_rules.specs.Places.{IsOther}
use Rattle.mpt_rules.specs.Rules.{BreaksBaseRule, BreaksExtRule, BreaksRule, IsPlaceOf}
use Rattle.mpt_rules.specs.Index.{IsBaseIndexOf, IsExtIndexOf}
use Rattle.mpt_rules.proofs.PlaceLemmas.{alone_on_table, entry_other, no_entry}
use Rattle.mpt_rules.proofs.rules.other_of.Goals as goal

pub returns-in-Table : goal.returns-in-Table
returns-in-Table c =
    let place = subst (λ r. IsPlaceOf c.args.table.now r c.args.i) c.in-Table.is c.requires.place in
    subst (λ r. IsOther (BreaksRule c.args.pointer.now c.args.table.now r c.args.i) c.alone.result) (sym c.in-Table.is)
    (alone_on_table c.breaks.result c.args.i c.alone.result c.breaks.ensures place c.alone.ensures)

pub returns-in-Base : goal.returns-in-Base
returns-in-Base c =
    let t = c.args.table.now in
    let i = c.args.i in
    let inside : IsPlaceOf t (rule.Base c.in-Base.rule) i = subst (λ r. IsPlaceOf t r i) c.in-Base.is c.requires.place in
    subst (λ r. IsOther (BreaksRule c.args.pointer.now t r i) c.other_of.result) (sym c.in-Base.is)
    (entry_other (λ e j. BreaksBaseRule t.base c.in-Base.rule e i j) t.base i (get_or t.base i no_entry) c.other_of.result (slice_get-get_or t.base i no_entry inside)
    (subst (λ es. IsOther (BreaksBaseRule es c.in-Base.rule (get_or es i no_entry) i) c.other_of.result) c.as_slice-entries.ensures c.other_of.ensures))

pub returns-in-Ext : goal.returns-in-Ext
returns-in-Ext c =
    let t = c.args.table.now in
    let i = c.args.i in
    let e = c.index-entries-i.result in
    let es = c.as_slice-entries-in-Ext.result.now in
    let place : IsPlaceOf t (rule.Ext c.in-Ext.rule) i = subst (λ r. IsPlaceOf t r i) c.in-Ext.is c.requires.place in
    let inside : i < length es = omega (arith, place, ap length c.as_slice-entries-in-Ext.ensures) in
    let at : slice_get t.ext i ≡ Some e = subst (λ xs. slice_get xs i ≡ Some e) c.as_slice-entries-in-Ext.ensures (slice_get_read es _ i e refl inside c.index-entries-i.is) in
    subst (λ r. IsOther (BreaksRule c.args.pointer.now t r i) c.other_of-in-Ext.result) (sym c.in-Ext.is)
    (entry_other (λ f j. BreaksExtRule t.base t.ext c.in-Ext.rule f i j) t.ext i e c.other_of-in-Ext.result at
    (subst (λ bs. IsOther (BreaksExtRule bs t.ext c.in-Ext.rule e i) c.other_of-in-Ext.result) c.as_slice.ensures
    (subst (λ xs. IsOther (BreaksExtRule c.as_slice.result.now xs c.in-Ext.rule e i) c.other_of-in-Ext.result) c.as_slice-entries-in-Ext.ensures c.other_of-in-Ext.ensures)))

pub bounds-entries-i : goal.bounds-entries-i
bounds-entries-i c =
    let t = c.args.table.now in
    let inside : IsPlaceOf t (rule.Base c.in-Base.rule) c.args.i = subst (λ r. IsPlaceOf t r c.args.i) c.in-Base.is c.requires.place in
    omega (arith, inside, ap length c.as_slice-entries.ensures)

pub other_of-requires : goal.other_of-requires
other_of-requires c =
    let es = c.as_slice-entries.result.now in
    let inside = bounds-entries-i c in
    record {
      indexed = subst (λ xs. IsBaseIndexOf xs c.args.bases.now) (sym c.as_slice-entries.ensures) c.requires.bases;
      at = slice_get-get_or es c.args.i no_entry inside;
      inside = inside;
    }

pub bounds-entries-i-in-Ext : goal.bounds-entries-i-in-Ext
bounds-entries-i-in-Ext c =
    let t = c.args.table.now in
    let inside : IsPlaceOf t (rule.Ext c.in-Ext.rule) c.args.i = subst (λ r. IsPlaceOf t r c.args.i) c.in-Ext.is c.requires.place in
    omega (arith, inside, ap length c.as_slice-entries-in-Ext.ensures)

pub other_of-requires-in-Ext : goal.other_of-requires-in-Ext
other_of-requires-in-Ext c =
    let es = c.as_slice-entries-in-Ext.result.now in
    let e = c.index-entries-i.result in
    let t = c.args.table.now in
    let place : IsPlaceOf t (rule.Ext c.in-Ext.rule) c.args.i = subst (λ r. IsPlaceOf t r c.args.i) c.in-Ext.is c.requires.place in
    record {
      bases = subst (λ xs. IsBaseIndexOf xs c.args.bases.now) (sym c.as_slice.ensures) c.requires.bases;
      exts = subst (λ xs. IsExtIndexOf xs c.args.exts.now) (sym c.as_slice-entries-in-Ext.ensures) c.requires.exts;
      entry = slice_get_read es _ c.args.i e refl (omega (arith, place, ap length c.as_slice-entries-in-Ext.ensures)) c.index-entries-i.is;
    }
