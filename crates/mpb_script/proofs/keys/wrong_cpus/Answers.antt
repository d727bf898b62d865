use Rattle.std.proofs.Common.{◌≡◌, [], map, take, drop, sym, ap, ◌∙◌}
use Rattle.std.specs.Prelude.{is_some}
use Rattle.toml.specs.View.{view}
use Rattle.mpb_script.specs.Keys.{wrong_cpus}
use Rattle.mpb_script.proofs.TableLemmas.{is_here, is_later, wrong_cpus-at, wrong_cpus-end}
use Rattle.mpb_script.proofs.keys.wrong_cpus.Goals as goal

pub loop-i-preserved : goal.loop-i-preserved
loop-i-preserved c =
    let ts = c.args.tables.now in
    let i = c.loop-i.i in
    let so_far : wrong_cpus (map view (take i ts)) (map view (drop i ts)) ≡ wrong_cpus [] (map view ts) = c.loop-i.invariant in
    let none = ap is_some (sym c.wrong_cpu-wrong.ensures) ∙ sym c.if-is_some.ensures in
    sym (wrong_cpus-at ts i c.index-tables-i.result c.loop-i-test.true c.index-tables-i.is ∙ is_later _ _ none) ∙ so_far

pub returns-then-is_some : goal.returns-then-is_some
returns-then-is_some c =
    let ts = c.args.tables.now in
    let i = c.loop-i.i in
    let so_far : wrong_cpus (map view (take i ts)) (map view (drop i ts)) ≡ wrong_cpus [] (map view ts) = c.loop-i.invariant in
    let some = ap is_some (sym c.wrong_cpu-wrong.ensures) ∙ sym c.if-is_some.ensures in
    c.wrong_cpu-wrong.ensures ∙ is_here _ _ some ∙ sym (wrong_cpus-at ts i c.index-tables-i.result c.loop-i-test.true c.index-tables-i.is) ∙ so_far

pub returns : goal.returns
returns c =
    let ts = c.args.tables.now in
    let i = c.loop-i.i in
    let so_far : wrong_cpus (map view (take i ts)) (map view (drop i ts)) ≡ wrong_cpus [] (map view ts) = c.loop-i.invariant in
    sym (wrong_cpus-end ts i c.loop-i-test.false) ∙ so_far
