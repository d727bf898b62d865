use Rattle.std.proofs.Common.{sym, ap, ◌∙◌}
use Rattle.std.specs.Prelude.{is_some}
use Rattle.mpb_script.proofs.TableLemmas.{is_here, is_later, wrong_devices-at, wrong_devices-end}
use Rattle.mpb_script.proofs.keys.wrong_devices.Goals as goal

pub loop-table-preserved : goal.loop-table-preserved
loop-table-preserved c =
    let none = ap is_some (sym c.wrong_device-wrong.ensures) ∙ sym c.if-is_some.ensures in
    sym (wrong_devices-at c.args.tables.now c.loop-table.table-index c.table-item.result c.loop-table-test.true c.table-item.is ∙ is_later _ _ none) ∙ c.loop-table.invariant

pub returns-then-is_some : goal.returns-then-is_some
returns-then-is_some c =
    let some = ap is_some (sym c.wrong_device-wrong.ensures) ∙ sym c.if-is_some.ensures in
    c.wrong_device-wrong.ensures
    ∙ is_here _ _ some
    ∙ sym (wrong_devices-at c.args.tables.now c.loop-table.table-index c.table-item.result c.loop-table-test.true c.table-item.is)
    ∙ c.loop-table.invariant

pub returns : goal.returns
returns c = sym (wrong_devices-end c.args.tables.now c.loop-table.table-index c.loop-table-test.false) ∙ c.loop-table.invariant
