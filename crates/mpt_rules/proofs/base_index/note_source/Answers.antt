use Rattle.std.proofs.Common.{sym, subst}
use Rattle.std.specs.Prelude.{OnOk}
use Rattle.std.specs.BTreeMap as tree
use Rattle.mpt_rules.specs.Entries.{IsSource}
use Rattle.mpt_rules.specs.Index.{key_cmp, NotesKeyed}
use Rattle.mpt_rules.proofs.PlaceLemmas.{noted_key, on_ok}
use Rattle.mpt_rules.proofs.base_index.note_source.Goals as goal

pub returns-in-IoInt : goal.returns-in-IoInt
returns-in-IoInt c =
    let a = c.in-IoInt.e in
    let old = tree.get key_cmp c.args.firsts.now in
    let new = tree.get key_cmp c.note_key.new.firsts in
    subst (λ e. OnOk c.note_key.result (NotesKeyed IsSource old new e c.args.i)) (sym c.in-IoInt.is) (on_ok c.note_key.result (noted_key old new (a.kind, a.bus, a.irq) c.args.i) c.note_key.ensures)
