use Rattle.std.specs.Prelude.{vec_items}
use Rattle.mpt_base.proofs.FilesByName.{files_by_name-insert}
use Rattle.mpt_base.proofs.mem_shelf.MemShelf.add.Goals as goal

pub returns-in-Ok-insert-clause-ok : goal.returns-in-Ok-insert-clause-ok
returns-in-Ok-insert-clause-ok c =
    let changed = files_by_name-insert vec_items c.self.inside.files c.insert.new.self c.in-Ok.key c.in-Ok-from_slice.contents c.in-Ok-insert.ensures.updates in
    rw (changed, c.in-Ok.ensures.ok, c.in-Ok-from_slice.ensures.items, ← c.self.view_is)
