use Rattle.std.proofs.Common.{Some, sym, ap, ◌∙◌}
use Rattle.std.specs.Prelude.{option_map, vec_items}
use Rattle.mpt_base.specs.MemShelf.{file_of}
use Rattle.mpt_base.proofs.FilesByName.{get-files_by_name}
use Rattle.mpt_base.proofs.mem_shelf.MemShelf.file.Goals as goal

pub returns-in-Some : goal.returns-in-Some
returns-in-Some c =
    ap Some c.as_slice.ensures.value
    ∙ ap (option_map vec_items) c.in-Some.ensures.value
    ∙ sym (get-files_by_name vec_items c.self.inside.files c.args.name.now)
    ∙ ap (λ s. file_of s c.args.name.now) c.self.view_is

pub returns-in-None : goal.returns-in-None
returns-in-None c =
    ap (option_map vec_items) c.in-None.ensures.value
    ∙ sym (get-files_by_name vec_items c.self.inside.files c.args.name.now)
    ∙ ap (λ s. file_of s c.args.name.now) c.self.view_is
