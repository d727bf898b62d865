use Rattle.std.proofs.Common.{◌≡◌, ◌++◌, ap, ◌∙◌}
use Rattle.mpf_madt.specs.Spelling.{header_bytes}
use Rattle.mpf_madt.proofs.writing.push_table.Goals as goal

pub returns : goal.returns
returns c =
    let start = c.args.out.now.items in
    let header : c.append.new.out.items ≡ start ++ header_bytes c.args.madt.now c.args.size 0 = c.in-Ok.ensures.ok ∙ ap (λ xs. start ++ xs) c.header_of.ensures in
    rw (header, c.as_slice.ensures) at c.push_entries.ensures
