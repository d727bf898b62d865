-- The lent files of code as those of clauses.
use Rattle.std.specs.Prelude.{List, map}
use Rattle.mptab_c.specs.Lent.{Lent, lent}
use Rattle.mptab_c.specs.declared.lent_shelf.LentFile.{LentFile}

-- the same files in their order
abbrev pub files_lent : List LentFile → List Lent
files_lent files = map (λ file. lent file.name.now file.bytes.now) files
