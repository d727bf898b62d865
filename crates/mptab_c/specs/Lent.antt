-- Files that a caller of the library lends, and the shelf of them.
--     lent name bytes       a file under its name
--     lent_files files      what is told of such files, as the walk over files sees it
--     LentState             the shelf; no call of it fails
use Rattle.std.specs.Prelude.{ℕ, List, [], ◌∷◌, Option, None, Some, if◌then◌else◌, nat_eq}
use Rattle.std.specs.Cmp.Lexicographic.{pointwise}

-- a file under its name
pub record Lent : Type 0 where
  pub name : List ℕ
  pub bytes : List ℕ

abbrev pub lent : List ℕ → List ℕ → Lent
lent name bytes = record { name = name; bytes = bytes }

-- of each name the bytes of the first file that is lent under it, and that there is none
abbrev pub lent_files : List Lent → List ℕ → Option (List ℕ)
lent_files [] asked = None
lent_files (file ∷ files) asked = if pointwise nat_eq asked file.name then Some file.bytes else lent_files files asked

-- a shelf of lent files, with how many weren't there and how many bytes were asked for
pub record LentState : Type 0 where
  pub files : List Lent
  pub misses : ℕ
  pub asked : ℕ

-- the shelf to which nothing has happened
abbrev pub untouched : List Lent → LentState
untouched files = record { files = files; misses = 0; asked = 0 }

-- no call of it fails
abbrev pub no_faults : LentState → ℕ
no_faults shelf = 0
