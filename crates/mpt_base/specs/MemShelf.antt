-- What a shelf in memory is to its callers, and what its calls do to it.
use Rattle.std.specs.Prelude.{ℕ, List, [], ◌∷◌, ◌++◌, Option, Contains, String, string_bytes, map as pairs, refl}
use Rattle.std.specs.Ordering.{nat_cmp}
use Rattle.std.specs.Cmp.Lexicographic.{slice_cmp}
use Rattle.std.specs.FinMap as map
use Rattle.std.specs.Coded.{Coded, code_by, coded×, coded_ℕ, coded_list}
use Rattle.mpt_base.specs.Count.{next_count, count_after}

-- files by the bytes of their names
abbrev pub NamedFiles : Type 0
NamedFiles = map.FinMap (slice_cmp nat_cmp) (List ℕ)

-- the files of a map by text, where `contents` gives the bytes of a file
abbrev pub files_by_name : {Y F : Type 0} → (F → List ℕ) → List (String Y × F) → NamedFiles
files_by_name contents files = map.from_entries (pairs (λ file. (string_bytes file.0, contents file.1)) files)

-- the files, the numbers of the calls that fail, how many calls there were, how many of them failed, how many found no file, and how many bytes were asked for
pub record ShelfState : Type 0 where
  pub held : NamedFiles
  pub failing : List ℕ
  pub calls : ℕ
  pub faults : ℕ
  pub misses : ℕ
  pub asked : ℕ

-- the file of that name, if there is one
abbrev pub file_of : ShelfState → List ℕ → Option (List ℕ)
file_of shelf name = map.get shelf.held name

-- a shelf without files to which nothing has happened
abbrev pub empty_shelf : ShelfState
empty_shelf = record { held = map.empty; failing = []; calls = 0; faults = 0; misses = 0; asked = 0 }

-- the next call fails: its number was added
abbrev pub IsToFail : ShelfState → Type 0
IsToFail shelf = Contains shelf.failing (next_count shelf.calls)

-- the shelf with these bytes as the file of that name
abbrev pub with_file : ShelfState → List ℕ → List ℕ → ShelfState
with_file shelf name bytes = record shelf { held = map.insert shelf.held name bytes }

-- the shelf with a further call number that fails
abbrev pub with_failing_call : ShelfState → ℕ → ShelfState
with_failing_call shelf call = record shelf { failing = shelf.failing ++ call ∷ [] }

-- the shelf after a call that did not fail
abbrev pub after_call : ShelfState → ShelfState
after_call shelf = record shelf { calls = next_count shelf.calls }

-- the shelf after a call that failed
abbrev pub after_failure : ShelfState → ShelfState
after_failure shelf = record shelf { calls = next_count shelf.calls; faults = next_count shelf.faults }

-- the shelf after a call that found no file
abbrev pub after_miss : ShelfState → ShelfState
after_miss shelf = record shelf { calls = next_count shelf.calls; misses = next_count shelf.misses }

-- the shelf when n bytes have been asked for
abbrev pub asking : ShelfState → ℕ → ShelfState
asking shelf n = record shelf { asked = count_after shelf.asked n }

-- a shelf is stored as the tuple of its fields
abbrev pub shelf_code : Coded ShelfState
shelf_code =
    code_by (NamedFiles × (List ℕ × (ℕ × (ℕ × (ℕ × ℕ)))))
    (coded× (map.code {R = slice_cmp nat_cmp} (coded_list coded_ℕ) (coded_list coded_ℕ)) (coded× (coded_list coded_ℕ) (coded× coded_ℕ (coded× coded_ℕ (coded× coded_ℕ coded_ℕ)))))
    (λ s. (s.held, (s.failing, (s.calls, (s.faults, (s.misses, s.asked))))))
    (λ p. record { held = p.0; failing = p.1.0; calls = p.1.1.0; faults = p.1.1.1.0; misses = p.1.1.1.1.0; asked = p.1.1.1.1.1 })
    (λ _. refl)
