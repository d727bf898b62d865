-- What calls on the outside world do: counts that never fall, contents that are told or not.
use Rattle.std.specs.Prelude.{◌≡◌, ℕ, ◌+◌, ◌-◌, ◌^◌, ◌≤◌, min, List, ◌++◌, length, Option, Some, None, IfSome, IsSomeAnd, option_map, ⊤}
use Rattle.mpt_base.specs.Bytes.{part}

-- a count rose, or stands at the last value of a u64
abbrev pub Rose : ℕ → ℕ → Type 0
Rose before after = min (before + 1) (2 ^ 64 - 1) ≤ after

-- what the files of a shelf are: for each name the bytes of its file, if there is one
abbrev pub Files : Type 0
Files = List ℕ → Option (List ℕ)

-- where the files are told, this is the length of the file of that name, and none where there is no such file
abbrev pub IsSizeTold : Option Files → List ℕ → Option ℕ → Type 0
IsSizeTold None name size = ⊤
IsSizeTold (Some files) name size = size ≡ option_map length (files name)

-- where the files are told, there is a file of that name with n bytes from that place on
abbrev pub IsInsideTold : Option Files → List ℕ → ℕ → ℕ → Type 0
IsInsideTold None name at n = ⊤
IsInsideTold (Some files) name at n = IsSomeAnd (files name) (λ bytes. at + n ≤ length bytes)

-- where the files are told, these are the bytes of that file from that place on
abbrev pub FillsFromTold : Option Files → List ℕ → ℕ → List ℕ → Type 0
FillsFromTold None name at buf = ⊤
FillsFromTold (Some files) name at buf = IfSome (files name) (λ bytes. buf ≡ part bytes at (length buf))

-- where it is told what was written, the bytes came to its end, all of them
abbrev pub Appends : Option (List ℕ) → Option (List ℕ) → List ℕ → Type 0
Appends None after bytes = ⊤
Appends (Some before) after bytes = after ≡ Some (before ++ bytes)

-- the same for some first bytes
abbrev pub AppendsPrefix : Option (List ℕ) → Option (List ℕ) → List ℕ → Type 0
AppendsPrefix before after bytes = (front : List ℕ) × (back : List ℕ) × (bytes ≡ front ++ back) × Appends before after front
