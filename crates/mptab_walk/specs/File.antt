-- A file that is read piece by piece. Only private functions of the crate cite this.
use Rattle.std.specs.Prelude.{◌≡◌, ℕ, List, take, Option}
use Rattle.mpt_base.specs.Outside.{Files}
use Rattle.mpt_table.specs.Windows.{IfTold}

-- where the files are told, the first bytes of the file of that name are those of the buffer
abbrev pub IsFilledTo : Option Files → List ℕ → ℕ → List ℕ → Type 0
IsFilledTo told name at buf = IfTold told name (λ bytes. take at buf ≡ take at bytes)
