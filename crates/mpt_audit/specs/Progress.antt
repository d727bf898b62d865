-- How far an audit has come: cited by private functions alone.
use Rattle.std.specs.Prelude.{◌≡◌, ℕ, ◌+◌, ◌<◌, ◌⊎◌, List}
use Rattle.std.specs.List.{Contains}
use Rattle.mpt_spec.specs.declared.pointer.Pointer.{Pointer}
use Rattle.mpt_spec.specs.declared.tables.Table.{Table}
use Rattle.mpt_rules.specs.declared.rule.Finding.{Finding}
use Rattle.mpt_audit.specs.Findings.{IsTableFinding, IsAscending}

-- the finding is of a rule before number n + 1, or of that rule and an entry before i
abbrev pub IsBefore : ℕ → ℕ → Finding → Type 0
IsBefore n i f = (f.rule < n + 1) ⊎ ((f.rule ≡ n + 1) × (f.entry < i))

-- the findings so far, in order
pub record AreFindingsBefore (p : Pointer) (t : Table) (n i : ℕ) (fs : List Finding) : Type 0 where
  pub sound : (f : Finding) → Contains fs f → IsTableFinding p t f
  pub before : (f : Finding) → Contains fs f → IsBefore n i f
  pub complete : (f : Finding) → IsTableFinding p t f → IsBefore n i f → Contains fs f
  pub ascending : IsAscending fs
