-- Of a drill by its number: its tables fit, its script has the values of one that was read, nothing speaks against their board,
-- and the ids of its processors are bytes.
use Rattle.std.proofs.Common.{◌≡◌, ℕ, ◌<◌, ◌%◌, None, List, [], ◌∷◌, sym, subst, arith}
use Rattle.std.specs.List.{range_with_len, AllByRecursion}
use Rattle.mpt_spec.specs.Canonical.{FitsInImage}
use Rattle.mpt_route.specs.Platform.{platform_of}
use Rattle.mpb_script.specs.Values.{HasScriptValues}
use Rattle.mpb_setup.specs.Board.{enabled_ids}
use Rattle.mpb_setup.specs.Faults.{board_fault_of}
use Rattle.mpb_spec.specs.Numbers.{AreBytes}
use Rattle.mpb_drill.specs.Drill.{drill_processors, drill_ioapics, drill_devices, drill_pauses, drill_tables, drill_script}
use Rattle.mpb_drill.proofs.SoundLemmas.{below, enabled, no_fault}
use Rattle.mpb_drill.proofs.ValueLemmas.{values, fits}

pub fits_of : (n : ℕ) → FitsInImage (drill_tables n)
fits_of n = fits (drill_processors n) (drill_ioapics n) (omega arith) (omega arith)

pub values_of : (n : ℕ) → HasScriptValues (drill_script n)
values_of n = values (n % 7) (drill_ioapics n) (drill_devices n) (drill_pauses n) (omega arith) (omega arith) (omega arith) (omega arith)

pub no_fault_of : (n : ℕ) → board_fault_of (platform_of (drill_tables n)) (drill_script n) ≡ None
no_fault_of n = no_fault (n % 7) (n % 4) (drill_devices n) (drill_pauses n) (omega arith) (omega arith)

-- what is below a number is below a greater one
wider : (a b : ℕ) → a < b → (xs : List ℕ) → AllByRecursion (λ k. k < a) xs → AllByRecursion (λ k. k < b) xs
wider a b lt [] all = tt
wider a b lt (x ∷ xs) all = let h = all.0 in (omega (arith, h, lt), wider a b lt xs all.1)

pub bytes_of : (n : ℕ) → AreBytes (enabled_ids (platform_of (drill_tables n)))
bytes_of n =
    subst AreBytes (sym (enabled (drill_processors n) (drill_ioapics n)))
    (wider (drill_processors n) 256 (omega arith) (range_with_len 0 (drill_processors n)) (below 0 (drill_processors n) (drill_processors n) (omega arith)))
