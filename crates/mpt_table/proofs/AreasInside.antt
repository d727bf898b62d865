-- The areas of the search lie in a file of the size that they were cut at, and are short.
use Rattle.std.proofs.Common.{◌≡◌, ℕ, ◌+◌, ◌-◌, ◌*◌, ◌%◌, ◌≤◌, ◌<◌, ◌^◌, min, Bool, true, false, [], ◌∷◌, ◌++◌, inl, inr, arith}
use Rattle.std.specs.Prelude.{◌==◌, ◌⊎◌, if◌then◌else◌}
use Rattle.std.specs.List.{AllByRecursion}
use Rattle.std.proofs.lemmas.Bool.{cases_lt}
use Rattle.mpt_spec.specs.declared.pointer.Area.{Area}
use Rattle.mpt_spec.specs.Search.{cut_area, areas_of}
use Rattle.mpt_table.specs.Windows.{IsAreaIn, area_bytes}

cut_paragraph : (size from to : ℕ) → from % 16 ≡ 0 → from ≤ to → (min from size % 16 ≡ 0) ⊎ (min from size ≡ min to size)
cut_paragraph size from to paragraph order =
    elim (cases_lt size from) [
      | inl past ↦ inr (omega arith)
      | inr within ↦
          let same : min from size ≡ from = omega arith in
          inl (rw same paragraph)
    ]

cut_inside : (size from to : ℕ) → from % 16 ≡ 0 → from ≤ to → to < 2 ^ 31 → to - from ≤ 65536 → IsAreaIn size (cut_area size from to)
cut_inside size from to paragraph order low short = record {
  order = omega arith;
  inside = omega arith;
  paragraph = cut_paragraph size from to paragraph order;
  low = omega arith;
  short = omega arith;
}

all_of : (P : Area → Type 0) (t u : Bool) (x y z : Area) → P x → P y → P z → AllByRecursion P ((if t then (if u then [] else (x ∷ [])) else (y ∷ [])) ++ z ∷ [])
all_of P true true x y z hx hy hz = (hz, tt)
all_of P true false x y z hx hy hz = (hx, (hz, tt))
all_of P false u x y z hx hy hz = (hy, (hz, tt))

pub areas_inside : (ebda base_kib size : ℕ) → ebda < 65536 → base_kib < 65536 → AllByRecursion (IsAreaIn size) (areas_of ebda base_kib size)
areas_inside ebda base_kib size he hb =
    all_of (IsAreaIn size) (ebda == 0) (base_kib == 0) (cut_area size ((base_kib - 1) * 1024) (base_kib * 1024)) (cut_area size (16 * ebda) (16 * ebda + 1024)) (cut_area size 0xF0000 0x100000)
    (cut_inside size ((base_kib - 1) * 1024) (base_kib * 1024) (omega arith) (omega arith) (omega arith) (omega arith))
    (cut_inside size (16 * ebda) (16 * ebda + 1024) (omega arith) (omega arith) (omega arith) (omega arith))
    (cut_inside size 0xF0000 0x100000 (omega arith) (omega arith) (omega arith) (omega arith))

few_bytes : (t u : Bool) (x y z : Area) → x.to - x.from ≤ 1024 → y.to - y.from ≤ 1024 → z.to - z.from ≤ 65536 → area_bytes ((if t then (if u then [] else (x ∷ [])) else (y ∷ [])) ++ z ∷ []) ≤ 66560
few_bytes true true x y z hx hy hz = omega arith
few_bytes true false x y z hx hy hz = omega arith
few_bytes false u x y z hx hy hz = omega arith

pub areas_short : (ebda base_kib size : ℕ) → area_bytes (areas_of ebda base_kib size) ≤ 66560
areas_short ebda base_kib size =
    few_bytes (ebda == 0) (base_kib == 0) (cut_area size ((base_kib - 1) * 1024) (base_kib * 1024)) (cut_area size (16 * ebda) (16 * ebda + 1024)) (cut_area size 0xF0000 0x100000)
    (omega arith) (omega arith) (omega arith)
