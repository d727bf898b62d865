-- The values of a script that was read: what a board may rest on.
--     HasScriptValues s     ids are distinct and below 255, words are of their kind and in range, counts within limits
use Rattle.std.specs.Prelude.{ℕ, ◌+◌, ◌<◌, ◌≤◌, ◌⊎◌, length, map, sum_by, nat_eq, IfSome}
use Rattle.std.specs.List.{AllByRecursion, IsDistinct}
use Rattle.mpb_words.specs.Values.{IsCpuWord, IsDeviceWord}
use Rattle.mpb_script.specs.declared.script.Script.{Script}

-- how many words a script has in all
abbrev pub words_in : Script → ℕ
words_in s = sum_by (λ c. length c.words) s.cpus + sum_by length s.devices

-- the values that a script may have
pub record HasScriptValues (s : Script) : Type 0 where
  pub page : (s.page < 0xA0) ⊎ ((0xBF < s.page) × (s.page < 256))
  pub elcr : s.elcr < 65536
  pub present : IfSome s.present (AllByRecursion (λ id. id < 255))
  pub ids : AllByRecursion (λ c. c.id < 255) s.cpus
  pub distinct : IsDistinct nat_eq (map (λ c. c.id) s.cpus)
  pub cpu_words : AllByRecursion (λ c. AllByRecursion IsCpuWord c.words) s.cpus
  pub device_words : AllByRecursion (AllByRecursion IsDeviceWord) s.devices
  pub few_devices : length s.devices ≤ 4
  pub few_words : words_in s ≤ 8192
