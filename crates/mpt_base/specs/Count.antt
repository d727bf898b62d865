-- Counts that stay at the last value of a u64 once there.
use Rattle.std.specs.Prelude.{ℕ, ◌+◌, ◌-◌, ◌^◌, min}

-- the count after a further one
abbrev pub next_count : ℕ → ℕ
next_count n = min (n + 1) (2 ^ 64 - 1)

-- the count after n further ones
abbrev pub count_after : ℕ → ℕ → ℕ
count_after before n = min (before + n) (2 ^ 64 - 1)
