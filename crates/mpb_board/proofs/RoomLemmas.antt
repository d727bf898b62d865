-- The numbers of a device's words.
use Rattle.std.proofs.Common.{◌≡◌, ℕ, ◌+◌, ◌*◌, ◌<◌, ◌≤◌, cond, List, [], ◌∷◌, ◌++◌, length, get_or, take, map, sum_by, count_by, refl, ap, ◌∙◌, arith}
use Rattle.std.proofs.Math.Nat.{mul-le-mul_left}
use Rattle.std.proofs.lemmas.List.{map_more}
use Rattle.std.proofs.lemmas.List.Sums.{sum_by_push, sum_by-cons}
use Rattle.std.specs.List.{filter_map}
use Rattle.mpb_spec.specs.declared.agent.Op.TheVariants as op
use Rattle.mpb_spec.specs.declared.config.DevWord.{DevWord}
use Rattle.mpb_spec.specs.declared.config.DevWord.TheVariants as word
use Rattle.mpb_spec.specs.Plan.{op_of_word, device_program}
use Rattle.mpb_spec.specs.Room.{is_pulse}

ops-and-pulses : (ws : List DevWord) → length (filter_map op_of_word ws ++ op.End ∷ []) + count_by is_pulse ws ≡ length ws + 1
ops-and-pulses [] = refl
ops-and-pulses (word.Pulse a p ∷ ws) = rw (sum_by-cons (λ v. cond {A = ℕ} (is_pulse v) 1 0) (word.Pulse a p) ws) (omega (arith, ops-and-pulses ws))
ops-and-pulses (word.High a p ∷ ws) = rw (sum_by-cons (λ v. cond {A = ℕ} (is_pulse v) 1 0) (word.High a p) ws) (omega (arith, ops-and-pulses ws))
ops-and-pulses (word.Low a p ∷ ws) = rw (sum_by-cons (λ v. cond {A = ℕ} (is_pulse v) 1 0) (word.Low a p) ws) (omega (arith, ops-and-pulses ws))

-- a device's ops are its words but the pulses, and Begin and End
pub device_ops : (ws : List DevWord) → length (device_program ws) + count_by is_pulse ws ≡ length ws + 2
device_ops ws = omega (arith, ops-and-pulses ws)

-- the size of all devices, of their lists
pub sum_by-mapped : {X Y : Type 0} (f : Y → ℕ) (g : X → Y) (xs : List X) → sum_by f (map g xs) ≡ sum_by (λ x. f (g x)) xs
sum_by-mapped f g [] = refl
sum_by-mapped {X = X} f g (x ∷ xs) = rw (sum_by-cons f (g x) (map g xs), sum_by-cons (λ (y : X). f (g y)) x xs) (omega (arith, sum_by-mapped f g xs))

-- one more device
pub mapped_sum_more : {X Y : Type 0} (f : Y → ℕ) (g : X → Y) (xs : List X) (i : ℕ) (d : X) → i < length xs → sum_by f (map g (take (i + 1) xs)) ≡ sum_by f (map g (take i xs)) + f (g (get_or xs i d))
mapped_sum_more f g xs i d lt = ap (sum_by f) (map_more g xs i d lt) ∙ sum_by_push f (map g (take i xs)) (g (get_or xs i d))

-- four I/O APICs at most
pub ends_le : (i k : ℕ) → i ≤ 4 → 24 * i * k ≤ 96 * k
ends_le i k le = omega (arith, mul-le-mul_left k le)
