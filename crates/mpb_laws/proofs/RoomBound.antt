-- The room is no more than a multiple of the ops and pulses.
use Rattle.std.proofs.Common.{ℕ, ◌+◌, ◌*◌, ◌≤◌, Bool, true, false, cond, List, [], ◌∷◌, ◌++◌, length, sum_by, count_by, arith}
use Rattle.std.proofs.Math.Nat.{mul-le-mul_left}
use Rattle.std.proofs.lemmas.List.Sums.{sum_by-cons}
use Rattle.std.specs.List.{filter_map}
use Rattle.mpb_spec.specs.declared.agent.Op.TheVariants as op
use Rattle.mpb_spec.specs.declared.config.DevWord.{DevWord}
use Rattle.mpb_spec.specs.declared.config.DevWord.TheVariants as word
use Rattle.mpb_spec.specs.Plan.{Plan, CpuPlan, op_of_word, device_program, plan_size}
use Rattle.mpb_spec.specs.Configs.{IsConfig}
use Rattle.mpb_spec.specs.Room.{room, is_pulse, is_high, is_write, is_eoi}

one_or_none : (b : Bool) → cond {A = ℕ} b 1 0 ≤ 1
one_or_none true = omega arith
one_or_none false = omega arith

-- a count is no more than what is counted
count-le : {X : Type 0} (f : X → Bool) (xs : List X) → count_by f xs ≤ length xs
count-le f [] = omega arith
count-le {X = X} f (x ∷ xs) = rw (sum_by-cons (λ (y : X). cond {A = ℕ} (f y) 1 0) x xs) (omega (arith, one_or_none (f x), count-le f xs))

counts-le : {X Y : Type 0} (f : Y → Bool) (g : X → List Y) (xs : List X) → sum_by (λ x. count_by f (g x)) xs ≤ sum_by (λ x. length (g x)) xs
counts-le f g [] = omega arith
counts-le {X = X} f g (x ∷ xs) =
    rw (sum_by-cons (λ (y : X). count_by f (g y)) x xs, sum_by-cons (λ (y : X). length (g y)) x xs) (omega (arith, count-le f (g x), counts-le f g xs))

-- a word is an op, and a high one a send too; or it is a pulse, with a collection and a send
words-le : (ws : List DevWord) → length (filter_map op_of_word ws ++ op.End ∷ []) + 2 * count_by is_pulse ws + count_by is_high ws ≤ 2 * length ws + 1
words-le [] = omega arith
words-le (word.Pulse a p ∷ ws) = rw (sum_by-cons (λ v. cond {A = ℕ} (is_pulse v) 1 0) (word.Pulse a p) ws, sum_by-cons (λ v. cond {A = ℕ} (is_high v) 1 0) (word.Pulse a p) ws) (omega (arith, words-le ws))
words-le (word.High a p ∷ ws) = rw (sum_by-cons (λ v. cond {A = ℕ} (is_pulse v) 1 0) (word.High a p) ws, sum_by-cons (λ v. cond {A = ℕ} (is_high v) 1 0) (word.High a p) ws) (omega (arith, words-le ws))
words-le (word.Low a p ∷ ws) = rw (sum_by-cons (λ v. cond {A = ℕ} (is_pulse v) 1 0) (word.Low a p) ws, sum_by-cons (λ v. cond {A = ℕ} (is_high v) 1 0) (word.Low a p) ws) (omega (arith, words-le ws))

devices-le : (ds : List (List DevWord)) → sum_by (λ ws. length (device_program ws)) ds + 2 * sum_by (λ ws. count_by is_pulse ws) ds + sum_by (λ ws. count_by is_high ws) ds ≤ 2 * sum_by (λ ws. length ws + 2) ds
devices-le [] = omega arith
devices-le (ws ∷ ds) =
    rw (sum_by-cons (λ (vs : List DevWord). length (device_program vs)) ws ds, sum_by-cons (λ (vs : List DevWord). count_by is_pulse vs) ws ds, sum_by-cons (λ (vs : List DevWord). count_by is_high vs) ws ds, sum_by-cons (λ (vs : List DevWord). length vs + 2) ws ds)
    (omega (arith, words-le ws, devices-le ds))

ends-le : (i k : ℕ) → i ≤ 4 → 24 * i * k ≤ 96 * k
ends-le i k le = omega (arith, mul-le-mul_left k le)

pub room_bound : (c : Plan) → IsConfig c → room c ≤ 98 * plan_size c + 4
room_bound c is =
    omega (
      arith,
      devices-le c.devices,
      counts-le is_write (λ (p : CpuPlan). p.program) c.cpus,
      counts-le is_eoi (λ (p : CpuPlan). p.program) c.cpus,
      ends-le (length c.ios) (sum_by (λ (p : CpuPlan). count_by is_eoi p.program) c.cpus) is.few_ios,
      is.few_ios,
    )
