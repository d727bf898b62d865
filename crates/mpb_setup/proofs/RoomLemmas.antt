-- Where there is no fault, the config is small, and so is its room: each of at most 8,192 words costs at most 97, and the boot
-- program is short.
use Rattle.std.proofs.Common.{◌≡◌, ◌==◌, ℕ, ◌+◌, ◌*◌, ◌^◌, ◌<◌, ◌≤◌, Bool, true, false, cond, List, [], ◌∷◌, ◌++◌, length, length-append, map, filter_map, sum_by, count_by, None, Some, option_map, refl, sym, arith}
use Rattle.std.specs.Prelude.{unwrap_or}
use Rattle.std.specs.List.{AllByRecursion, find}
use Rattle.std.proofs.lemmas.Bool.{eqb-true}
use Rattle.std.proofs.lemmas.List.Sums.{sum_by-cons, sum_by-append}
use Rattle.std.proofs.Math.Nat.{mul-le-mul_left}
use Rattle.mpt_route.specs.declared.platform.Platform.{Platform}
use Rattle.mpt_route.specs.Routes.{routes_of}
use Rattle.mpb_spec.specs.declared.agent.Op.{Op}
use Rattle.mpb_spec.specs.declared.agent.Op.TheVariants as op
use Rattle.mpb_spec.specs.declared.config.DevWord.{DevWord}
use Rattle.mpb_spec.specs.declared.config.DevWord.TheVariants as word
use Rattle.mpb_spec.specs.Numbers.{IsAscending, AreBytes}
use Rattle.mpb_spec.specs.Plan.{Plan, CpuPlan, op_of_word, device_program, plan_size}
use Rattle.mpb_spec.specs.Room.{is_pulse, is_high, is_write, is_eoi, room}
use Rattle.mpb_script.specs.declared.script.Script.{Script}
use Rattle.mpb_script.specs.declared.script.CpuScript.{CpuScript}
use Rattle.mpb_script.specs.Values.{HasScriptValues}
use Rattle.mpb_setup.specs.Boot.{boot_id_of, boot_program_of}
use Rattle.mpb_setup.specs.Board.{enabled_ids, io_ids, board_ids, cpu_words, cpu_plan_of, board_config_of}
use Rattle.mpb_setup.specs.Faults.{board_fault_of}
use Rattle.mpb_setup.proofs.FaultLemmas.{no_fault}
use Rattle.mpb_setup.proofs.BoardLemmas.{ids_ascending}
use Rattle.mpb_setup.proofs.BootLemmas.{boot_short, boot_writes, boot_ends}

-- what a program adds to the room, where there are 96 pins
abbrev cost : List Op → ℕ
cost ops = length ops + count_by is_write ops + 96 * count_by is_eoi ops

counted : (f : Op → Bool) (xs ys : List Op) → count_by f (xs ++ ys) ≡ count_by f xs + count_by f ys
counted f xs ys = sum_by-append (λ o. cond {A = ℕ} (f o) 1 0) xs ys

cost-append : (xs ys : List Op) → cost (xs ++ ys) ≡ cost xs + cost ys
cost-append xs ys = omega (arith, length-append xs ys, counted is_write xs ys, counted is_eoi xs ys)

op_cost : (o : Op) → cond {A = ℕ} (is_write o) 1 0 + 96 * cond {A = ℕ} (is_eoi o) 1 0 ≤ 96
op_cost (op.IoWin a v) = omega arith
op_cost op.Eoi = omega arith
op_cost o = omega arith

words_cost : (ops : List Op) → cost ops ≤ 97 * length ops
words_cost [] = omega arith
words_cost (o ∷ ops) = rw (sum_by-cons (λ x. cond {A = ℕ} (is_write x) 1 0) o ops, sum_by-cons (λ x. cond {A = ℕ} (is_eoi x) 1 0) o ops) (omega (arith, op_cost o, words_cost ops))

-- a sum over ascending ids in which one id counts
zero_sum : (n v : ℕ) (f : ℕ → Bool) (ids : List ℕ) → ((id : ℕ) → f id ≡ true → id ≡ v) → AllByRecursion (λ id. v < id) ids → sum_by (λ id. cond (f id) n 0) ids ≡ 0
zero_sum n v f [] only above = refl
zero_sum n v f (id ∷ ids) only above = go (f id) refl (zero_sum n v f ids only above.1)
  where
    go : (b : Bool) → f id ≡ b → sum_by (λ x. cond (f x) n 0) ids ≡ 0 → sum_by (λ x. cond (f x) n 0) (id ∷ ids) ≡ 0
    go true b rest = absurd (let same = only id b in omega (arith, same, above.0))
    go false b rest = rw (sum_by-cons (λ (x : ℕ). cond (f x) n 0) id ids, b) (omega (arith, rest))

once_sum : (n v : ℕ) (f : ℕ → Bool) (ids : List ℕ) → ((id : ℕ) → f id ≡ true → id ≡ v) → IsAscending ids → sum_by (λ id. cond (f id) n 0) ids ≤ n
once_sum n v f [] only up = omega arith
once_sum n v f (id ∷ ids) only up = go (f id) refl (once_sum n v f ids only up.1) (λ q. zero_sum n v f ids only q)
  where
    go : (b : Bool) → f id ≡ b → sum_by (λ x. cond (f x) n 0) ids ≤ n → (AllByRecursion (λ x. v < x) ids → sum_by (λ x. cond (f x) n 0) ids ≡ 0) → sum_by (λ x. cond (f x) n 0) (id ∷ ids) ≤ n
    go true b rest zero = let none = zero (rw (sym (only id b)) up.0) in rw (sum_by-cons (λ (x : ℕ). cond (f x) n 0) id ids, b) (omega (arith, none))
    go false b rest zero = rw (sum_by-cons (λ (x : ℕ). cond (f x) n 0) id ids, b) (omega (arith, rest))

-- the words of the board's processors are at most those of the script
no_words : (ids : List ℕ) → sum_by (λ id. length (cpu_words [] id)) ids ≡ 0
no_words [] = refl
no_words (id ∷ ids) = rw (sum_by-cons (λ (x : ℕ). length (cpu_words [] x)) id ids) (omega (arith, no_words ids))

one_script : (c : CpuScript) (cs : List CpuScript) (ids : List ℕ) → sum_by (λ id. length (cpu_words (c ∷ cs) id)) ids ≤ sum_by (λ id. cond (c.id == id) (length c.words) 0) ids + sum_by (λ id. length (cpu_words cs id)) ids
one_script c cs [] = omega arith
one_script c cs (id ∷ ids) =
    rw (sum_by-cons (λ (x : ℕ). length (cpu_words (c ∷ cs) x)) id ids, sum_by-cons (λ (x : ℕ). cond (c.id == x) (length c.words) 0) id ids, sum_by-cons (λ (x : ℕ). length (cpu_words cs x)) id ids)
    (omega (arith, go (c.id == id), one_script c cs ids))
  where
    go : (b : Bool) → length (unwrap_or (option_map (λ (d : CpuScript). d.words) (cond b (Some c) (find (λ d. d.id == id) cs))) []) ≤ cond b (length c.words) 0 + length (cpu_words cs id)
    go true = omega arith
    go false = omega arith

words_sum : (cs : List CpuScript) (ids : List ℕ) → IsAscending ids → sum_by (λ id. length (cpu_words cs id)) ids ≤ sum_by (λ c. length c.words) cs
words_sum [] ids up = omega (arith, no_words ids)
words_sum (c ∷ cs) ids up =
    rw (sum_by-cons (λ (d : CpuScript). length d.words) c cs)
    (omega (arith, one_script c cs ids, once_sum (length c.words) c.id (λ id. c.id == id) ids (λ id e. sym (eqb-true c.id id e)) up, words_sum cs ids up))

-- what the processors add
abbrev cpus_cost : List CpuPlan → ℕ
cpus_cost cpus = sum_by (λ q. length q.program) cpus + sum_by (λ q. count_by is_write q.program) cpus + 96 * sum_by (λ q. count_by is_eoi q.program) cpus

plan_cost : (p : Platform) (ops : List Op) (s : Script) (id : ℕ) → cost (cpu_plan_of p ops s id).program ≤ cond (id == boot_id_of p) (cost ops) 0 + 97 * length (cpu_words s.cpus id)
plan_cost p ops s id = omega (arith, cost-append (cond (id == boot_id_of p) ops []) (cpu_words s.cpus id), boot (id == boot_id_of p), words_cost (cpu_words s.cpus id))
  where
    boot : (b : Bool) → cost (cond b ops []) ≡ cond b (cost ops) 0
    boot true = refl
    boot false = refl

plans_cost : (p : Platform) (ops : List Op) (s : Script) (ids : List ℕ) → cpus_cost (map (cpu_plan_of p ops s) ids) ≤ sum_by (λ id. cond (id == boot_id_of p) (cost ops) 0) ids + 97 * sum_by (λ id. length (cpu_words s.cpus id)) ids
plans_cost p ops s [] = omega arith
plans_cost p ops s (id ∷ ids) =
    let q = cpu_plan_of p ops s id in
    let qs = map (cpu_plan_of p ops s) ids in
    rw (sum_by-cons (λ (x : CpuPlan). length x.program) q qs, sum_by-cons (λ (x : CpuPlan). count_by is_write x.program) q qs, sum_by-cons (λ (x : CpuPlan). count_by is_eoi x.program) q qs, sum_by-cons (λ (x : ℕ). cond (x == boot_id_of p) (cost ops) 0) id ids, sum_by-cons (λ (x : ℕ). length (cpu_words s.cpus x)) id ids)
    (omega (arith, plan_cost p ops s id, plans_cost p ops s ids))

pub cpus_small : (p : Platform) (ops : List Op) (s : Script) (ids : List ℕ) → IsAscending ids → cpus_cost (map (cpu_plan_of p ops s) ids) ≤ cost ops + 97 * sum_by (λ c. length c.words) s.cpus
cpus_small p ops s ids up =
    omega (arith, plans_cost p ops s ids, once_sum (cost ops) (boot_id_of p) (λ id. id == boot_id_of p) ids (λ id e. eqb-true id (boot_id_of p) e) up, words_sum s.cpus ids up)

-- what the devices add
words_le : (ws : List DevWord) → length (filter_map op_of_word ws ++ op.End ∷ []) + 2 * count_by is_pulse ws + count_by is_high ws ≤ 2 * length ws + 1
words_le [] = omega arith
words_le (word.Pulse a p ∷ ws) = rw (sum_by-cons (λ v. cond {A = ℕ} (is_pulse v) 1 0) (word.Pulse a p) ws, sum_by-cons (λ v. cond {A = ℕ} (is_high v) 1 0) (word.Pulse a p) ws) (omega (arith, words_le ws))
words_le (word.High a p ∷ ws) = rw (sum_by-cons (λ v. cond {A = ℕ} (is_pulse v) 1 0) (word.High a p) ws, sum_by-cons (λ v. cond {A = ℕ} (is_high v) 1 0) (word.High a p) ws) (omega (arith, words_le ws))
words_le (word.Low a p ∷ ws) = rw (sum_by-cons (λ v. cond {A = ℕ} (is_pulse v) 1 0) (word.Low a p) ws, sum_by-cons (λ v. cond {A = ℕ} (is_high v) 1 0) (word.Low a p) ws) (omega (arith, words_le ws))

devices_le : (ds : List (List DevWord)) → sum_by (λ ws. length (device_program ws)) ds + 2 * sum_by (λ ws. count_by is_pulse ws) ds + sum_by (λ ws. count_by is_high ws) ds ≤ 2 * sum_by length ds + 2 * length ds
devices_le [] = omega arith
devices_le (ws ∷ ds) =
    rw (sum_by-cons (λ (vs : List DevWord). length (device_program vs)) ws ds, sum_by-cons (λ (vs : List DevWord). count_by is_pulse vs) ws ds, sum_by-cons (λ (vs : List DevWord). count_by is_high vs) ws ds, sum_by-cons (length {A = DevWord}) ws ds)
    (omega (arith, words_le ws, devices_le ds))

devices_size : (ds : List (List DevWord)) → sum_by (λ ws. length ws + 2) ds ≡ sum_by length ds + 2 * length ds
devices_size [] = refl
devices_size (ws ∷ ds) = rw (sum_by-cons (λ (vs : List DevWord). length vs + 2) ws ds, sum_by-cons (length {A = DevWord}) ws ds) (omega (arith, devices_size ds))

-- four I/O APICs have 96 pins
ends_le : (i k : ℕ) → i ≤ 4 → 24 * i * k ≤ 96 * k
ends_le i k le = omega (arith, mul-le-mul_left k le)

-- the whole
pub record IsSmall (c : Plan) : Type 0 where
  pub size : plan_size c < 2 ^ 32
  pub room : room c < 850000

pub config_small : (p : Platform) (s : Script) → board_fault_of p s ≡ None → HasScriptValues s → AreBytes (enabled_ids p) → IsSmall (board_config_of p (routes_of p s.elcr) s)
unfolding board_config_of
config_small p s e v bytes =
    let h = no_fault p s e in
    let ops = boot_program_of p (routes_of p s.elcr) s.page in
    let ids = board_ids p s in
    let cpus = map (cpu_plan_of p ops s) ids in
    let costs = cpus_small p ops s ids (ids_ascending p s) in
    let short = boot_short p s.elcr s.page bytes h.processors in
    let writes = boot_writes p s.elcr s.page in
    let ends = boot_ends p s.elcr s.page in
    record {
      size = omega (arith, costs, short, writes, ends, devices_size s.devices, v.few_words, v.few_devices);
      room = omega (arith, costs, short, writes, ends, devices_le s.devices, v.few_words, v.few_devices, h.few_ios, ends_le (length (io_ids p)) (sum_by (λ (q : CpuPlan). count_by is_eoi q.program) cpus) h.few_ios);
    }
