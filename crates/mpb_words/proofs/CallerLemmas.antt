-- What a word says has the values of its kind.
use Rattle.std.proofs.Common.{◌≡◌, ℕ, ◌≤◌, Bool, true, false, cond, ◌&&◌, ◌||◌, ◌⊎◌, ◌==◌, inl, inr, List, [], ◌∷◌, length, map, slice_index, Option, Some, None, is_some, Result, Ok, Err, refl, subst, arith, nat_le}
use Rattle.std.proofs.lemmas.Bool.{leb-true, le-leb, eqb-true, eq-eqb}
use Rattle.std.specs.List.{list_all}
use Rattle.mpb_spec.specs.declared.agent.Op.{Op}
use Rattle.mpb_spec.specs.declared.agent.Op.TheVariants as op
use Rattle.mpb_spec.specs.declared.config.DevWord.{DevWord}
use Rattle.mpb_spec.specs.declared.config.DevWord.TheVariants as dev
use Rattle.mpb_spec.specs.Configs.{is_script_op, IsOpOn, IsWordOn}
use Rattle.mpb_words.specs.declared.refusal.WordWhy.{WordWhy}
use Rattle.mpb_words.specs.declared.refusal.WordWhy.TheVariants as why
use Rattle.mpb_words.specs.declared.names.CpuName.{CpuName}
use Rattle.mpb_words.specs.declared.names.CpuName.TheVariants as cpu
use Rattle.mpb_words.specs.declared.names.DeviceName.{DeviceName}
use Rattle.mpb_words.specs.declared.names.DeviceName.TheVariants as device
use Rattle.mpb_words.specs.Numbers.{value_of, are_within, first_two, judged, number_of, numbers_of}
use Rattle.mpb_words.specs.Words.{parts_of, cpu_name_of, cpu_limits, is_in_range, ranged, cpu_op, cpu_op_named, cpu_op_in, cpu_op_of, device_name_of, device_limits, device_word, device_word_named, device_word_in, device_word_of, said}
use Rattle.mpb_words.specs.Values.{IsCpuWord, IsDeviceWord}

-- numbers that were accepted are within the first two limits
abbrev AreUpTo : List ℕ → ℕ × ℕ → Type 0
AreUpTo limits n = (n.0 ≤ slice_index limits 0) × (n.1 ≤ slice_index limits 1)

tested : {A : Type 0} (b : Bool) (x : Result A WordWhy) (w : WordWhy) (y : A) → cond b x (Err w) ≡ Ok y → (b ≡ true) × (x ≡ Ok y)
tested true x w y e = (refl, e)
tested false x w y e = cc

both_pass : (b c : Bool) → (b && c) ≡ true → (b ≡ true) × (c ≡ true)
both_pass true c e = (refl, e)
both_pass false c e = cc

within : (limits : List ℕ) (ns : List (Option ℕ)) → length limits ≤ 2 → length ns ≡ length limits → are_within ns limits ≡ true → AreUpTo limits (first_two ns)
within [] [] few same pass = (omega arith, omega arith)
within [] (a ∷ ns) few same pass = absurd (omega arith)
within (l ∷ []) [] few same pass = absurd (omega arith)
within (l ∷ []) (a ∷ []) few same pass = (leb-true (value_of a) l (both_pass (nat_le (value_of a) l) true pass).0, omega arith)
within (l ∷ []) (a ∷ b ∷ ns) few same pass = absurd (omega arith)
within (l ∷ m ∷ []) [] few same pass = absurd (omega arith)
within (l ∷ m ∷ []) (a ∷ []) few same pass = absurd (omega arith)
within (l ∷ m ∷ []) (a ∷ b ∷ []) few same pass =
    let one = both_pass (nat_le (value_of a) l) (nat_le (value_of b) m && true) pass in
    (leb-true (value_of a) l one.0, leb-true (value_of b) m (both_pass (nat_le (value_of b) m) true one.1).0)
within (l ∷ m ∷ []) (a ∷ b ∷ c ∷ ns) few same pass = absurd (omega arith)
within (l ∷ m ∷ k ∷ limits) ns few same pass = absurd (omega arith)

judged-within : (limits : List ℕ) (ns : List (Option ℕ)) (n : ℕ × ℕ) → length limits ≤ 2 → judged limits ns ≡ Ok n → AreUpTo limits n
judged-within limits ns n few e =
    let counted = tested (length ns == length limits) _ why.Count n e in
    let numbers = tested (list_all is_some ns) _ why.Number n counted.1 in
    let ranged = tested (are_within ns limits) (Ok (first_two ns)) why.Range n numbers.1 in
    let same : first_two ns ≡ n = cc in
    subst (AreUpTo limits) same (within limits ns few (eqb-true (length ns) (length limits) counted.0) ranged.0)

-- what was said has numbers that were accepted
said_by : {A : Type 0} (P : A → Type 0) (f : ℕ → ℕ → A) (limits : List ℕ) (parts : List (List ℕ)) (x : A) → length limits ≤ 2 → ((n : ℕ × ℕ) → AreUpTo limits n → P (f n.0 n.1)) → (r : Result (ℕ × ℕ) WordWhy) → numbers_of limits parts ≡ r → said f r ≡ Ok x → P x
said_by P f limits parts x few holds (Err w) is e = cc
said_by P f limits parts x few holds (Ok n) is e =
    let same : f n.0 n.1 ≡ x = cc in
    subst P same (holds n (judged-within limits (map number_of parts) n few is))

either_model : (n : ℕ) → ((n == 0) || (n == 15)) ≡ true → (n ≡ 0) ⊎ (n ≡ 15)
either_model n e = go (n == 0) refl e where
  go : (b : Bool) → (n == 0) ≡ b → (b || (n == 15)) ≡ true → (n ≡ 0) ⊎ (n ≡ 15)
  go true w h = inl (eqb-true n 0 w)
  go false w h = inr (eqb-true n 15 h)

cpu_values : (name : CpuName) (n : ℕ × ℕ) → AreUpTo (cpu_limits name) n → is_in_range name n.0 ≡ true → IsCpuWord (cpu_op name n.0 n.1)
cpu_values cpu.Ipi n up in_range = (omega arith, omega arith)
cpu_values cpu.Ipl n up in_range = (omega arith, omega arith)
cpu_values cpu.Nmi n up in_range = omega arith
cpu_values cpu.Take n up in_range = tt
cpu_values cpu.Poll n up in_range = tt
cpu_values cpu.Eoi n up in_range = tt
cpu_values cpu.Tpr n up in_range = omega arith
cpu_values cpu.Ldr n up in_range = omega arith
cpu_values cpu.Dfr n up in_range = either_model n.0 in_range
cpu_values cpu.IoSel n up in_range = (omega arith, omega arith)
cpu_values cpu.IoWin n up in_range = (omega arith, omega arith)
cpu_values cpu.IoRead n up in_range = omega arith
cpu_values cpu.Pause n up in_range = up.0

few_limits : (name : CpuName) → length (cpu_limits name) ≤ 2
few_limits cpu.Ipi = omega arith
few_limits cpu.Ipl = omega arith
few_limits cpu.Nmi = omega arith
few_limits cpu.Take = omega arith
few_limits cpu.Poll = omega arith
few_limits cpu.Eoi = omega arith
few_limits cpu.Tpr = omega arith
few_limits cpu.Ldr = omega arith
few_limits cpu.Dfr = omega arith
few_limits cpu.IoSel = omega arith
few_limits cpu.IoWin = omega arith
few_limits cpu.IoRead = omega arith
few_limits cpu.Pause = omega arith

said_in_range : (name : CpuName) (parts : List (List ℕ)) (x : Op) (r : Result (ℕ × ℕ) WordWhy) → numbers_of (cpu_limits name) parts ≡ r → said (cpu_op name) (ranged name r) ≡ Ok x → IsCpuWord x
said_in_range name parts x (Err w) is e = cc
said_in_range name parts x (Ok n) is e = go (is_in_range name n.0) refl e where
  go : (b : Bool) → is_in_range name n.0 ≡ b → said (cpu_op name) (cond b (Ok n) (Err why.Range)) ≡ Ok x → IsCpuWord x
  go true w h =
      let same : cpu_op name n.0 n.1 ≡ x = cc in
      subst IsCpuWord same (cpu_values name n (judged-within (cpu_limits name) (map number_of parts) n (few_limits name) is) w)
  go false w h = cc

named_cpu : (name : Option CpuName) (parts : List (List ℕ)) (op : Op) → cpu_op_named name parts ≡ Ok op → IsCpuWord op
named_cpu None parts op e = cc
named_cpu (Some name) parts op e = said_in_range name parts op (numbers_of (cpu_limits name) parts) refl e

pub cpu_in : (parts : List (List ℕ)) (op : Op) → cpu_op_in parts ≡ Ok op → IsCpuWord op
cpu_in [] op e = cc
cpu_in (t ∷ parts) op e = named_cpu (cpu_name_of t) parts op e

-- a processor's word has the values of one
pub cpu_op_of-values : (word : List ℕ) (op : Op) → cpu_op_of word ≡ Ok op → IsCpuWord op
unfolding cpu_op_of
cpu_op_of-values word op e = cpu_in (parts_of word) op e

device_values : (name : DeviceName) (n : ℕ × ℕ) → AreUpTo (device_limits name) n → IsDeviceWord (device_word name n.0 n.1)
device_values device.Pulse n up = (omega arith, omega arith)
device_values device.High n up = (omega arith, omega arith)
device_values device.Low n up = (omega arith, omega arith)

named_device : (name : Option DeviceName) (parts : List (List ℕ)) (w : DevWord) → device_word_named name parts ≡ Ok w → IsDeviceWord w
named_device None parts w e = cc
named_device (Some name) parts w e = said_by IsDeviceWord (device_word name) (device_limits name) parts w (omega arith) (device_values name) (numbers_of (device_limits name) parts) refl e

pub device_in : (parts : List (List ℕ)) (w : DevWord) → device_word_in parts ≡ Ok w → IsDeviceWord w
device_in [] w e = cc
device_in (t ∷ parts) w e = named_device (device_name_of t) parts w e

-- a device's word has the values of one
pub device_word_of-values : (word : List ℕ) (w : DevWord) → device_word_of word ≡ Ok w → IsDeviceWord w
unfolding device_word_of
device_word_of-values word w e = device_in (parts_of word) w e

-- a model is 0 or 15
pub two_models : (n : ℕ) → (n ≡ 0) ⊎ (n ≡ 15) → ((n == 0) || (n == 15)) ≡ true
two_models n (inl e) = rw (eq-eqb n 0 e) refl
two_models n (inr e) = rw (eq-eqb n 15 e) (elim (n == 0) as (λ b. (b || true) ≡ true) [ true ↦ refl | false ↦ refl ])

-- an operation of a processor's script, at one of four places
pub IsCpuWord-script : (op : Op) → IsCpuWord op → (is_script_op op ≡ true) × IsOpOn 4 op
IsCpuWord-script (op.Ipi d v) has = (refl, tt)
IsCpuWord-script (op.Ipl d v) has = (refl, tt)
IsCpuWord-script (op.Nmi d) has = (refl, tt)
IsCpuWord-script op.Take has = (refl, tt)
IsCpuWord-script op.Poll has = (refl, tt)
IsCpuWord-script op.Eoi has = (refl, tt)
IsCpuWord-script (op.Tpr n) has = (refl, tt)
IsCpuWord-script (op.Ldr n) has = (refl, tt)
IsCpuWord-script (op.Dfr n) has = (two_models n has, tt)
IsCpuWord-script (op.IoSel a r) has = (refl, has.0)
IsCpuWord-script (op.IoWin a v) has = (refl, has.0)
IsCpuWord-script (op.IoRead a) has = (refl, has)
IsCpuWord-script (op.Pause us) has = (le-leb us 1000000 has, tt)
IsCpuWord-script _ has = absurd has

-- a word of a device, at one of four places
pub IsDeviceWord-on : (w : DevWord) → IsDeviceWord w → IsWordOn 4 w
IsDeviceWord-on (dev.Pulse a pin) has = has
IsDeviceWord-on (dev.High a pin) has = has
IsDeviceWord-on (dev.Low a pin) has = has
